use Rattle.std.proofs.Common.{rules, refl, sym, ◌∙◌, arith}
use Rattle.hex.specs.Hex.{encode_lower}
use Rattle.satip_entry_writer.proofs.InBytes.{record_in_bytes}
use Rattle.satip_entry_reader.specs.ReadingEntries.{entry_text}
use Rattle.satip_audit.specs.Journals.{Placed, placed}
use Rattle.satip_audit.proofs.LineLemmas.{digits_without_end}
use Rattle.satip_audit.proofs.EntryLemmas.{are_bytes, as_words, fits_line, front_is, none_is, record_short, same_line}
use Rattle.satip_audit.proofs.lines.read_entry.Goals as goal

pub returns-in_default-clause-none : goal.returns-in_default-clause-none
returns-in_default-clause-none c = λ _ p is e.
    let text = entry_text p.entry in
    c.in_default.ensures.finds p.place p.caller (encode_lower text) is.place is.caller
    (digits_without_end text (are_bytes text is.bytes)) (e ∙ as_words p)

pub returns-in_default-decode-clause-none : goal.returns-in_default-decode-clause-none
returns-in_default-decode-clause-none c = λ _ p is e.
    let text = entry_text p.entry in
    let are = are_bytes text is.bytes in
    let words = c.in-Some.ensures.finds p.place p.caller (encode_lower text) is.place is.caller (digits_without_end text are) (e ∙ as_words p) in
    let short = record_short p.entry is.entry in
    let room = c.requires.room in
    none_is _ (c.in_default-decode.ensures.finds text are (omega (arith, short, room)) words.2)

pub returns-in_default-read_record-clause-none : goal.returns-in_default-read_record-clause-none
returns-in_default-read_record-clause-none c = λ _ p is e.
    let text = entry_text p.entry in
    let are = are_bytes text is.bytes in
    let words = c.in-Some.ensures.finds p.place p.caller (encode_lower text) is.place is.caller (digits_without_end text are) (e ∙ as_words p) in
    let short = record_short p.entry is.entry in
    let room = c.requires.room in
    let count = c.in-Some-decode.ensures.finds text are (omega (arith, short, room)) words.2 in
    let front = c.in-Some-decode.ensures.bytes text are (omega (arith, short, room)) words.2 in
    c.in_default-read_record.ensures.none refl p.entry is.entry (front_is _ text c.in-Some-decode.count _ (omega arith) count front)

pub returns-then-not-same_bytes-clause-none : goal.returns-then-not-same_bytes-clause-none
returns-then-not-same_bytes-clause-none c = λ _ p is e.
    let text = entry_text p.entry in
    let are = are_bytes text is.bytes in
    let words = c.in-Some.ensures.finds p.place p.caller (encode_lower text) is.place is.caller (digits_without_end text are) (e ∙ as_words p) in
    let short = record_short p.entry is.entry in
    let room = c.requires.room in
    let count = c.in-Some-decode.ensures.finds text are (omega (arith, short, room)) words.2 in
    let front = c.in-Some-decode.ensures.bytes text are (omega (arith, short, room)) words.2 in
    let whole = front_is _ text c.in-Some-decode.count _ (omega arith) count front in
    let q : Placed = placed c.in-Some.place c.in-Some.caller c.read_record.new.event c.in-Some-read_record.answer c.read_record.new.out in
    c.if-not-same_bytes.ensures.same
    (c.bytes.ensures.bytes ∙ c.write_entry.ensures.line ∙ same_line q p words.0 words.1 (sym c.in-Some-read_record.ensures.right ∙ whole) ∙ sym e)

pub returns-clause-fits : goal.returns-clause-fits
returns-clause-fits c =
    let q : Placed = placed c.in-Some.place c.in-Some.caller c.read_record.new.event c.in-Some-read_record.answer c.read_record.new.out in
    fits_line c.decode.new.room c.args.line.now q _ c.in-Some-decode.count c.in-Some-read_record.ensures.right
    (sym c.if-not-same_bytes.ensures.same ∙ c.bytes.ensures.bytes ∙ c.write_entry.ensures.line) (omega arith) c.in-Some-decode.ensures.within

pub returns-clause-within : goal.returns-clause-within
returns-clause-within c = record {
  place = search rules;
  caller = search rules;
  entry = (c.write_entry.ensures.typed 0).entry;
  bytes = record_in_bytes _ (c.write_entry.ensures.typed 0);
}
