use Rattle.std.proofs.Common.{◌≡◌, ℕ, List, None, Some, subst}
use Rattle.satip_entry_reader.specs.ReadingEntries.{Entry, entry_read}
use Rattle.satip_entry_reader.proofs.EntriesAgain.{no_entry, no_entry_before}
use Rattle.satip_entry_reader.proofs.entries.read_record.Goals as goal

pub returns-in_default-clause-none : goal.returns-in_default-clause-none
returns-in_default-clause-none c = λ none.
    no_entry c.args.bytes.now (subst (λ (t : List ℕ). None ≡ entry_read t) c.new-reading.ensures.bytes c.in_default.ensures.read)

pub returns-then-not-is_end-clause-none : goal.returns-then-not-is_end-clause-none
returns-then-not-is_end-clause-none c = λ none.
    let found : Entry = record {
      event = c.read_entry.new.event;
      answer = c.in-Some.answer;
      reply = c.read_entry.new.out.reply;
      datagrams = c.read_entry.new.out.datagrams;
    } in
    no_entry_before c.args.bytes.now c.read_entry.new.bytes found
    (subst (λ (t : List ℕ). Some (found, c.read_entry.new.bytes) ≡ entry_read t) c.new-reading.ensures.bytes c.in-Some.ensures.read)
    c.if-not-is_end.ensures.end
