-- Entries are read again.
use Rattle.std.proofs.Common.{◌≡◌, ℕ, ◌+◌, ◌-◌, ◌≤◌, ◌<◌, ◌^◌, List, [], ◌∷◌, ◌++◌, append_assoc, append-nil, length, flat_map, Option, Some, None, arith, refl, sym, ◌∙◌, ap, subst}
use Rattle.std.proofs.lemmas.List.Sums.{sum_by-cons}
use Rattle.satip_base.specs.declared.limits.TheConstants.{REPLY_BYTES, EVENT_BYTES, EVENT_DATAGRAMS}
use Rattle.satip_base.specs.Output.{Datagram, datagram_bytes}
use Rattle.satip_base.specs.Lists.{Each}
use Rattle.satip_entry_writer.specs.Fields.{u8_text, u16_text, u32_text, address_text, list_text}
use Rattle.satip_entry_writer.specs.Records.{answer_text, bytes_text, datagram_text, event_text, record_text}
use Rattle.satip_entry_reader.specs.Reading.{ReadsAgain, u8_read}
use Rattle.satip_entry_reader.proofs.ValuesAgain.{u16_again, u32_again}
use Rattle.satip_entry_reader.proofs.AnswersAgain.{answer_again}
use Rattle.satip_entry_reader.specs.ReadingEntries.{Entry, IsEntry, IsTarget, entry_text, read_address, read_counted, datagram_read, read_datagram_list, datagrams_read, entry_read}
use Rattle.satip_entry_reader.proofs.ListsAgain.{bytes_again, within}
use Rattle.satip_entry_reader.proofs.EventsAgain.{event_again}

counted_again : (room : ℕ) (bytes rest : List ℕ) → length bytes ≤ room → room < 2 ^ 32 → read_counted room (bytes_text bytes ++ rest) ≡ Some (bytes, rest)
unfolding read_counted
counted_again room bytes rest fits small =
    rw (
      append_assoc (u32_text (length bytes)) bytes rest,
      u32_again (length bytes) (bytes ++ rest) (omega (arith, fits, small)),
      within (length bytes) room fits,
      bytes_again bytes rest,
    ) refl

datagram_again : (room : ℕ) (d : Datagram) (rest : List ℕ) → IsTarget d → length d.bytes ≤ room → room < 2 ^ 32
    → datagram_read room (datagram_text d ++ rest) ≡ Some (d, rest)
unfolding datagram_read read_address
datagram_again room d rest h fits small =
    rw (
      append_assoc (address_text d.to) (bytes_text d.bytes) rest,
      append_assoc (u32_text d.to.ip) (u16_text d.to.port) (bytes_text d.bytes ++ rest),
      u32_again d.to.ip (u16_text d.to.port ++ (bytes_text d.bytes ++ rest)) h.ip,
      u16_again d.to.port (bytes_text d.bytes ++ rest) h.port,
      counted_again room d.bytes rest fits small,
    ) refl

datagrams_again : (room : ℕ) (ds : List Datagram) (rest : List ℕ) → Each IsTarget ds → datagram_bytes ds ≤ room → room < 2 ^ 32
    → datagrams_read (length ds) room (flat_map datagram_text ds ++ rest) ≡ Some (ds, rest)
unfolding datagrams_read
datagrams_again room [] rest h fits small = refl
datagrams_again room (d ∷ ds) rest h fits small =
    let more : length d.bytes + datagram_bytes ds ≤ room = subst (λ n. n ≤ room) (sum_by-cons (λ (x : Datagram). length x.bytes) d ds) fits in
    rw (
      append_assoc (datagram_text d) (flat_map datagram_text ds) rest,
      datagram_again room d (flat_map datagram_text ds ++ rest) h.0 (omega (arith, more)) small,
      datagrams_again (room - length d.bytes) ds rest h.1 (omega (arith, more)) (omega (arith, small)),
    ) refl

pub entry_again : ReadsAgain IsEntry entry_text entry_read
unfolding entry_read record_text read_datagram_list
entry_again e rest h =
    let t3 : List ℕ = u16_text (length e.datagrams) ++ (flat_map datagram_text e.datagrams ++ rest) in
    let t2 : List ℕ = bytes_text e.reply ++ t3 in
    let t1 : List ℕ = answer_text e.answer ++ t2 in
    let u2 : List ℕ = bytes_text e.reply ++ (list_text datagram_text e.datagrams) in
    let u1 : List ℕ = answer_text e.answer ++ u2 in
    let few = h.count in
    rw (
      append_assoc (event_text e.event) u1 rest,
      append_assoc (answer_text e.answer) u2 rest,
      append_assoc (bytes_text e.reply) (list_text datagram_text e.datagrams) rest,
      append_assoc (u16_text (length e.datagrams)) (flat_map datagram_text e.datagrams) rest,
      event_again e.event t1 h.event,
      answer_again e.answer t2 h.answer,
      counted_again REPLY_BYTES e.reply t3 h.reply (omega arith),
      u16_again (length e.datagrams) (flat_map datagram_text e.datagrams ++ rest) (omega (arith, few)),
      within (length e.datagrams) EVENT_DATAGRAMS few,
      datagrams_again EVENT_BYTES e.datagrams rest h.targets h.bytes (omega arith),
    ) refl

-- where nothing is read, no entry's record stands in front
pub no_entry : (bytes : List ℕ) → None ≡ entry_read bytes → (e : Entry) → IsEntry e → bytes ≡ entry_text e → ⊥
no_entry bytes none e is same =
    let whole : entry_read bytes ≡ Some (e, []) = ap entry_read (same ∙ sym (append-nil (entry_text e))) ∙ entry_again e [] is in
    cc (none, whole)

-- where something is left behind what is read, the bytes are no entry's record
pub no_entry_before : (bytes rest : List ℕ) (found : Entry) → Some (found, rest) ≡ entry_read bytes → (rest ≡ [] → ⊥)
    → (e : Entry) → IsEntry e → bytes ≡ entry_text e → ⊥
no_entry_before bytes rest found more left e is same =
    let whole : entry_read bytes ≡ Some (e, []) = ap entry_read (same ∙ sym (append-nil (entry_text e))) ∙ entry_again e [] is in
    left (ap rest_of (more ∙ whole))
  where
    rest_of : Option (Entry × List ℕ) → List ℕ
    rest_of None = []
    rest_of (Some (x, r)) = r

-- where no byte can be read, none is left
pub none_left : (bytes : List ℕ) → None ≡ u8_read bytes → bytes ≡ []
unfolding u8_read
none_left [] none = refl
none_left (byte ∷ bytes) none = cc none

-- where a byte can be read, one is left
pub some_left : (byte : ℕ) (bytes rest : List ℕ) → bytes ≡ u8_text byte ++ rest → bytes ≡ [] → ⊥
unfolding u8_text
some_left byte bytes rest front none = let no : byte ∷ rest ≡ [] = sym front ∙ none in cc no
