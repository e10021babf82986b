use Rattle.std.proofs.Common.{◌≡◌, ℕ, ◌*◌, ◌≤◌, List, [], length, take, drop, take-append-drop, refl, sym, subst, arith, length-drop}
use Rattle.hex.specs.Hex.{decode_of}
use Rattle.satip_frame.specs.declared.framing.Break.TheVariants.{Bad, TooLong}
use Rattle.satip_frame.specs.Stream.{skip_newlines}
use Rattle.satip_ts.proofs.HexDigits.{length-digits, read_bytes, front_reads, back_reads, front_read, back_read}
use Rattle.satip_script.proofs.TextLemmas.{first_bytes, first_leads, front_message, front_short, front_broken, joined_sees, skip_taken}
use Rattle.satip_script.proofs.messages.look_at.Goals as goal

pub feed_digits-requires-clause-hex : goal.feed_digits-requires-clause-hex
feed_digits-requires-clause-hex c =
    front_reads c.args.digits.now _ c.min-count.result c.requires.hex (omega (arith, c.min-count.ensures, c.requires.some)) c.split_at.ensures.front

pub look_at_last-requires-clause-hex : goal.look_at_last-requires-clause-hex
look_at_last-requires-clause-hex c =
    back_reads c.args.digits.now _ c.min-count.result c.requires.hex (omega (arith, c.min-count.ensures, c.requires.some)) c.split_at.ensures.back

pub look_at_last-requires-clause-room : goal.look_at_last-requires-clause-room
look_at_last-requires-clause-room c =
    let count = c.min-count.result in
    let read = read_bytes (decode_of c.args.digits.now) c.requires.hex in
    let text = read.0 in
    let len = length-digits c.args.digits.now text read.1 in
    let within : 2 * count ≤ length c.args.digits.now = omega (arith, c.min-count.ensures, c.requires.some) in
    let bytes = first_bytes c.reset.new.self (take count text) c.feed_digits.new.framer.bytes c.reset.ensures.made
    (c.feed_digits.ensures.bytes (take count text) (front_read c.args.digits.now c.split_at.result.0.now text count read.1 within c.split_at.ensures.front)) in
    let told = c.in-More.ensures.told (take count text) [] (first_leads (take count text) c.feed_digits.new.framer.bytes bytes) in
    let short = front_short text count (c.requires.clean text read.1) (omega (arith, len, within)) told.0 in
    let room = c.in-More.ensures.room refl in
    omega (arith, room, short, len, within, c.min-count.ensures, c.split_at.ensures.back_len)

pub returns-in-Message : goal.returns-in-Message
returns-in-Message c = record {
  sees = λ text h.
      let count = c.min-count.result in
      let len = length-digits c.args.digits.now text h in
      let within : 2 * count ≤ length c.args.digits.now = omega (arith, c.min-count.ensures, c.requires.some) in
      let bytes = first_bytes c.reset.new.self (take count text) c.feed_digits.new.framer.bytes c.reset.ensures.made
      (c.feed_digits.ensures.bytes (take count text) (front_read c.args.digits.now c.split_at.result.0.now text count h within c.split_at.ensures.front)) in
      front_message text count c.next.new.self (c.requires.clean text h) (omega (arith, len, c.min-count.ensures, c.requires.some))
      (c.in-Message.ensures.told (take count text) [] (first_leads (take count text) c.feed_digits.new.framer.bytes bytes));
}

pub returns-in-More : goal.returns-in-More
returns-in-More c = record {
  sees = λ text h.
      let count = c.min-count.result in
      let len = length-digits c.args.digits.now text h in
      let within : 2 * count ≤ length c.args.digits.now = omega (arith, c.min-count.ensures, c.requires.some) in
      let clean = c.requires.clean text h in
      let bytes = first_bytes c.reset.new.self (take count text) c.feed_digits.new.framer.bytes c.reset.ensures.made
      (c.feed_digits.ensures.bytes (take count text) (front_read c.args.digits.now c.split_at.result.0.now text count h within c.split_at.ensures.front)) in
      let told = c.in-More.ensures.told (take count text) [] (first_leads (take count text) c.feed_digits.new.framer.bytes bytes) in
      let short = front_short text count clean (omega (arith, len, within)) told.0 in
      let one : length (drop count text) ≡ 1 = omega (arith, length-drop count text, short, len, c.min-count.ensures, c.requires.some) in
      let back = back_read c.args.digits.now c.split_at.result.1.now text count h within c.split_at.ensures.back in
      let whole = subst (λ (t : List ℕ). skip_newlines t ≡ t) (sym (take-append-drop count text)) clean in
      joined_sees text count c.look_at_last.new.framer c.look_at_last.result
      (c.look_at_last.ensures.sees (take count text) (drop count text) back one (skip_taken count text clean) whole told.0 told.1);
}

pub returns-in-Bad : goal.returns-in-Bad
returns-in-Bad c = record {
  sees = λ text h.
      let count = c.min-count.result in
      let within : 2 * count ≤ length c.args.digits.now = omega (arith, c.min-count.ensures, c.requires.some) in
      let bytes = first_bytes c.reset.new.self (take count text) c.feed_digits.new.framer.bytes c.reset.ensures.made
      (c.feed_digits.ensures.bytes (take count text) (front_read c.args.digits.now c.split_at.result.0.now text count h within c.split_at.ensures.front)) in
      front_broken text count Bad (c.in-Bad.ensures.told (take count text) [] (first_leads (take count text) c.feed_digits.new.framer.bytes bytes)).0;
}

pub returns-in-TooLong : goal.returns-in-TooLong
returns-in-TooLong c = record {
  sees = λ text h.
      let count = c.min-count.result in
      let within : 2 * count ≤ length c.args.digits.now = omega (arith, c.min-count.ensures, c.requires.some) in
      let bytes = first_bytes c.reset.new.self (take count text) c.feed_digits.new.framer.bytes c.reset.ensures.made
      (c.feed_digits.ensures.bytes (take count text) (front_read c.args.digits.now c.split_at.result.0.now text count h within c.split_at.ensures.front)) in
      front_broken text count TooLong (c.in-TooLong.ensures.told (take count text) [] (first_leads (take count text) c.feed_digits.new.framer.bytes bytes)).0;
}
