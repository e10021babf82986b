use Rattle.std.proofs.Common.{arith}
use Rattle.hex.specs.Hex.{decode_of}
use Rattle.satip_frame.specs.Stream.{skip_newlines}
use Rattle.satip_ts.proofs.HexDigits.{length-digits, read_bytes, is_read}
use Rattle.satip_script.proofs.TextLemmas.{nothing_left, empty_rest, two_left, left_clean, sees_behind, skip_same, whole_behind, broken_behind_newlines, nothing_behind_newlines}
use Rattle.satip_script.proofs.messages.see.Goals as goal

pub returns-then-is_empty : goal.returns-then-is_empty
returns-then-is_empty c = record {
  sees = λ text h.
      nothing_left text (empty_rest (skip_newlines text) c.behind_newlines-rest.result.now c.is_empty.result c.is_empty.ensures c.if-is_empty.true
      (c.behind_newlines-rest.ensures.rest text h));
}

pub look_at-seen-requires-clause-hex : goal.look_at-seen-requires-clause-hex
look_at-seen-requires-clause-hex c =
    let read = read_bytes (decode_of c.args.digits.now) c.requires in
    is_read _ (skip_newlines read.0) (c.behind_newlines-rest.ensures.rest read.0 read.1)

pub look_at-seen-requires-clause-some : goal.look_at-seen-requires-clause-some
look_at-seen-requires-clause-some c =
    let read = read_bytes (decode_of c.args.digits.now) c.requires in
    two_left (skip_newlines read.0) c.behind_newlines-rest.result.now c.is_empty.result c.is_empty.ensures c.if-is_empty.false
    (c.behind_newlines-rest.ensures.rest read.0 read.1)

pub look_at-seen-requires-clause-clean : goal.look_at-seen-requires-clause-clean
look_at-seen-requires-clause-clean c = λ other h.
    let read = read_bytes (decode_of c.args.digits.now) c.requires in
    left_clean read.0 other c.behind_newlines-rest.result.now (c.behind_newlines-rest.ensures.rest read.0 read.1) h

pub returns-then-rest-digits : goal.returns-then-rest-digits
returns-then-rest-digits c = record {
  sees = λ text h.
      let rest = c.behind_newlines-rest.ensures.rest text h in
      let all = length-digits c.args.digits.now text h in
      let left = length-digits c.behind_newlines-rest.result.now (skip_newlines text) rest in
      sees_behind text c.look_at-seen.new.framer c.look_at-seen.result (skip_same text (omega (arith, all, left, c.if-rest-digits.true)))
      (c.look_at-seen.ensures.sees (skip_newlines text) rest);
}

pub returns-in-Whole : goal.returns-in-Whole
returns-in-Whole c = record {
  sees = λ text h.
      let rest = c.behind_newlines-rest.ensures.rest text h in
      let all = length-digits c.args.digits.now text h in
      let left = length-digits c.behind_newlines-rest.result.now (skip_newlines text) rest in
      whole_behind text c.look_at-seen.new.framer (λ same. c.if-rest-digits.false (omega (arith, all, left, same)))
      (c.in-Whole.ensures.sees (skip_newlines text) rest);
}

pub returns-in-NotWhole : goal.returns-in-NotWhole
returns-in-NotWhole c = record {
  sees = λ text h.
      broken_behind_newlines text c.in-NotWhole.cause (c.in-NotWhole.ensures.sees (skip_newlines text) (c.behind_newlines-rest.ensures.rest text h));
}

pub returns-in-Nothing : goal.returns-in-Nothing
returns-in-Nothing c = record {
  sees = λ text h.
      nothing_behind_newlines text (c.in-Nothing.ensures.sees (skip_newlines text) (c.behind_newlines-rest.ensures.rest text h));
}
