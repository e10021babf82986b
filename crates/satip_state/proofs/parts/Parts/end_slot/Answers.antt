use Rattle.std.proofs.Common.{◌≡◌, ◌==◌, true, false, Some, None, find, rules}
use Rattle.std.specs.Int.{bit_at}
use Rattle.satip_table.specs.Sessions.{has_slot}
use Rattle.satip_state.proofs.Marking.{unmarked, nobody_marked, marked_ended}
use Rattle.satip_state.proofs.parts.Parts.end_slot.Goals as goal

pub returns-then-not-is_marked : goal.returns-then-not-is_marked
returns-then-not-is_marked c = record {
  ended = λ config st ends e.
      let clear : (bit_at c.args.marks c.args.slot == 1) ≡ false = search rules in
      unmarked config c.args.self.now st ends c.args.marks c.args.slot e clear;
}

pub returns-in_default : goal.returns-in_default
returns-in_default c = record {
  ended = λ config st ends e.
      let none : None ≡ find (has_slot c.args.slot) c.args.self.now.table.seats = search rules in
      nobody_marked config c.args.self.now st ends c.args.marks c.args.slot e none;
}

pub returns : goal.returns
returns c = record {
  ended = λ config st ends e.
      let found : find (has_slot c.args.slot) c.args.self.now.table.seats ≡ Some c.in-Some.seat = search rules in
      let set : (bit_at c.args.marks c.args.slot == 1) ≡ true = search rules in
      marked_ended config c.args.self.now c.drop_session-lived.new.self st ends c.args.marks c.args.slot e c.in-Some.ensures.table c.in-Some.seat found set
      (c.drop_session-lived.ensures.ended config _ e.stands) c.drop_session-lived.ensures.seats;
}
