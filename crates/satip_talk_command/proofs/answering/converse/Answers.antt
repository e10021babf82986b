use Rattle.std.proofs.Common.{arith, refl, ◌∙◌, [], take}
use Rattle.satip_talk_command.proofs.TalkLemmas.{stands_got}
use Rattle.satip_talk_command.proofs.TurnLemmas.{goes_from, goes_more, ends_at_end, ends_closed, ends_by_output, ends_by_input, ends_by_length, at_limit}
use Rattle.satip_talk_command.proofs.answering.converse.Goals as goal

pub input-init : goal.input-init
input-init g c = (
  rw c.requires.framer refl,
  refl,
  goes_from _ _ _ _ _ _ c.requires.framer c.requires.talker,
  c.requires.gathered,
)

pub returns-then-taken-gt-LIMIT : goal.returns-then-taken-gt-LIMIT
returns-then-taken-gt-LIMIT g c = record {
  ends = ends_by_length _ _ _ _ _ _ _ _ _ _ _ _ c.input.invariant.2 c.in-Got.ensures.takes
      (at_limit _ _ _ c.input.invariant.2.short c.room_for.ensures.below c.in-Got.ensures.room c.if-taken-gt-LIMIT.true)
      (omega (arith, c.room_for.ensures.limit, c.in-Got.ensures.room, c.if-taken-gt-LIMIT.true));
}

pub input-preserved : goal.input-preserved
input-preserved g c = (
  c.in-All.ensures.goes_on refl,
  c.take_some.auto.buf ∙ c.input.invariant.1,
  goes_more _ _ _ _ _ _ _ _ _ _ _ _ _ _ _ c.input.invariant.2 c.in-Got.ensures.takes c.if-taken-gt-LIMIT.false
      (c.in-All.ensures.hears _ _ (stands_got _ _ _ [] c.input.invariant.2.text c.input.conversation.framer.bytes
      (take c.in-Got.count c.take_some.new.buf) _ c.input.invariant.2.listens)),
  c.in-All.ensures.empty refl,
)

pub returns-in-Closed : goal.returns-in-Closed
returns-in-Closed g c = record {
  ends = ends_closed _ _ _ _ _ _ _ _ _ _ _ _ _ _ c.input.invariant.2 c.in-Got.ensures.takes c.if-taken-gt-LIMIT.false
      (omega (arith, c.in-Got.ensures.room, c.room_for.ensures.within))
      (c.in-Closed.ensures.hears _ _ (stands_got _ _ _ [] c.input.invariant.2.text c.input.conversation.framer.bytes
      (take c.in-Got.count c.take_some.new.buf) _ c.input.invariant.2.listens));
}

pub returns-in-Failed-hear : goal.returns-in-Failed-hear
returns-in-Failed-hear g c = record {
  ends = ends_by_output _ _ _ _ _ _ _ _ _ _ _ _ _ c.input.invariant.2 c.in-Got.ensures.takes c.if-taken-gt-LIMIT.false
      (c.in-Failed-hear.ensures.hears _ _ (stands_got _ _ _ [] c.input.invariant.2.text c.input.conversation.framer.bytes
      (take c.in-Got.count c.take_some.new.buf) _ c.input.invariant.2.listens));
}

pub returns-in-Failed : goal.returns-in-Failed
returns-in-Failed g c = record {
  ends = ends_by_input _ _ _ _ _ _ _ _ _ _ c.input.invariant.2 c.in-Failed.ensures.takes;
}

pub returns-in-End : goal.returns-in-End
returns-in-End g c = record {
  ends = ends_at_end _ _ _ _ _ _ _ _ _ _ c.input.invariant.2 c.in-End.ensures.takes;
}
