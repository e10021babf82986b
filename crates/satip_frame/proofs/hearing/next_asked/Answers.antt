use Rattle.std.proofs.Common.{refl, [], ◌++◌}
use Rattle.satip_frame.specs.declared.framing.Break.TheVariants.{Bad, TooLong}
use Rattle.satip_frame.proofs.AskingLemmas.{waits_same, first_waits, fewer_wait, found_takes, still_first, turn_smaller, hears_next, hears_last, hears_nothing}
use Rattle.satip_frame.proofs.hearing.next_asked.Goals as goal

pub returns-in-Message-clause-hears : goal.returns-in-Message-clause-hears
returns-in-Message-clause-hears g c = λ text before first.
    hears_next _ g.A.Asks.broken text before c.give.new.framer.bytes _ (first_waits _ text before _ _ _ c.pieces.invariant.1 c.give.ensures.kept first)
    _ _ c.next.new.self.found (c.in-Message.ensures.told c.give.new.framer.bytes [] refl) c.read_found.ensures.asked

pub returns-in-Message-clause-fewer : goal.returns-in-Message-clause-fewer
returns-in-Message-clause-fewer g c = λ _.
    fewer_wait _ _ _ (c.next.new.self.bytes ++ c.give.new.self) c.pieces.invariant.1 c.give.ensures.kept
    (found_takes c.give.new.framer.bytes c.next.new.self.bytes c.give.new.self c.next.new.self.found
    (c.in-Message.ensures.told c.give.new.framer.bytes [] refl))

pub returns-then-is_empty-clause-hears : goal.returns-then-is_empty-clause-hears
returns-then-is_empty-clause-hears g c = λ text before first.
    let told = c.in-More.ensures.told c.give.new.framer.bytes [] refl in
    let none = c.if-is_empty.ensures.empty refl in (
      hears_nothing _ g.A.Asks.broken text before c.give.new.framer.bytes _ (first_waits _ text before _ _ _ c.pieces.invariant.1 c.give.ensures.kept first)
          _ told.0 told.1 none,
      none,
    )

pub returns-then-is_empty-clause-kept : goal.returns-then-is_empty-clause-kept
returns-then-is_empty-clause-kept g c = λ _. c.pieces.invariant.2

pub pieces-smaller : goal.pieces-smaller
pieces-smaller g c =
    turn_smaller c.pieces.framer.bytes c.give.new.framer.bytes _ c.pieces.piece _ c.give.ensures.kept c.in-More.ensures.shorter (c.in-More.ensures.room refl)
    c.give.ensures.shorter (λ below. c.give.ensures.fewer below (c.if-is_empty.ensures.some refl))

pub pieces-preserved : goal.pieces-preserved
pieces-preserved g c = (
  c.in-More.ensures.ended,
  λ text ms leads.
      still_first text ms c.give.new.framer.bytes c.next.new.self.bytes c.give.new.self
      (waits_same text ms _ _ c.give.ensures.kept (c.pieces.invariant.1 text ms leads))
      (c.in-More.ensures.told c.give.new.framer.bytes [] refl).1,
  c.pieces.invariant.2,
)

pub returns-in-Bad-clause-hears : goal.returns-in-Bad-clause-hears
returns-in-Bad-clause-hears g c = λ text before first.
    hears_last _ _ text before c.give.new.framer.bytes _ (first_waits _ text before _ _ _ c.pieces.invariant.1 c.give.ensures.kept first) _ Bad
    (c.in-Bad.ensures.told c.give.new.framer.bytes [] refl).0 c.ended.ensures.broken

pub returns-in-TooLong-clause-hears : goal.returns-in-TooLong-clause-hears
returns-in-TooLong-clause-hears g c = λ text before first.
    hears_last _ _ text before c.give.new.framer.bytes _ (first_waits _ text before _ _ _ c.pieces.invariant.1 c.give.ensures.kept first) _ TooLong
    (c.in-TooLong.ensures.told c.give.new.framer.bytes [] refl).0 c.ended-in-TooLong.ensures.broken
