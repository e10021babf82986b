use Rattle.std.proofs.Common.{refl, sym, subst, List}
use Rattle.satip_plain.specs.Histories.{Item}
use Rattle.satip_solo.specs.Inside.{IsSound}
use Rattle.satip_solo.proofs.LogLemmas.{call_made}
use Rattle.satip_solo.proofs.history.History.make.Goals as goal

pub invariant_of-self-2 : goal.invariant_of-self-2
invariant_of-self-2 c =
    let P : List Item → Type 0 = λ es. IsSound c.self.inside.server es c.self.inside.stop in
    let before : P c.reserve.new.entries.items = subst P (sym c.reserve.ensures.same) c.self.invariant in
    let due = c.if-not-stop_where_due.ensures in
    (call_made _ _ _ _ _ _ _ _ _ _ _ before (due.stopped refl) (due.then_stop refl) c.enter.ensures.setting c.enter.ensures.stands c.enter.ensures.kept).sound
