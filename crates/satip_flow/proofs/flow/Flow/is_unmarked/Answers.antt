use Rattle.std.proofs.Common.{◌≡◌, ℕ, ◌<◌, false, length, sym, subst, ap, ◌∙◌}
use Rattle.std.specs.List.{list_any}
use Rattle.satip_flow.specs.Subscription.{takes}
use Rattle.satip_flow.specs.Rows.{NoneMarked}
use Rattle.satip_flow.proofs.RowLemmas.{none_takes, none_marked}
use Rattle.satip_flow.proofs.flow.Flow.is_unmarked.Goals as goal

pub returns : goal.returns
returns c =
    let f = c.self.inside in
    let sound = c.self.invariant in
    record {
      unselected = (
        λ unmarked front pid below.
            let rows : NoneMarked f.rows.items = subst (λ rs. NoneMarked rs) c.deref.ensures.value (c.are_unmarked.ensures.unmarked.0 unmarked) in
            let none = none_takes f.rows.items f.alike f.subscribers.items sound.apart rows sound.marked front pid below in
            subst (λ xs. list_any (takes front pid) xs ≡ false) c.self.view_is none,
        λ none.
            let ours = subst (λ xs. (front pid : ℕ) → pid < 8192 → list_any (takes front pid) xs ≡ false) (sym c.self.view_is) none in
            let count = ap length (sym c.deref.ensures.value) ∙ c.deref.ensures.len ∙ sound.row_count in
            c.are_unmarked.ensures.unmarked.1 (subst (λ rs. NoneMarked rs) (sym c.deref.ensures.value)
            (none_marked f.rows.items f.alike f.subscribers.items count sound.marked ours)),
      );
    }
