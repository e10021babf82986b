use Rattle.std.proofs.Common.{◌≡◌, ◌∙◌, ℕ, ◌+◌, ◌-◌, ◌≤◌, ap, sym, Some, is_some, find, count_by, List, arith}
use Rattle.std.specs.List.{list_any}
use Rattle.satip_fronts.specs.Rows.{is_at, is_row}
use Rattle.satip_fronts.specs.FrontEnds.{FrontEnds, is_front, state_of}
use Rattle.satip_fronts.specs.declared.front_table.FrontRow.{FrontRow}
use Rattle.satip_fronts.specs.declared.front_table.FrontState.{FrontState}
use Rattle.satip_fronts.proofs.Numbers.{row_known, row_within}
use Rattle.satip_fronts.proofs.fronts.Fronts.state.Goals as goal

pub returns-in-None-clause-none : goal.returns-in-None-clause-none
returns-in-None-clause-none c =
    let there = row_known c.args.front c.self.inside.rows.items c.self.inside.fronts.items c.self.invariant.sound.rows in
    let rows = ap (λ (rows : List FrontRow). is_some (find (is_row c.args.front) rows)) c.deref.ensures.0 in
    ap is_some (sym c.in-None.is ∙ c.row_at.ensures.row) ∙ rows ∙ there ∙ ap (λ (v : FrontEnds). list_any (is_front c.args.front) v.fronts) c.self.view_is

pub returns-in-Some-clause-none : goal.returns-in-Some-clause-none
returns-in-Some-clause-none c =
    let there = row_known c.args.front c.self.inside.rows.items c.self.inside.fronts.items c.self.invariant.sound.rows in
    let rows = ap (λ (rows : List FrontRow). is_some (find (is_row c.args.front) rows)) c.deref.ensures.0 in
    ap is_some (sym c.in-Some.is ∙ c.row_at.ensures.row) ∙ rows ∙ there ∙ ap (λ (v : FrontEnds). list_any (is_front c.args.front) v.fronts) c.self.view_is

-- a front end that has a row has a number from 1 to 16
within : (c : goal.In-Some) → (1 ≤ c.args.front) × (c.args.front ≤ 16)
within c =
    let i = c.self.inside in
    let rows = ap (λ (rows : List FrontRow). is_some (find (is_row c.args.front) rows)) c.deref.ensures.0 in
    let there = ap is_some (sym c.in-Some.is ∙ c.row_at.ensures.row) ∙ rows in
    row_within c.args.front i.rows.items i.fronts.items c.self.invariant.sound.rows c.self.invariant.sound.numbered c.self.invariant.sound.few (sym there)

pub overflow_sub-result : goal.overflow_sub-result
overflow_sub-result c = (within c).0

pub bounds-self-inside-front : goal.bounds-self-inside-front
bounds-self-inside-front c = let w = within c in omega (arith, w.0, w.1)

pub returns-in-Some-clause-state : goal.returns-in-Some-clause-state
unfolding state_of
returns-in-Some-clause-state c =
    let i = c.self.inside in
    let row = c.in-Some.row in
    let rows = ap (λ (rows : List FrontRow). find (is_row c.args.front) rows) c.deref.ensures.0 in
    let found = sym (sym c.in-Some.is ∙ c.row_at.ensures.row ∙ rows) in
    let w = row_within c.args.front i.rows.items i.fronts.items c.self.invariant.sound.rows c.self.invariant.sound.numbered c.self.invariant.sound.few
    (ap is_some found) in
    let one : c.args.front - 1 + 1 ≡ c.args.front = omega (arith, w.0) in
    let counted = c.self.invariant.counted (c.args.front - 1) (omega (arith, w.0, w.1)) ∙ ap (λ f. count_by (is_at f) i.places) one in
    let shown : ℕ → FrontState = λ n. record { streams = n; mux = row.mux; tune = row.tune; ended = row.ended } in
    rw (← c.self.view_is) (rw found (ap (λ n. Some (shown n)) counted))
