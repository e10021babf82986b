-- A call of the cell adds to what a caller knows, and its answer suits its event.
use Rattle.std.proofs.Common.{◌≡◌, ◌∙◌, ℕ, ◌<◌, ◌≤◌, Bool, true, false, List, [], ◌∷◌, ◌++◌, length, Option, Some, None, IsTrue, Result, Ok, Err, refl, sym, ap, subst, inl, inr, ⊎_elim, append_assoc, arith}
use Rattle.std.specs.Prelude.{◌⊎◌, ◌↔◌, IsSome}
use Rattle.std.proofs.Math.Nat.{eq-or-lt_of_le}
use Rattle.satip_base.specs.Output.{Output}
use Rattle.satip_base.specs.declared.entry.Taken.{Taken}
use Rattle.satip_base.specs.History.{entry, entries}
use Rattle.satip_plain.specs.declared.answers.Answer.{Answer}
use Rattle.satip_plain.specs.declared.events.Event.{Event}
use Rattle.satip_plain.specs.declared.setting.Setting.{Setting}
use Rattle.satip_plain.specs.Histories.{Item, Legal}
use Rattle.satip_plain.specs.declared.fault.ServiceFault.{ServiceFault}
use Rattle.satip_plain.specs.declared.fault.ServiceFault.TheVariants.{Spent}
use Rattle.satip_plain.specs.Calls.{Made, Bursts, BurstEnds}
use Rattle.satip_plain.proofs.Growing.{all_among, among_behind}
use Rattle.satip_plain.proofs.Suiting.{last_suits, lasts_suit}
use Rattle.satip_turn.specs.Shown.{Turned, Bursts as CellBursts}
use Rattle.satip_shared.specs.Calling.{ServerPass, known_by}

pub made_by : (c : Setting) (p q : ServerPass) (event : Event) (answer : Answer) (out : Output) → Legal c q.seen
    → Turned p q (entry p.number event answer out ∷ [])
    → Made (known_by p) (known_by q) event answer out
made_by c p q event answer out lawful turned =
    let e : Item = entry p.number event answer out in
    let seen = turned.seen ∙ ap (λ (h : List Item). h ++ e ∷ []) turned.looked in
    let L : List Item → Type 0 = λ h. Legal c h in
    record {
      caller = p.number;
      adds = record { between = turned.between; seen = seen; own = turned.own };
      suits = last_suits c (p.seen ++ turned.between) e (subst L seen lawful);
    }

-- a burst of the cell is a burst of its caller
pub bursts_by : (c : Setting) (p q : ServerPass) (made : ℕ) (ended : Bool) (given : Option Event) (same : Type 0)
    (has_taken : List (Taken Event Answer Output) → Type 0) (result : Result (Unit {0}) ServiceFault)
    → Legal c q.seen → made ≤ 64 → CellBursts (λ (ts : List (Taken Event Answer Output)). same × has_taken ts) p q made
    → BurstEnds false (known_by q) ended given made result
    → Bursts false (known_by p) (known_by q) ended given has_taken result
bursts_by c p q made ended given same has_taken result lawful most bursts ends =
    let turned = bursts.turned in
    let new : List Item = entries p.number bursts.taken in
    let seen = turned.seen ∙ ap (λ (h : List Item). h ++ new) turned.looked in
    let L : List Item → Type 0 = λ h. Legal c h in
    let P : ℕ → Type 0 = λ n. BurstEnds false (known_by q) ended given n result in
    let count = bursts.count in
    record {
      caller = p.number;
      taken = bursts.taken;
      has = bursts.has.1;
      most = omega (arith, count);
      suit = lasts_suit c (p.seen ++ turned.between) p.number bursts.taken (subst L seen lawful);
      adds = record {
        more = turned.between ++ new;
        seen = seen ∙ append_assoc p.seen turned.between new;
        among = among_behind turned.between new new (all_among new);
        own = turned.own;
      };
      ends = subst P (sym count) ends;
    }

not_some : (given : Option Event) → (IsSome given → ⊥) → given ≡ None
not_some None never = refl
not_some (Some event) never = absurd (never refl)

-- how a burst of the cell ended that left no event without an entry
pub ends_well : (q : ServerPass) (made : ℕ) (ended spent : Bool) (given : Option Event) → spent ≡ false → made ≤ 64
    → (made < 64 → (ended ≡ true) ⊎ (spent ≡ true)) → (IsTrue spent ↔ IsSome given) → BurstEnds false (known_by q) ended given made (Ok tt)
ends_well q made ended spent given unspent most few is =
    let not : (spent ≡ true) → ⊥ = λ e. absurd (cc (e, unspent)) in (
      not_some given (λ some. not (is.1 some)),
      ⊎_elim (λ (e : made ≡ 64). inr e) (λ (lt : made < 64). ⊎_elim (λ (e : ended ≡ true). inl e) (λ (e : spent ≡ true). absurd (not e)) (few lt))
          (eq-or-lt_of_le most),
    )

-- and one that left one
pub ends_spent : (q : ServerPass) (made : ℕ) (ended spent : Bool) (given : Option Event) → spent ≡ true
    → (IsTrue spent ↔ IsSome given) → (spent ≡ true → length q.seen ≡ 18446744073709551615) → BurstEnds false (known_by q) ended given made (Err Spent)
ends_spent q made ended spent given full is length_is = (is.0 full, length_is full)

-- what holds of the lot behind the reference holds of it at last
pub at_last : {T : Type 0} (P : T → Type 0) (last now : T) → last ≡ now → P now → P last
at_last P last now e p = subst P (sym e) p
