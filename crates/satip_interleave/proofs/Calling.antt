-- A call of the cell adds to what a caller knows, and its answer suits its event.
use Rattle.std.proofs.Common.{◌≡◌, ◌∙◌, ℕ, ◌<◌, ◌≤◌, Bool, true, false, List, [], ◌∷◌, ◌++◌, length, Option, Some, None, IsTrue, Result, Ok, Err, refl, sym, ap, subst, inl, inr, ⊎_elim, append_assoc, append-nil, arith}
use Rattle.std.specs.Prelude.{◌⊎◌, ◌↔◌, IsSome, option_map}
use Rattle.std.proofs.Math.Nat.{eq-or-lt_of_le}
use Rattle.satip_base.specs.Output.{Output}
use Rattle.satip_base.specs.declared.entry.Taken.{Taken}
use Rattle.satip_base.specs.History.{entry, entries}
use Rattle.satip_base.specs.Lists.{Each}
use Rattle.satip_plain.specs.declared.answers.Answer.{Answer}
use Rattle.satip_plain.specs.declared.events.Event.{Event}
use Rattle.satip_plain.specs.declared.setting.Setting.{Setting}
use Rattle.satip_plain.specs.Histories.{Item, Legal}
use Rattle.satip_plain.specs.declared.fault.ServiceFault.{ServiceFault}
use Rattle.satip_plain.specs.declared.fault.ServiceFault.TheVariants.{Spent}
use Rattle.satip_plain.specs.Calls.{Made, Unmade, Bursts, BurstEnds}
use Rattle.satip_plain.proofs.Growing.{all_among, among_behind}
use Rattle.satip_plain.proofs.Suiting.{last_suits, lasts_suit}
use Rattle.satip_interleave.specs.declared.events.TunnelEvent.TheVariants.{Inner}
use Rattle.satip_interleave.specs.declared.events.TunnelAnswer.{TunnelAnswer}
use Rattle.satip_interleave.specs.declared.events.TunnelAnswer.TheVariants.{Inner as InnerAnswer}
use Rattle.satip_interleave.specs.Answers.{IsInner}
use Rattle.satip_interleave.specs.Histories.{TunnelItem, TunnelLegal, inners}
use Rattle.satip_turn.specs.Shown.{Cell, Keeps, Turned, Looked, Bursts as CellBursts}
use Rattle.satip_interleave.specs.Calling.{SameCaller, ShownPass, known_by, outers}
use Rattle.satip_interleave.specs.Taking.{AreAnswered, IsInnerEvent, TunnelTaken, inners_taken}
use Rattle.satip_interleave.proofs.Entries.{all_answered, all_inner, inners-append, inners_of_taken, last_answered, no_outers, outers-append}

whole_seen : (p q : ShownPass) (new : List TunnelItem) (turned : Turned p q new) → q.seen ≡ (p.seen ++ turned.between) ++ new
whole_seen p q new turned = turned.seen ∙ ap (λ (h : List TunnelItem). h ++ new) turned.looked

inners_seen : (p q : ShownPass) (new : List TunnelItem) (turned : Turned p q new) → inners q.seen ≡ (inners p.seen ++ inners turned.between) ++ inners new
inners_seen p q new turned =
    ap inners (whole_seen p q new turned)
    ∙ inners-append (p.seen ++ turned.between) new
    ∙ ap (λ (h : List Item). h ++ inners new) (inners-append p.seen turned.between)

-- the server answers an event of its own
pub answered_by : (c : Setting) (p q : ShownPass) (event : Event) (answer : TunnelAnswer) (out : Output)
    → TunnelLegal c q.seen → Turned p q (entry p.number (Inner event) answer out ∷ []) → IsInner answer
answered_by c p q event answer out lawful turned =
    let L : List TunnelItem → Type 0 = λ h. TunnelLegal c h in
    last_answered c (p.seen ++ turned.between) p.number event answer out
    (subst L (whole_seen p q (entry p.number (Inner event) answer out ∷ []) turned) lawful)

made_so : (c : Setting) (p q : ShownPass) (event : Event) (told : Answer) (out : Output)
    → TunnelLegal c q.seen → Turned p q (entry p.number (Inner event) (InnerAnswer told) out ∷ []) → Made (known_by p) (known_by q) event told out
made_so c p q event told out lawful turned =
    let t : TunnelItem = entry p.number (Inner event) (InnerAnswer told) out in
    let e : Item = entry p.number event told out in
    let seen : inners q.seen ≡ (inners p.seen ++ inners turned.between) ++ e ∷ [] = inners_seen p q (t ∷ []) turned in
    let L : List Item → Type 0 = λ h. Legal c h in
    record {
      caller = p.number;
      adds = record { between = inners turned.between; seen = seen; own = ap inners turned.own ∙ inners-append p.own (t ∷ []) };
      suits = last_suits c (inners p.seen ++ inners turned.between) e (subst L seen lawful.inner);
    }

pub made_by : (c : Setting) (p q : ShownPass) (event given : Event) (answer : TunnelAnswer) (told : Answer) (out : Output)
    → given ≡ event → answer ≡ InnerAnswer told → TunnelLegal c q.seen → Turned p q (entry p.number (Inner given) answer out ∷ [])
    → Made (known_by p) (known_by q) event told out
made_by c p q event given answer told out same is lawful turned =
    let T : TunnelAnswer → Type 0 = λ a. Turned p q (entry p.number (Inner given) a out ∷ []) in
    let P : Event → Type 0 = λ e. Made (known_by p) (known_by q) e told out in
    subst P same (made_so c p q given told out lawful (subst T is turned))

-- nothing was made, and more may be seen
pub unmade_by : (p q : ShownPass) → Looked p q → length q.seen ≡ 18446744073709551615 → Unmade false (known_by p) (known_by q) Spent
unmade_by p q looked full = record {
  adds = record {
    more = inners looked.between;
    seen = ap inners (looked.seen ∙ looked.looked) ∙ inners-append p.seen looked.between;
    own = ap inners looked.own;
  };
  cause = full;
}

-- the same caller, where it made no entry of the lanes
pub same_turned : (k : Cell Setting) (p q : ShownPass) (new : List TunnelItem) → Keeps p q → Turned p q new → outers new ≡ [] → SameCaller k p k q
same_turned k p q new keeps turned none = record {
  server = refl;
  pass = keeps;
  seen = record { rest = turned.between ++ new; whole = whole_seen p q new turned ∙ append_assoc p.seen turned.between new };
  own = record { rest = new; whole = turned.own };
  others = ap outers turned.own ∙ outers-append p.own new ∙ ap (λ (h : List TunnelItem). outers p.own ++ h) none ∙ append-nil (outers p.own);
}

pub same_looked : (k : Cell Setting) (p q : ShownPass) → Keeps p q → Looked p q → SameCaller k p k q
same_looked k p q keeps looked = record {
  server = refl;
  pass = keeps;
  seen = record { rest = looked.between; whole = looked.seen ∙ looked.looked };
  own = record { rest = []; whole = looked.own ∙ sym (append-nil p.own) };
  others = ap outers looked.own;
}

-- what a burst that is fed with a lot has taken
abbrev pub FedFrom : Type 0 → (List (Taken Event Answer Output) → Type 0) → List TunnelTaken → Type 0
FedFrom same has_taken ts = same × Each (λ (t : TunnelTaken). IsInnerEvent t.event) ts × (AreAnswered ts → has_taken (inners_taken ts))

pub same_burst : (k : Cell Setting) (p q : ShownPass) (made : ℕ) (same : Type 0) (has_taken : List (Taken Event Answer Output) → Type 0)
    → Keeps p q → CellBursts (FedFrom same has_taken) p q made → SameCaller k p k q
same_burst k p q made same has_taken keeps bursts =
    same_turned k p q (entries p.number bursts.taken) keeps bursts.turned (no_outers p.number bursts.taken bursts.has.1)

-- a burst of the cell is a burst of its caller
pub bursts_by : (c : Setting) (p q : ShownPass) (made : ℕ) (ended : Bool) (given : Option Event) (same : Type 0)
    (has_taken : List (Taken Event Answer Output) → Type 0) (result : Result (Unit {0}) ServiceFault)
    → TunnelLegal c q.seen → made ≤ 64 → CellBursts (FedFrom same has_taken) p q made
    → BurstEnds false (known_by q) ended given made result
    → Bursts false (known_by p) (known_by q) ended given has_taken result
bursts_by c p q made ended given same has_taken result lawful most bursts ends =
    let turned = bursts.turned in
    let n : ℕ = p.number in
    let ts : List TunnelTaken = bursts.taken in
    let us : List (Taken Event Answer Output) = inners_taken ts in
    let T : List TunnelItem → Type 0 = λ h. TunnelLegal c h in
    let answers : AreAnswered ts = all_answered c (p.seen ++ turned.between) n ts bursts.has.1 (subst T (whole_seen p q (entries n ts) turned) lawful) in
    let new : inners (entries n ts) ≡ entries n us = inners_of_taken n ts in
    let seen : inners q.seen ≡ (inners p.seen ++ inners turned.between) ++ entries n us =
    inners_seen p q (entries n ts) turned ∙ ap (λ (h : List Item). (inners p.seen ++ inners turned.between) ++ h) new in
    let own : inners q.own ≡ inners p.own ++ entries n us =
    ap inners turned.own ∙ inners-append p.own (entries n ts) ∙ ap (λ (h : List Item). inners p.own ++ h) new in
    let L : List Item → Type 0 = λ h. Legal c h in
    let P : ℕ → Type 0 = λ m. BurstEnds false (known_by q) ended given m result in
    let count : length us ≡ made = all_inner ts bursts.has.1 answers ∙ bursts.count in
    record {
      caller = n;
      taken = us;
      has = bursts.has.2 answers;
      most = omega (arith, count);
      suit = lasts_suit c (inners p.seen ++ inners turned.between) n us (subst L seen lawful.inner);
      adds = record {
        more = inners turned.between ++ entries n us;
        seen = seen ∙ append_assoc (inners p.seen) (inners turned.between) (entries n us);
        among = among_behind (inners turned.between) (entries n us) (entries n us) (all_among (entries n us));
        own = own;
      };
      ends = subst P (sym count) ends;
    }

some_given : (given : Option Event) → IsSome (option_map Inner given) → IsSome given
some_given None is = is
some_given (Some event) is = refl

given_some : (given : Option Event) → IsSome given → IsSome (option_map Inner given)
given_some None is = is
given_some (Some event) is = refl

not_some : (given : Option Event) → (IsSome given → ⊥) → given ≡ None
not_some None never = refl
not_some (Some event) never = absurd (never refl)

-- how a burst of the cell ended that left no event without an entry
pub ends_well : (q : ShownPass) (made : ℕ) (ended spent : Bool) (given : Option Event) → spent ≡ false → made ≤ 64
    → (made < 64 → (ended ≡ true) ⊎ (spent ≡ true)) → (IsTrue spent ↔ IsSome (option_map Inner given)) → BurstEnds false (known_by q) ended given made (Ok tt)
ends_well q made ended spent given unspent most few is =
    let not : (spent ≡ true) → ⊥ = λ e. absurd (cc (e, unspent)) in (
      not_some given (λ some. not (is.1 (given_some given some))),
      ⊎_elim (λ (e : made ≡ 64). inr e) (λ (lt : made < 64). ⊎_elim (λ (e : ended ≡ true). inl e) (λ (e : spent ≡ true). absurd (not e)) (few lt))
          (eq-or-lt_of_le most),
    )

-- and one that left one
pub ends_spent : (q : ShownPass) (made : ℕ) (ended spent : Bool) (given : Option Event) → spent ≡ true
    → (IsTrue spent ↔ IsSome (option_map Inner given)) → (spent ≡ true → length q.seen ≡ 18446744073709551615)
    → BurstEnds false (known_by q) ended given made (Err Spent)
ends_spent q made ended spent given full is length_is = (some_given given (is.0 full), length_is full)

-- what holds of the lot behind the reference holds of it at last
pub at_last : {T : Type 0} (P : T → Type 0) (last now : T) → last ≡ now → P now → P last
at_last P last now e p = subst P (sym e) p
