-- A burst, event by event, where each entry is of one caller.
use Rattle.std.proofs.Common.{◌≡◌, ℕ, ◌+◌, ◌≤◌, Bool, List, [], ◌∷◌, ◌++◌, length, Option, Result, length-append, arith, refl, sym, subst}
use Rattle.satip_base.specs.Output.{Output}
use Rattle.satip_base.specs.declared.entry.Taken.{Taken}
use Rattle.satip_base.specs.History.{entry, entries, taken}
use Rattle.satip_base.specs.Lists.{Each}
use Rattle.satip_base.proofs.Owned.{entries-append}
use Rattle.satip_plain.specs.declared.answers.Answer.{Answer}
use Rattle.satip_plain.specs.declared.events.Event.{Event}
use Rattle.satip_plain.specs.Histories.{Item}
use Rattle.satip_plain.specs.declared.fault.ServiceFault.{ServiceFault}
use Rattle.satip_plain.specs.Known.{Known, Adds, AddsAll}
use Rattle.satip_plain.specs.Calls.{Bursts, BurstEnds}
use Rattle.satip_plain.specs.Suits.{Suits}
use Rattle.satip_plain.proofs.Growing.{adds_nothing, adds_then, adds_one}

-- so many events of a lot were made
pub record UnderWay (caller : ℕ) (k l : Known) (has_taken : List (Taken Event Answer Output) → Type 0) (made : ℕ) : Type 0 where
  pub taken_are : List (Taken Event Answer Output)
  pub has : has_taken taken_are
  pub count : length taken_are ≡ made
  pub suit : Each (λ t. Suits t.event t.answer) taken_are
  pub adds : AddsAll k l (entries caller taken_are)

pub under_way_none : (caller : ℕ) (k : Known) (has_taken : List (Taken Event Answer Output) → Type 0) → has_taken [] → UnderWay caller k k has_taken 0
under_way_none caller k has_taken none = record { taken_are = []; has = none; count = refl; suit = tt; adds = adds_nothing k }

each-append : (ts us : List (Taken Event Answer Output)) → Each (λ (t : Taken Event Answer Output). Suits t.event t.answer) ts
    → Each (λ (t : Taken Event Answer Output). Suits t.event t.answer) us → Each (λ (t : Taken Event Answer Output). Suits t.event t.answer) (ts ++ us)
each-append [] us first second = second
each-append (t ∷ ts) us first second = (first.0, each-append ts us first.1 second)

pub under_way_more : (caller : ℕ) (k l m : Known) (before after : List (Taken Event Answer Output) → Type 0) (made : ℕ) (event : Event) (answer : Answer)
    (out : Output)
    → UnderWay caller k l before made → Adds l m (entry caller event answer out) → Suits event answer
    → ((ts : List (Taken Event Answer Output)) → before ts → after (ts ++ taken event answer out ∷ [])) → UnderWay caller k m after (made + 1)
under_way_more caller k l m before after made event answer out way adds suits takes =
    let t : Taken Event Answer Output = taken event answer out in
    let P : List Item → Type 0 = λ es. AddsAll k m es in
    let count = way.count in
    record {
      taken_are = way.taken_are ++ t ∷ [];
      has = takes way.taken_are way.has;
      count = omega (arith, count, length-append way.taken_are (t ∷ []));
      suit = each-append way.taken_are (t ∷ []) way.suit (suits, tt);
      adds = subst P (sym (entries-append caller way.taken_are (t ∷ [])))
          (adds_then k l m (entries caller way.taken_are) (entry caller event answer out ∷ []) way.adds (adds_one l m (entry caller event answer out) adds));
    }

pub under_way_ends : (may_want : Bool) (caller : ℕ) (k l : Known) (ended : Bool) (given : Option Event)
    (has_taken : List (Taken Event Answer Output) → Type 0) (made : ℕ)
    (result : Result (Unit {0}) ServiceFault) → UnderWay caller k l has_taken made → made ≤ 64 → BurstEnds may_want l ended given made result
    → Bursts may_want k l ended given has_taken result
under_way_ends may_want caller k l ended given has_taken made result way most ends =
    let P : ℕ → Type 0 = λ n. BurstEnds may_want l ended given n result in
    let count = way.count in
    record {
      caller = caller;
      taken = way.taken_are;
      has = way.has;
      most = omega (arith, count);
      suit = way.suit;
      adds = way.adds;
      ends = subst P (sym count) ends;
    }
