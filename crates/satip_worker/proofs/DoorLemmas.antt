-- The pauses of a worker, at its doors and while it serves connections.
use Rattle.std.proofs.Common.{◌≡◌, ◌∙◌, ℕ, suc, ◌+◌, ◌≤◌, ◌⊎◌, true, List, [], ◌∷◌, ◌++◌, append_assoc, append-nil, ap, sym, subst, arith, inl, inr}
use Rattle.satip_world.specs.Counts.{Rises}
use Rattle.satip_world.specs.declared.doors.ConnEnd.{ConnEnd}
use Rattle.satip_world.specs.Halls.{Hall, Arrival, Return, HadNone, Moved}
use Rattle.satip_world.specs.Lines.{Line, fresh_line}
use Rattle.satip_world.specs.Pausing.{RisesBy}
use Rattle.satip_world.proofs.PausingLemmas.{rises_none, rises_once, rises_then, rises_same}
use Rattle.satip_worker.proofs.PauseLemmas.{rises_kept}
use Rattle.satip_worker.specs.Pauses.{PausesWhenIdle, PausesServed}
use Rattle.satip_worker.specs.DoorPauses.{PausesOne, PausesAtDoors, idles_in, spared_in}

-- each receive that found nothing was followed by a pause
pub served_exactly : (spared : ℕ) (l m : Line) (p q : ℕ) → PausesWhenIdle l m p q → PausesServed spared l m p q
served_exactly spared l m p q x = record {
  idles = x.idles;
  found = x.found;
  paused = x.idles;
  least = omega arith;
  most = omega arith;
  pauses = x.pauses;
}

idles_in-append : (rs ss : List Return) → idles_in (rs ++ ss) ≡ idles_in rs + idles_in ss
idles_in-append [] ss = omega arith
idles_in-append (r ∷ rs) ss = let rest = idles_in-append rs ss in omega (arith, rest)

spared_in-append : (spared : ℕ) (rs ss : List Return) → spared_in spared (rs ++ ss) ≡ spared_in spared rs + spared_in spared ss
spared_in-append spared [] ss = omega arith
spared_in-append spared (r ∷ rs) ss = let rest = spared_in-append spared rs ss in omega (arith, rest)

-- one connection more, with its receives that found nothing
found_more : (m n : ℕ) (rs : List Return) (r : Return) → RisesBy m 0 (idles_in rs) → RisesBy n 0 r.line.idles → RisesBy (m + n) 0 (idles_in (rs ++ r ∷ []))
found_more m n rs r x y = record {
  rose = both x.rose y.rose;
  most = let few = x.most in let more = y.most in omega (arith, few, more, sum);
  kept = omega arith;
}
  where
    sum : idles_in (rs ++ r ∷ []) ≡ idles_in rs + (r.line.idles + 0)
    sum = idles_in-append rs (r ∷ [])

    both : (0 + m ≤ idles_in rs) ⊎ (18446744073709551615 ≤ idles_in rs) → (0 + n ≤ r.line.idles) ⊎ (18446744073709551615 ≤ r.line.idles)
        → (0 + (m + n) ≤ idles_in (rs ++ r ∷ [])) ⊎ (18446744073709551615 ≤ idles_in (rs ++ r ∷ []))
    both (inl a) (inl b) = inl (omega (arith, a, b, sum))
    both (inr a) b = inr (omega (arith, a, sum))
    both (inl a) (inr b) = inr (omega (arith, b, sum))

-- no connection came yet
pub doors_none : (spared : ℕ) (hall : Hall) (p : ℕ) → PausesAtDoors spared hall hall p p
doors_none spared hall p = record {
  waits = 0;
  waited = rises_none hall.idles;
  returns = [];
  moved = λ _. sym (append-nil hall.returned);
  idles = 0;
  found = rises_none 0;
  paused = 0;
  least = omega arith;
  most = omega arith;
  pauses = rises_none p;
}

module _ (spared : ℕ) (o m n : Hall) (p q : ℕ) (x : PausesAtDoors spared o m p q) where
  -- no connection was handed back
  same_returns : (came : List Arrival) → Moved m n came [] → n.told ≡ true → n.returned ≡ o.returned ++ x.returns
  same_returns came content told = content.returned told ∙ append-nil m.returned ∙ x.moved (content.told told)

  -- no connection came, and a pause followed
  pub doors_idle : (r : ℕ) → HadNone m n → Rises q r → r ≤ suc q → PausesAtDoors spared o n p r
  doors_idle r none rises once = record {
    waits = x.waits + 1;
    waited = rises_once x.waits o.idles m.idles n.idles x.waited none.idles none.one_idle;
    returns = x.returns;
    moved = same_returns [] none.content;
    idles = x.idles;
    found = x.found;
    paused = x.paused;
    least = x.least;
    most = x.most;
    pauses = rises_same (x.waits + x.paused + 1) (x.waits + 1 + x.paused) p r (omega arith) (rises_once (x.waits + x.paused) p q r x.pauses rises once);
  }

  -- no connection was handed back, and there was no pause
  pub doors_kept : (came : List Arrival) → Moved m n came [] → n.idles ≡ m.idles → PausesAtDoors spared o n p q
  doors_kept came content same = record {
    waits = x.waits;
    waited = rises_kept x.waits o.idles m.idles n.idles x.waited same;
    returns = x.returns;
    moved = same_returns came content;
    idles = x.idles;
    found = x.found;
    paused = x.paused;
    least = x.least;
    most = x.most;
    pauses = x.pauses;
  }

  -- a connection was served and handed back
  pub doors_served : (r : ℕ) (line : Line) (came : Arrival) (end : ConnEnd) → line ≡ fresh_line → PausesOne spared line m n came end q r
      → PausesAtDoors spared o n p r
  doors_served r line came end fresh one =
      let back : Return = record { kind = came.kind; peer = came.peer; line = one.later; end = end } in
      let L : Line → Type 0 = λ l. RisesBy one.served.idles l.idles one.later.idles in
      let least = x.least in
      let most = x.most in
      let least_here = one.served.least in
      let most_here = one.served.most in
      record {
        waits = x.waits;
        waited = rises_kept x.waits o.idles m.idles n.idles x.waited one.back.idles;
        returns = x.returns ++ back ∷ [];
        moved = λ told. one.back.content.returned told
            ∙ ap (λ (rs : List Return). rs ++ back ∷ []) (x.moved (one.back.content.told told)) ∙ append_assoc o.returned x.returns (back ∷ []);
        idles = x.idles + one.served.idles;
        found = found_more x.idles one.served.idles x.returns back x.found (subst L fresh one.served.found);
        paused = x.paused + one.served.paused;
        least = omega (arith, least, least_here, spared_in-append spared x.returns (back ∷ []));
        most = omega (arith, most, most_here);
        pauses = rises_same (x.waits + x.paused + one.served.paused) (x.waits + (x.paused + one.served.paused)) p r (omega arith)
            (rises_then (x.waits + x.paused) one.served.paused p q r x.pauses one.served.pauses);
      }
