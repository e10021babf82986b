use Rattle.std.proofs.Common.{◌≡◌, ℕ, List, codes, refl, arith, inl, inr, ⊎_elim, ap, length}
use Rattle.std.specs.Prelude.{◌<◌, ◌≤◌}
use Rattle.satip_journal_serve.proofs.sink_examples.worked_sinks.Goals as goal

pub returns-clause-whole : goal.returns-clause-whole
returns-clause-whole c = (record { faults = refl; content = λ told. refl }, (record { faults = refl; content = λ told. refl }, tt))

pub returns-clause-cut : goal.returns-clause-cut
returns-clause-cut c = (
  (
    inr (record { faults = inl (omega arith); content = λ told. record { part = codes "a"; rest = codes "b"; whole = refl; sent = refl } }),
    (inl (record { faults = refl; content = λ told. refl }), tt),
  ),
  inl (inl (omega arith)),
)

pub returns-clause-not_whole : goal.returns-clause-not_whole
returns-clause-not_whole c = λ written. let same : ◌≡◌ {A = ℕ} 1 0 = written.0.faults in omega (arith, same)

pub returns-clause-swapped : goal.returns-clause-swapped
returns-clause-swapped c = λ written.
    let same = ap (λ (bytes : List ℕ). length bytes) (written.0.content tt) in
    let long : ◌≡◌ {A = ℕ} 1 2 = same in
    omega (arith, long)

pub returns-clause-no_fault : goal.returns-clause-no_fault
returns-clause-no_fault c = λ written.
    ⊎_elim (λ rose. ⊎_elim (λ (less : 0 < 0). omega (arith, less)) (λ (last : 18446744073709551615 ≤ 0). omega (arith, last)) rose)
    (λ more. ⊎_elim (λ rose. ⊎_elim (λ (less : 0 < 0). omega (arith, less)) (λ (last : 18446744073709551615 ≤ 0). omega (arith, last)) rose)
    (λ none. none) more)
    written.1
