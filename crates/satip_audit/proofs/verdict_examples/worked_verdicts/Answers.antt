use Rattle.std.proofs.Common.{◌≡◌, [], ◌∷◌, refl, arith}
use Rattle.satip_plain.specs.declared.answers.Answer.TheVariants.{Beat}
use Rattle.satip_plain.specs.declared.answers.Beat.TheVariants.{Going, Stopping}
use Rattle.satip_audit.proofs.PlaceLemmas.{counts_once, counts_whole, rises_once, times_same}
use Rattle.satip_audit.proofs.verdict_examples.worked_verdicts.Goals as goal

pub returns-clause-stop : goal.returns-clause-stop
returns-clause-stop c = λ config. record {
  start = 0;
  one_start = refl;
  apart = record {
    none_twice = λ place two. counts_once (0 ∷ []) place (refl, tt) two;
    none_missing = λ place missing. counts_whole (0 ∷ []) place (refl, tt) missing;
  };
  legal = (record { answer = refl; reply = refl; datagrams = refl }, tt);
  count_is = refl;
}

pub returns-clause-differs : goal.returns-clause-differs
returns-clause-differs c = λ config. record {
  start = 0;
  one_start = refl;
  apart = record {
    none_twice = λ place two. counts_once (0 ∷ []) place (refl, tt) two;
    none_missing = λ place missing. counts_whole (0 ∷ []) place (refl, tt) missing;
  };
  differs = record {
    before = tt;
    here = _;
    stands = refl;
    differs = λ fits. let other : Beat Going ≡ Beat Stopping = fits.answer in cc other;
  };
}

pub returns-clause-missing : goal.returns-clause-missing
returns-clause-missing c = λ config. record {
  one_start = refl;
  none_twice = λ q two. let once = rises_once 0 (0 ∷ 2 ∷ []) q (omega arith, (omega arith, tt)) in omega (arith, once, two);
  least = record {
    holds = record { none = refl; later = 2; behind = omega arith; named = omega arith };
    least = λ q less missing.
        let first = times_same (2 ∷ []) 0 q (omega (arith, less)) in
        let none = missing.none in
        omega (arith, first, none);
  };
}

pub returns-clause-repeated : goal.returns-clause-repeated
returns-clause-repeated c = λ config. record {
  one_start = refl;
  least = record { holds = omega arith; least = λ q less two. absurd (omega (arith, less)) };
}

pub returns-clause-no_start : goal.returns-clause-no_start
returns-clause-no_start c = λ config none. omega (arith, none)
