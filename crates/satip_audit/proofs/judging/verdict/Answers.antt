use Rattle.std.proofs.Common.{List, length, refl, sym, ap, subst, arith}
use Rattle.std.specs.List.{All}
use Rattle.satip_audit.specs.declared.index.Spot.{Spot}
use Rattle.satip_audit.specs.Places.{Counts, HasTwice, IsLeast, IsMissing, Rises}
use Rattle.satip_audit.specs.Spots.{places_of}
use Rattle.satip_audit.specs.Replaying.{AreLed, IsInside}
use Rattle.satip_audit.proofs.LegalLemmas.{legal_by}
use Rattle.satip_audit.proofs.VerdictLemmas.{inside, judged_differs, judged_missing, judged_no_start, judged_repeated, judged_yes}
use Rattle.satip_audit.proofs.judging.verdict.Goals as goal

pub returns-in_default-clause-verdict : goal.returns-in_default-clause-verdict
returns-in_default-clause-verdict c = judged_no_start c.args.config c.args.text.now _ _ _ c.in_ok-index.ensures.index c.in_default.not-One

pub returns-in-Some-clause-verdict : goal.returns-in-Some-clause-verdict
returns-in-Some-clause-verdict c =
    let P : List Spot → Type 0 = λ ss. IsLeast (λ q. HasTwice (places_of ss) q) c.in-Some.place in
    judged_repeated c.args.config c.args.text.now _ _ c.in-One.start c.in-One.is _ c.sort_spots.new.spots.items c.in_ok-index.ensures.index
    c.sort_spots.ensures.permutation c.in-Some.place (subst P c.deref.ensures.value c.in-Some.ensures.repeated)

pub returns-in-Some-first_missing-clause-verdict : goal.returns-in-Some-first_missing-clause-verdict
returns-in-Some-first_missing-clause-verdict c =
    let place = c.in-Some-first_missing.place in
    let P : List Spot → Type 0 = λ ss. IsLeast (λ q. IsMissing (places_of ss) q) place in
    let Q : List Spot → Type 0 = λ ss. Rises 0 (places_of ss) in
    judged_missing c.args.config c.args.text.now _ _ c.in-One.start c.in-One.is _ c.sort_spots.new.spots.items c.in_ok-index.ensures.index
    c.sort_spots.ensures.permutation place (subst Q c.deref.ensures.value (c.in_default-first_repeated.ensures.rises refl))
    (subst P c.deref-2.ensures.value c.in-Some-first_missing.ensures.missing)

pub first_differing-requires-clause-inside : goal.first_differing-requires-clause-inside
first_differing-requires-clause-inside c =
    let P : List Spot → Type 0 = λ ss. All (IsInside c.index_journals.new.text) ss in
    subst P (sym c.deref-3.ensures.value)
    (inside c.args.config c.args.text.now _ _ c.in-One.start c.in-One.is _ c.sort_spots.new.spots.items c.in_ok-index.ensures.index
    c.sort_spots.ensures.permutation)

pub returns-in-Ok-None-clause-verdict : goal.returns-in-Ok-None-clause-verdict
returns-in-Ok-None-clause-verdict c =
    let Q : List Spot → Type 0 = λ ss. Counts 0 (places_of ss) in
    let finds = rw c.in-Ok-None.field-0-is at c.in-Ok-None.ensures.finds in
    judged_yes c.args.config c.args.text.now _ _ c.in-One.start c.in-One.is _ c.sort_spots.new.spots.items c.in_ok-index.ensures.index
    c.sort_spots.ensures.permutation (subst Q c.deref-2.ensures.value (c.in_default-first_missing.ensures.counts refl))
    (λ h led. finds h (subst (λ (ss : List Spot). AreLed c.index_journals.new.text h ss) (sym c.deref-3.ensures.value) led)) c.len.result
    (omega (arith, c.len.ensures, c.deref-3.ensures.len, ap (λ (ss : List Spot). length ss) c.deref-3.ensures.value))

pub returns-in-Ok-None-clause-legal : goal.returns-in-Ok-None-clause-legal
returns-in-Ok-None-clause-legal c =
    let opens = c.in-Ok-None.ensures.opens in
    legal_by c.args.config c.args.text.now c.len.result c.in-One.start opens.servable opens.setting (returns-in-Ok-None-clause-verdict c)

pub returns-in-Ok-Some-clause-verdict : goal.returns-in-Ok-Some-clause-verdict
returns-in-Ok-Some-clause-verdict c =
    let Q : List Spot → Type 0 = λ ss. Counts 0 (places_of ss) in
    let finds = rw c.in-Ok-Some.field-0-is at c.in-Ok-Some.ensures.finds in
    judged_differs c.args.config c.args.text.now _ _ c.in-One.start c.in-One.is _ c.sort_spots.new.spots.items c.in_ok-index.ensures.index
    c.sort_spots.ensures.permutation (subst Q c.deref-2.ensures.value (c.in_default-first_missing.ensures.counts refl)) c.in-Ok-Some.place
    (λ h led. finds h (subst (λ (ss : List Spot). AreLed c.index_journals.new.text h ss) (sym c.deref-3.ensures.value) led))
