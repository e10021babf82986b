use Rattle.std.proofs.Common.{◌≡◌, ℕ, ◌<◌, List, length, Option, None, get_or, set, is_some, true, false, ap, sym, ◌∙◌, arith}
use Rattle.std.proofs.lemmas.Bool.Decides.{nat_tests}
use Rattle.std.proofs.lemmas.List.{set-get_or}
use Rattle.std.proofs.lemmas.Option.{get_or_from_slice_get}
use Rattle.satip_rtp_receiver.specs.Catching.{is_new}
use Rattle.satip_rtp_receiver.proofs.holding.fill.Goals as goal

is_new-within : (at : ℕ) (held : List (Option (List ℕ))) → at < length held → is_some (get_or held at None) ≡ false → true ≡ is_new at held
is_new-within at held h e = grind (arith, nat_tests)

pub returns-then-is_some-clause-held : goal.returns-then-is_some-clause-held
returns-then-is_some-clause-held c =
    let items = c.args.ring.now.items in
    let at = c.args.at in
    let e = get_or_from_slice_get items at c.in-Some.place.now None (sym c.in-Some.ensures.value) in
    ap (λ v. set items at v) (sym e) ∙ set-get_or items at None

pub returns-clause-new : goal.returns-clause-new
returns-clause-new c =
    let items = c.args.ring.now.items in
    let at = c.args.at in
    let e = get_or_from_slice_get items at c.in-Some.place.now None (sym c.in-Some.ensures.value) in
    is_new-within at items c.requires.within (ap (λ (place : Option (List ℕ)). is_some place) e ∙ sym c.is_some.ensures ∙ c.if-is_some.false)
