use Rattle.std.proofs.Common.{◌≡◌, ◌+◌, ◌++◌, List, ℕ, map, drop, codes, sym, ap, ◌∙◌, false}
use Rattle.std.specs.Option.{option_copied, option_to_list, is_some}
use Rattle.httparse.specs.Spans.{header_bytes}
use Rattle.satip_frame.specs.Said.{values_of, length_from}
use Rattle.satip_frame.proofs.HeaderLemmas.{values_named, values_passed, length_of_two, length_of_all, first_said}
use Rattle.satip_frame.proofs.said.body_length.Goals as goal
use Rattle.satip_frame.proofs.said.body_length.Goals.{then-is_named+else-is_some, else-is_named}

pub returns-then-is_some : goal.returns-then-is_some
returns-then-is_some c =
    let next = values_named (codes "Content-Length") _ _ _ _ _ c.loop-header-test.true c.of.ensures c.is_named.ensures.test c.if-is_named.true in
    record {
      value = sym (length_of_two _ c.loop-header.said _ _ (sym c.is_some.ensures ∙ c.if-is_some.true)
          (c.loop-header.invariant ∙ ap (λ (t : List (List ℕ)). option_to_list (option_copied c.loop-header.said) ++ t) next));
    }

pub loop-header-preserved : goal.loop-header-preserved
loop-header-preserved c =
    elim c.if-is_named.branch [
      | then-is_named+else-is_some w ↦
          let next = values_named (codes "Content-Length") _ _ _ _ _ c.loop-header-test.true c.of.ensures c.is_named.ensures.test w.if-is_named.true in
          let none : is_some c.loop-header.said ≡ false = sym w.is_some.ensures ∙ w.if-is_some.false in
          first_said c.loop-header.said c.if-is_named.said _ _ _ _ _ none w.said-is w.of-then-is_named.ensures c.loop-header.invariant next
      | else-is_named w ↦
          let next = values_passed (codes "Content-Length") _ _ _ _ _ c.loop-header-test.true c.of.ensures c.is_named.ensures.test w.if-is_named.false in
          c.loop-header.invariant
          ∙ ap (λ (t : List (List ℕ)). option_to_list (option_copied c.loop-header.said) ++ t) next
          ∙ ap (λ s. option_to_list (option_copied s) ++ values_of (codes "Content-Length")
          (map (header_bytes c.args.head.now) (drop (c.loop-header.header-index + 1) c.args.headers.now))) (sym w.said-is)
    ]

pub returns-in-Some : goal.returns-in-Some
returns-in-Some c = record {
  value =
      c.read_number.ensures.value
      ∙ sym (length_of_all _ _ _ _ c.loop-header.said c.loop-header-test.false c.loop-header.invariant
      ∙ ap (λ s. length_from (option_to_list (option_copied s))) c.in-Some.is);
}

pub returns-in-None : goal.returns-in-None
returns-in-None c = record {
  value = sym (length_of_all _ _ _ _ c.loop-header.said c.loop-header-test.false c.loop-header.invariant
      ∙ ap (λ s. length_from (option_to_list (option_copied s))) c.in-None.is);
}
