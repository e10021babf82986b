use Rattle.std.proofs.Common.{◌≡◌, ℕ, List, ◌++◌, length, Some, arith, sym, ◌∙◌, ap}
use Rattle.std.proofs.lemmas.List.{take_all}
use Rattle.satip_entry_reader.proofs.lists.read_kept.Goals as goal

pub returns-clause-read : goal.returns-clause-read
returns-clause-read c =
    let kept : c.of.result ≡ c.in-Some.text.now = c.of.ensures.first ∙ take_all 128 c.in-Some.text.now (omega (arith, c.in-Some.ensures.count, c.requires.few)) in
    ap (λ (p : List ℕ). Some (p, c.read_bytes.new.self)) kept ∙ c.in-Some.ensures.read

pub returns-clause-front : goal.returns-clause-front
returns-clause-front c =
    let kept : c.of.result ≡ c.in-Some.text.now = c.of.ensures.first ∙ take_all 128 c.in-Some.text.now (omega (arith, c.in-Some.ensures.count, c.requires.few)) in
    c.in-Some.ensures.front ∙ ap (λ (p : List ℕ). p ++ c.read_bytes.new.self) (sym kept)

pub returns-clause-count : goal.returns-clause-count
returns-clause-count c =
    let kept : c.of.result ≡ c.in-Some.text.now = c.of.ensures.first ∙ take_all 128 c.in-Some.text.now (omega (arith, c.in-Some.ensures.count, c.requires.few)) in
    ap length kept ∙ c.in-Some.ensures.count
