use Rattle.std.proofs.Common.{◌≡◌, ◌++◌, List, ℕ, Bool, IsTrue, is_some, subst, sym, ap, ◌∙◌}
use Rattle.satip_client.specs.Places.{HasSomeHead}
use Rattle.satip_client.proofs.HeadLemmas.{some-head}
use Rattle.satip_client.proofs.reply.has_head_with.Goals as goal

pub returns : goal.returns
returns c =
    let text : List ℕ = c.args.text.now in
    let ending : List ℕ = c.args.ending.now in
    let whole : c.bytes.result.now ≡ text ++ ending =
    c.bytes.ensures.bytes ∙ c.write-2.ensures.wrote
    ∙ ap (λ (t : List ℕ). t ++ ending) (c.write.ensures.wrote ∙ ap (λ (t : List ℕ). t ++ text) c.new-draft.ensures.empty) in
    let test = some-head c.bytes.result.now c.read_head.new.headers c.read_head.result c.read_head.ensures.found c.read_head.ensures.only in
    record {
      test = subst (λ (b : Bool). (IsTrue b → HasSomeHead (text ++ ending)) × (HasSomeHead (text ++ ending) → IsTrue b)) (sym c.is_some.ensures)
          (subst (λ (w : List ℕ). (IsTrue (is_some c.read_head.result) → HasSomeHead w) × (HasSomeHead w → IsTrue (is_some c.read_head.result))) whole test);
    }
