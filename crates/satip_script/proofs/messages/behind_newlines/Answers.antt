use Rattle.std.proofs.Common.{ℕ, List, Ok, drop, sym, ap, ◌∙◌, arith}
use Rattle.satip_ts.proofs.HexDigits.{length-digits, back_read}
use Rattle.satip_script.proofs.TextLemmas.{skip_first, skip_none, some_first}
use Rattle.satip_script.proofs.messages.behind_newlines.Goals as goal

pub newlines-preserved : goal.newlines-preserved
newlines-preserved c = λ text h.
    let before = c.newlines.invariant text h in
    let first = sym (c.newlines-test.ensures.test before.0 before.1) in
    let some = some_first before.0 first in (
      drop 1 before.0,
      back_read c.newlines.rest.now c.split_at.result.1.now before.0 1 before.1 (omega (arith, some, length-digits c.newlines.rest.now before.0 before.1))
          c.split_at.ensures.back,
      before.2 ∙ skip_first before.0 first,
    )

pub returns : goal.returns
returns c = record {
  rest = λ text h.
      let before = c.newlines.invariant text h in
      let none = sym (c.newlines-test.ensures.test before.0 before.1) in
      before.1 ∙ ap (λ (t : List ℕ). Ok t) (sym (before.2 ∙ skip_none before.0 none));
}
