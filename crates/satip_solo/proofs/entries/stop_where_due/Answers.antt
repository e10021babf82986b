use Rattle.std.proofs.Common.{◌≡◌, ◌∙◌, sym, ap, arith, length}
use Rattle.satip_solo.specs.Log.{is_at}
use Rattle.satip_solo.proofs.LogLemmas.{stop_passed}
use Rattle.satip_solo.proofs.entries.stop_where_due.Goals as goal

pub returns-then-not-is_due-clause-stopped : goal.returns-then-not-is_due-clause-stopped
returns-then-not-is_due-clause-stopped c =
    let calls : length c.args.entries.now.items ≡ c.len.result = omega (arith, c.args.entries.now.ok.0, c.len.ensures) in
    λ _. stop_passed _ _ _ (ap (λ n. is_at c.args.stop.now n) calls ∙ sym c.is_due.ensures.due ∙ c.if-not-is_due.true)
