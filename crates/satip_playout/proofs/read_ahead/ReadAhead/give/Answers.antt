use Rattle.std.proofs.Common.{ℕ, List, ◌∙◌, drop, ap, rules}
use Rattle.satip_ts.proofs.Places.{held-drop}
use Rattle.satip_playout.proofs.read_ahead.ReadAhead.give.Goals as goal

-- what waits behind the bytes that were handed out
pub returns-clause-rest : goal.returns-clause-rest
returns-clause-rest c =
    held-drop c.self.inside.places c.self.inside.start c.self.inside.end c.min-count.result (search rules)
    ∙ ap (λ (held : List ℕ). drop c.min-count.result held) c.self.view_is
