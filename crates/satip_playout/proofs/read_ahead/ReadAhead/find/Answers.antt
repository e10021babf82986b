use Rattle.std.proofs.Common.{◌∙◌, ap, rules}
use Rattle.satip_ts.specs.Recording.{from_sync}
use Rattle.satip_ts.proofs.Places.{held-drop}
use Rattle.satip_playout.proofs.read_ahead.ReadAhead.find.Goals as goal

-- what is held once the bytes before the next sync byte are dropped
pub returns-clause-found : goal.returns-clause-found
returns-clause-found c =
    held-drop c.self.inside.places c.self.inside.start c.self.inside.end c.bytes_before_sync.result (search rules)
    ∙ c.bytes_before_sync.ensures.sync
    ∙ ap (λ t. from_sync t) c.self.view_is
