use Rattle.std.proofs.Common.{◌∙◌}
use Rattle.satip_client.proofs.ExchangeLemmas.{starts_by}
use Rattle.satip_client.proofs.opening.start.Goals as goal

pub returns-clause-starts : goal.returns-clause-starts
returns-clause-starts g c =
    starts_by _ _ _ _ _ _ _ _ c.accepted.result (c.bytes.ensures.bytes ∙ c.write_play.ensures.request)
    c.in_ok-ask.ensures.asks c.bytes-2.ensures.bytes c.accepted.ensures.accepts
