use Rattle.satip_tunnel.proofs.CauseLemmas.{has_cause}
use Rattle.satip_tunnel.proofs.connection.serve_tunnel.Goals as goal

pub returns-clause-tunnel : goal.returns-clause-tunnel
returns-clause-tunnel g c = c.serve.ensures.serves.grows.cell

pub returns-clause-pass : goal.returns-clause-pass
returns-clause-pass g c = c.serve.ensures.serves.grows.keeps

pub returns-clause-seen : goal.returns-clause-seen
returns-clause-seen g c = c.serve.ensures.serves.grows.seen

pub returns-clause-own : goal.returns-clause-own
returns-clause-own g c = record { rest = c.serve.ensures.serves.entries; whole = c.serve.ensures.serves.grows.own }

pub returns-clause-cause : goal.returns-clause-cause
returns-clause-cause g c = has_cause _ _ _ _ _ _ _ _ c.serve.ensures.serves
