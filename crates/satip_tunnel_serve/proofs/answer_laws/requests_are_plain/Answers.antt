use Rattle.satip_tunnel_serve.proofs.Parsing as lemmas
use Rattle.satip_tunnel_serve.proofs.answer_laws.requests_are_plain.Goals as goal

pub returns : goal.returns
returns c = record { law = lemmas.requests_are_plain }
