use Rattle.satip_tunnel_serve.proofs.RunReplying as lemmas
use Rattle.satip_tunnel_serve.proofs.answer_laws.runs_reply.Goals as goal

pub returns : goal.returns
returns c = record { law = lemmas.runs_reply c.histories_reply.ensures.law }
