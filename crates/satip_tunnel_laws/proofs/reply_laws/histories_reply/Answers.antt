use Rattle.satip_tunnel_laws.proofs.Answering as lemmas
use Rattle.satip_tunnel_laws.proofs.reply_laws.histories_reply.Goals as goal

pub returns : goal.returns
returns c = record { law = lemmas.histories_reply }
