use Rattle.satip_tunnel_laws.proofs.Replies as lemmas
use Rattle.satip_tunnel_laws.proofs.piece_laws.replies_are_replies.Goals as goal

pub returns : goal.returns
returns c = record { law = lemmas.replies_are_replies }
