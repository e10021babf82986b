use Rattle.satip_tunnel_laws.proofs.Splitting as lemmas
use Rattle.satip_tunnel_laws.proofs.piece_laws.parts_law.Goals as goal

pub returns : goal.returns
returns c = record { none_begins_another = lemmas.none_begins_another; one_way = lemmas.split_one_way }
