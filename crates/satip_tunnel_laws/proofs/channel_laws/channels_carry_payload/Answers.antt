use Rattle.satip_tunnel_laws.proofs.Carrying as lemmas
use Rattle.satip_tunnel_laws.proofs.channel_laws.channels_carry_payload.Goals as goal

pub returns : goal.returns
returns c = record { law = lemmas.channels_carry_payload c.datagrams_go_to_one.ensures.law c.lane_numbers_rise.ensures.law c.payload_is_selected.ensures.law }
