-- The packets that a history sent to a session in its datagrams.
use Rattle.std.specs.Prelude.{ℕ, List, [], ◌∷◌, ◌++◌, flat_map, if◌then◌else◌}
use Rattle.satip_plain.specs.Types.{SessionId, Config}
use Rattle.satip_plain.specs.declared.setting.Setting.{Setting}
use Rattle.satip_plain.specs.State.{State, same_id}
use Rattle.satip_plain.specs.Sending.{Sent, Rtp, Report}
use Rattle.satip_plain.specs.Steps.{step}
use Rattle.satip_plain.specs.Histories.{Item, opening}

-- the transport packets in a datagram, if it is an RTP datagram of the session
abbrev pub packets_for : SessionId → Sent → List (List ℕ)
packets_for s (Rtp id to number clock ssrc packets) = if same_id id s then packets else []
packets_for s (Report id view sender) = []

-- the datagrams of the entries, in order
abbrev pub sent_from : Config → State → List Item → List Sent
sent_from c st [] = []
sent_from c st (e ∷ es) = (step c st e.event).sent ++ sent_from c (step c st e.event).state es

-- the payload of a session: the packets of its RTP datagrams, in order
abbrev pub payload : Setting → List Item → SessionId → List (List ℕ)
payload c h s = flat_map (packets_for s) (sent_from c.config (opening c) h)
