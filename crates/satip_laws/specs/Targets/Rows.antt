-- Runs of the small server of satip_plain, for the worked examples.
use Rattle.std.specs.Prelude.{ℕ, List, map, Option, option_map}
use Rattle.satip_plain.specs.declared.events.Event.{Event}
use Rattle.satip_plain.specs.declared.setting.Setting.{Setting}
use Rattle.satip_plain.specs.Types.{SessionId, Address, Peer}
use Rattle.satip_plain.specs.Examples.{config, entry_of, ports, run}
use Rattle.satip_laws.specs.Targets.Targets.{SetUp, last_of, rtcp_address, rtp_address, set_ups}

abbrev pub setting : Setting
setting = record { config = config; start = 0 }

-- the accepted SETUPs of a run of events
abbrev pub set_ups_of : List Event → List SetUp
set_ups_of es = set_ups setting (map entry_of (run es))

-- a SETUP of this session by this client, with this first port and the next
abbrev pub by_client : SessionId → Peer → ℕ → SetUp
by_client id peer port = record { session = id; peer = peer; ports = ports port }

-- the targets of RTP and of reports of a session after these events
abbrev pub rtp_to : List Event → SessionId → Option Address
rtp_to es s = option_map rtp_address (last_of s (set_ups_of es))

abbrev pub reports_to : List Event → SessionId → Option Address
reports_to es s = option_map rtcp_address (last_of s (set_ups_of es))

abbrev pub address : Peer → ℕ → Address
address peer port = record { ip = peer.ip; port = port }
