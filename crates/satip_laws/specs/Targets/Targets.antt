-- The targets of the datagrams of RTSP sessions, read from a history's entries alone: the client of the session's last accepted SETUP,
-- and the ports that it asked for.
use Rattle.std.specs.Prelude.{◌≡◌, List, [], ◌∷◌, ◌++◌, Option, None, Some, option_map, unwrap_or, if◌then◌else◌}
use Rattle.satip_base.specs.Lists.{Each, Has}
use Rattle.satip_rtsp.specs.declared.requests.SessionName.{SessionName}
use Rattle.satip_rtsp.specs.declared.requests.SessionName.TheVariants.{Named}
use Rattle.satip_plain.specs.declared.events.Event.{Event}
use Rattle.satip_plain.specs.declared.events.Event.TheVariants.{Request as Asked}
use Rattle.satip_plain.specs.declared.setting.Setting.{Setting}
use Rattle.satip_plain.specs.Types.{SessionId, Address, Config, Draw, Peer, Ports}
use Rattle.satip_plain.specs.State.{same_id}
use Rattle.satip_plain.specs.Sending.{Sent, Rtp, Report}
use Rattle.satip_rtsp.specs.Methods.{is_setup}
use Rattle.satip_plain.specs.Steps.{no_ports, step}
use Rattle.satip_plain.specs.Histories.{Item, Legal, after, opening}
use Rattle.satip_plain.specs.Packets.{sent_from}
use Rattle.satip_plain.specs.Readings.{Readings, is_accepted, next_made, nothing_read, read_one}

-- an accepted SETUP: its session, its client, and the ports that it asked for
pub record SetUp : Type 0 where
  pub session : SessionId
  pub peer : Peer
  pub ports : Ports

-- the session of an accepted SETUP: the one that it names, or the next one created
abbrev pub session_of : Readings → Draw → SessionName → SessionId
session_of g draw (Named id) = id
session_of g draw _ = next_made g draw.word

-- the SETUP in an event, if it is one
abbrev pub set_up_by : Readings → Event → List SetUp
set_up_by g (Asked peer draw r) =
    if is_setup r.method
    then record { session = session_of g draw r.session; peer = peer; ports = unwrap_or r.ports no_ports } ∷ []
    else []
set_up_by g _ = []

-- the accepted SETUP in an entry, if it is one
abbrev pub set_up_in : Readings → Item → List SetUp
set_up_in g e = if is_accepted e.answer then set_up_by g e.event else []

abbrev pub set_ups_from : Config → Readings → List Item → List SetUp
set_ups_from c g [] = []
set_ups_from c g (e ∷ es) = set_up_in g e ++ set_ups_from c (read_one c g e) es

-- the accepted SETUPs of a history, in order
abbrev pub set_ups : Setting → List Item → List SetUp
set_ups c h = set_ups_from c.config (nothing_read c) h

-- the later of two, if there is one
abbrev pub later_or : Option SetUp → Option SetUp → Option SetUp
later_or None before = before
later_or (Some u) before = Some u

-- the last one of the session
abbrev pub last_of : SessionId → List SetUp → Option SetUp
last_of s [] = None
last_of s (u ∷ us) = later_or (last_of s us) (if same_id u.session s then Some u else None)

-- the target of the session's RTP datagrams, and of its reports
abbrev pub rtp_address : SetUp → Address
rtp_address u = record { ip = u.peer.ip; port = u.ports.rtp }

abbrev pub rtcp_address : SetUp → Address
rtcp_address u = record { ip = u.peer.ip; port = u.ports.rtcp }

-- a datagram goes to the client and port of the last SETUP of its session
abbrev pub GoesToLast : List SetUp → Sent → Type 0
GoesToLast us (Rtp id to number clock ssrc packets) = option_map rtp_address (last_of id us) ≡ Some to
GoesToLast us (Report id view sender) = option_map rtcp_address (last_of id us) ≡ Some sender.to

-- each datagram of a legal entry goes to the client and port of the last SETUP of its session; that entry's own SETUP counts
abbrev pub DatagramsGoToLast : Type 0
DatagramsGoToLast =
    (c : Setting) (h : List Item) (e : Item) → Legal c (h ++ e ∷ [])
    → Each (GoesToLast (set_ups c (h ++ e ∷ []))) (step c.config (after c h) e.event).sent

-- a datagram goes to the client and port of one of these SETUPs of its session
pub record GoesWhere (us : List SetUp) (s : SessionId) (to : Address) (address : SetUp → Address) : Type 0 where
  pub setup : SetUp
  pub has : Has setup us
  pub session : setup.session ≡ s
  pub to_it : to ≡ address setup

-- a datagram or report goes to the client and port of one of these SETUPs of its session
abbrev pub GoesToOne : List SetUp → Sent → Type 0
GoesToOne us (Rtp id to number clock ssrc packets) = GoesWhere us id to rtp_address
GoesToOne us (Report id view sender) = GoesWhere us id sender.to rtcp_address

-- each datagram of a legal history goes to the client and port of one of its SETUPs of that session
abbrev pub DatagramsGoToOne : Type 0
DatagramsGoToOne = (c : Setting) (h : List Item) → Legal c h → Each (GoesToOne (set_ups c h)) (sent_from c.config (opening c) h)
