-- Which values are within the types of the program: numbers within their width, packets, lists within their limits.
use Rattle.std.specs.Prelude.{ℕ, ◌≡◌, ◌<◌, ◌≤◌, ◌^◌, List, map, length, IfSome}
use Rattle.std.specs.List.{All, range_with_len}
use Rattle.satip_base.specs.Lists.{Each}
use Rattle.satip_pids.specs.Pids.{IsPidList}
use Rattle.satip_ts.specs.Packet.{IsPacket}
use Rattle.satip_query.specs.declared.queries.PidsGiven.{PidsGiven}
use Rattle.satip_query.specs.declared.queries.PidsGiven.TheVariants.{List as ThesePids}
use Rattle.satip_plain.specs.declared.setting.Setting.{Setting}
use Rattle.satip_rtsp.specs.declared.requests.Refusal.{Refusal}
use Rattle.satip_rtsp.specs.declared.requests.Refusal.TheVariants.{Require}
use Rattle.satip_rtsp.specs.declared.requests.SessionName.{SessionName}
use Rattle.satip_rtsp.specs.declared.requests.SessionName.TheVariants.{Named}
use Rattle.satip_plain.specs.declared.events.Event.{Event}
use Rattle.satip_plain.specs.declared.events.Event.TheVariants.{Request as Asked, Get as Got, Tick, Packet, Ended, Ask, Pull, Close, Stop}
use Rattle.satip_plain.specs.Types.{SessionId, Draw, Ports, Change, Query, Request, Config, Front, Mux}

-- each number is a byte
abbrev pub AreBytes : List ℕ → Type 0
AreBytes bytes = All (λ byte. byte < 2 ^ 8) bytes

pub record IsId (id : SessionId) : Type 0 where
  pub count : id.count < 2 ^ 32
  pub word : id.word < 2 ^ 32

pub record IsDraw (draw : Draw) : Type 0 where
  pub word : draw.word < 2 ^ 32
  pub ssrc : draw.ssrc < 2 ^ 32
  pub first : draw.first < 2 ^ 16

pub record ArePorts (ports : Ports) : Type 0 where
  pub rtp : ports.rtp < 2 ^ 16
  pub rtcp : ports.rtcp < 2 ^ 16

pub record IsChange (change : Change) : Type 0 where
  pub fe : IfSome change.fe (λ n. n < 2 ^ 16)
  pub src : IfSome change.src (λ n. n < 2 ^ 8)
  pub freq : IfSome change.freq (λ n. n < 2 ^ 32)
  pub sr : IfSome change.sr (λ n. n < 2 ^ 32)

abbrev pub ArePidsGiven : PidsGiven → Type 0
ArePidsGiven (ThesePids pids) = IsPidList pids
ArePidsGiven _ = Unit {0}

pub record IsQuery (query : Query) : Type 0 where
  pub change : IsChange query.change
  pub pids : ArePidsGiven query.pids
  pub addpids : IfSome query.addpids IsPidList
  pub delpids : IfSome query.delpids IsPidList

-- the option that a request requires, or its first 128 bytes
pub record IsKept (kept : List ℕ) : Type 0 where
  pub few : length kept ≤ 128
  pub bytes : AreBytes kept

abbrev pub IsRefusal : Refusal → Type 0
IsRefusal (Require kept) = IsKept kept
IsRefusal _ = Unit {0}

abbrev pub IsName : SessionName → Type 0
IsName (Named id) = IsId id
IsName _ = Unit {0}

pub record IsRequest (r : Request) : Type 0 where
  pub cseq : IfSome r.cseq (λ n. n < 2 ^ 32)
  pub refusal : IfSome r.refusal IsRefusal
  pub stream : IfSome r.stream (λ n. n < 2 ^ 16)
  pub session : IsName r.session
  pub query : IsQuery r.query
  pub ports : IfSome r.ports ArePorts

-- a transport packet, of bytes
pub record IsPacketOfBytes (packet : List ℕ) : Type 0 where
  pub packet_is : IsPacket packet
  pub bytes : AreBytes packet

abbrev pub IsEvent : Event → Type 0
IsEvent (Asked peer draw r) = (peer.ip < 2 ^ 32) × IsDraw draw × IsRequest r
IsEvent (Got peer draw r) = (peer.ip < 2 ^ 32) × IsDraw draw × IsQuery r.query
IsEvent (Tick now) = now < 2 ^ 64
IsEvent (Packet front tune packet) = (front < 2 ^ 16) × (tune < 2 ^ 64) × IsPacketOfBytes packet
IsEvent (Ended front tune) = (front < 2 ^ 16) × (tune < 2 ^ 64)
IsEvent (Ask front) = front < 2 ^ 16
IsEvent (Pull id) = IsId id
IsEvent (Close id) = IsId id
IsEvent Stop = Unit {0}

pub record IsFrontEnd (front : Front) : Type 0 where
  pub number : front.number < 2 ^ 16
  pub sources : length front.sources ≡ 256
  pub systems : length front.systems ≡ 2

pub record IsMultiplex (mux : Mux) : Type 0 where
  pub src : mux.src < 2 ^ 8
  pub freq : mux.freq < 2 ^ 32
  pub sr : mux.sr < 2 ^ 32

-- front ends are numbered from 1 in order, at most 16; there are at most 256 multiplexes
pub record IsServable (c : Config) : Type 0 where
  pub numbered : map (λ f. f.number) c.fronts ≡ range_with_len 1 (length c.fronts)
  pub few : length c.fronts ≤ 16
  pub muxes : length c.muxes ≤ 256

pub record IsSetting (c : Setting) : Type 0 where
  pub start : c.start < 2 ^ 64
  pub address : c.config.address < 2 ^ 32
  pub rtsp_port : c.config.rtsp_port < 2 ^ 16
  pub http_port : c.config.http_port < 2 ^ 16
  pub timeout : c.config.timeout < 2 ^ 32
  pub workers : c.config.workers < 2 ^ 16
  pub fronts : Each IsFrontEnd c.config.fronts
  pub muxes : Each IsMultiplex c.config.muxes
  pub files : Each AreBytes c.config.files
