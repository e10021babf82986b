-- The content of a channel's frames: the payload of the one session that was given the channel (RFC 2326, section 10.12).
use Rattle.std.specs.Prelude.{◌≡◌, ◌≢◌, ℕ, ◌-◌, ◌==◌, true, false, List, [], ◌∷◌, ◌++◌, drop, flat_map, slice_index, if◌then◌else◌}
use Rattle.satip_base.specs.Lists.{Begins, Each, Has}
use Rattle.satip_interleave.specs.Lanes.{is_channel_port}
use Rattle.satip_plain.specs.declared.setting.Setting.{Setting}
use Rattle.satip_plain.specs.Types.{SessionId, Ports}
use Rattle.satip_plain.specs.State.{same_id}
use Rattle.satip_plain.specs.Packets.{payload}
use Rattle.satip_plain.specs.Readings.{Made, readings}
use Rattle.satip_laws.specs.Carried.{packets_inside}
use Rattle.satip_laws.specs.Targets.Targets.{SetUp, set_ups}
use Rattle.satip_interleave.specs.Histories.{TunnelItem, TunnelLegal, inners}
use Rattle.satip_tunnel_laws.specs.LaneFrames.{enters, lane}

-- the datagrams in the frames of a channel: the bytes after `$`, the channel and the length of two bytes
abbrev pub inside : ℕ → List (List ℕ) → List (List ℕ)
inside channel [] = []
inside channel (f ∷ fs) = (if slice_index f 1 == channel then drop 4 f ∷ [] else []) ++ inside channel fs

-- the packets in those datagrams, as in RTP datagrams
abbrev pub packets_on : ℕ → List (List ℕ) → List (List ℕ)
packets_on channel frames = flat_map packets_inside (inside channel frames)

-- if a SETUP is from the lane's connection, it asks for neither channel of this port
abbrev pub LeavesPort : ℕ → ℕ → SetUp → Type 0
LeavesPort x port u = u.peer.ip ≡ x → (u.ports.rtp ≢ port) × (u.ports.rtcp ≢ port)

-- all accepted SETUPs of the session came from the lane's connection after it was given the lane, with one pair of channels. No accepted SETUP of another
-- session asks for the first of these channels there
pub record HasChannels (c : Setting) (h : List TunnelItem) (s : SessionId) (x : ℕ) (ports : Ports) : Type 0 where
  pub before : List TunnelItem
  pub entered : TunnelItem
  pub later : List TunnelItem
  pub whole : h ≡ before ++ entered ∷ later
  pub gives : enters x entered.event entered.answer ≡ true
  pub none_before : Each (λ u. same_id u.session s ≡ false) (set_ups c (inners before))
  pub its_own : Each (λ u. same_id u.session s ≡ true → (u.peer.ip ≡ x) × (u.ports ≡ ports)) (set_ups c (inners h))
  pub others : Each (λ u. same_id u.session s ≡ false → LeavesPort x ports.rtp u) (set_ups c (inners h))
  pub channel : is_channel_port ports.rtp ≡ true
  pub two : ports.rtcp ≢ ports.rtp

-- the session was set up on the lane, with one pair of channels: it has an accepted SETUP, and all of them came from the lane's connection with these channels.
-- No accepted SETUP of another session asks for the first of them there
pub record OwnsChannels (c : Setting) (h : List TunnelItem) (s : SessionId) (x : ℕ) (ports : Ports) : Type 0 where
  pub setup : SetUp
  pub has : Has setup (set_ups c (inners h))
  pub of : same_id setup.session s ≡ true
  pub its_own : Each (λ u. same_id u.session s ≡ true → (u.peer.ip ≡ x) × (u.ports ≡ ports)) (set_ups c (inners h))
  pub others : Each (λ u. same_id u.session s ≡ false → LeavesPort x ports.rtp u) (set_ups c (inners h))

-- the packets in these frames on the first channel are a prefix of the session's payload, and of the packets that are selected for it
pub record CarryPayload (c : Setting) (h : List TunnelItem) (s : SessionId) (ports : Ports) (frames : List (List ℕ)) : Type 0 where
  pub payload : Begins (packets_on (ports.rtp - 1) frames) (payload c (inners h) s)
  pub selected : Begins (packets_on (ports.rtp - 1) frames) ((readings c (inners h)).selected s)

-- the same for each RTSP session of a history that alone has its channels on a lane
abbrev pub CarriesOnChannels : Setting → List TunnelItem → Type 0
CarriesOnChannels c h =
    (m : Made) (x : ℕ) (ports : Ports) (frames : List (List ℕ)) → Has m (readings c (inners h)).made → m.http ≡ false
    → HasChannels c h m.id x ports → Begins frames (lane h x) → CarryPayload c h m.id ports frames

-- the same for each prefix of the lane's frames, and each RTSP session that alone has its channels there
abbrev pub ChannelsCarryPayload : Type 0
ChannelsCarryPayload =
    (c : Setting) (h : List TunnelItem) (m : Made) (x : ℕ) (ports : Ports) (frames : List (List ℕ)) → TunnelLegal c h → Has m (readings c (inners h)).made
    → m.http ≡ false → HasChannels c h m.id x ports → Begins frames (lane h x) → CarryPayload c h m.id ports frames
