-- The laws on packets, numbers and SSRCs, over the readings of a history.
use Rattle.std.specs.Prelude.{ℕ, ◌≡◌, ◌≤◌, ◌==◌, ◌&&◌, not, Bool, true, false, List, [], ◌∷◌, ◌++◌, filter, length, is_some}
use Rattle.std.specs.List.{list_any}
use Rattle.std.specs.Option.{option_map_or}
use Rattle.satip_base.specs.Lists.{Has}
use Rattle.satip_plain.specs.declared.events.Event.TheVariants.{Tick}
use Rattle.satip_plain.specs.declared.setting.Setting.{Setting}
use Rattle.satip_plain.specs.Types.{SessionId}
use Rattle.satip_plain.specs.State.{same_id}
use Rattle.satip_plain.specs.Streams.{to_set}
use Rattle.satip_plain.specs.Histories.{Item, Legal}
use Rattle.satip_plain.specs.Packets.{payload}
use Rattle.satip_plain.specs.Numbering.{numbers_for}
use Rattle.satip_plain.specs.Readings.{Made, Readings, asking, readings}
use Rattle.satip_laws.specs.InBytes.{payload_in_bytes}
use Rattle.satip_laws.specs.Numbers.{sent_in, CountFrom, is_rtp_of, carries}

-- whether the entry gives the stream of this home another tuning
abbrev pub gives_tuning : Readings → Item → SessionId → Bool
gives_tuning g e home = option_map_or (λ a. same_id a.home home && is_some (to_set (g.tuned home) a.query.change)) (asking g e) false

-- the payload of a session is the same by the bytes that left and by the plain server's datagrams; followed by a list of at most six packets, it is what is
-- selected;
-- the list is empty if the session is over, if the last entry is a tick, or if the last entry gives the session's stream another tuning
pub record SentAndHeld (c : Setting) (h : List Item) (m : Made) : Type 0 where
  pub rest : List (List ℕ)
  pub whole : payload_in_bytes c h m.id ++ rest ≡ (readings c h).selected m.id
  pub meant : payload_in_bytes c h m.id ≡ payload c h m.id
  pub few : length rest ≤ 6
  pub over : (readings c h).over m.id ≡ true → rest ≡ []
  pub ticked : (g : List Item) (e : Item) (now : ℕ) → h ≡ g ++ e ∷ [] → e.event ≡ Tick now → rest ≡ []
  pub retuned : (g : List Item) (e : Item) → h ≡ g ++ e ∷ [] → gives_tuning (readings c g) e m.home ≡ true → rest ≡ []

-- the payload law: this holds of each RTSP session that was created
abbrev pub PayloadIsSelected : Type 0
PayloadIsSelected = (c : Setting) (h : List Item) (m : Made) → Legal c h → Has m (readings c h).made → m.http ≡ false → SentAndHeld c h m

-- the numbering law: the RTP datagrams of a session are numbered one after another, from the first number of its draw on
abbrev pub NumbersFromDraw : Type 0
NumbersFromDraw = (c : Setting) (h : List Item) (m : Made) → Legal c h → Has m (readings c h).made → CountFrom m.draw.first (numbers_for m.id (sent_in c h))

-- whether another session was created with the SSRC of this one
abbrev pub is_shared : List Made → Made → Bool
is_shared made m = list_any (λ n. not (same_id n.id m.id) && n.draw.ssrc == m.draw.ssrc) made

-- the SSRC law: the RTP datagrams of a session are those that carry its SSRC, if no other session was created with it
abbrev pub SsrcOfDrawTells : Type 0
SsrcOfDrawTells = (c : Setting) (h : List Item) (m : Made) → Legal c h → Has m (readings c h).made → is_shared (readings c h).made m ≡ false
    → filter (is_rtp_of m.id) (sent_in c h) ≡ filter (carries m.draw.ssrc) (sent_in c h)
