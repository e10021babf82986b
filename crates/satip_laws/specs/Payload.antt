-- The packets that were sent to a session, compared with those that it was given.
use Rattle.std.specs.Prelude.{ℕ, ◌≡◌, ◌≤◌, true, false, List, [], ◌++◌, length, sum, take, Some}
use Rattle.std.specs.Option.{option_map_or}
use Rattle.satip_plain.specs.declared.setting.Setting.{Setting}
use Rattle.satip_plain.specs.Types.{SessionId}
use Rattle.satip_plain.specs.State.{Session, State, held}
use Rattle.satip_plain.specs.Steps.{most_queued}
use Rattle.satip_plain.specs.Histories.{Item, after}
use Rattle.satip_plain.specs.Packets.{payload}
use Rattle.satip_laws.specs.Given.{given}
use Rattle.satip_laws.specs.Makings.{made_as, living}
use Rattle.satip_laws.specs.Pulls.{taken}

-- the packets that were given to a session and haven't left yet; none if it doesn't live
abbrev pub held_of : State → SessionId → List (List ℕ)
held_of st s = option_map_or held (living st s) []

-- the payload, followed by at most six held packets, is what was given
pub record PayloadAndHeld (c : Setting) (h : List Item) (s : SessionId) : Type 0 where
  pub whole : payload c h s ++ held_of (after c h) s ≡ given c h s
  pub few : length (held_of (after c h) s) ≤ 6

-- this holds of each RTSP session that was created
abbrev pub PayloadIsGiven : Type 0
PayloadIsGiven = (c : Setting) (h : List Item) (s : SessionId) (x : Session) → made_as c h s ≡ Some x → x.http ≡ false → PayloadAndHeld c h s

-- a living session has picked what it was given, and a prefix of that has left it
pub record PickedIsGiven (c : Setting) (h : List Item) (s : SessionId) (y : Session) : Type 0 where
  pub picked : y.picked ≡ given c h s
  pub sent : y.http ≡ false → payload c h s ≡ take (sum y.sizes) y.picked
  pub pulled : y.http ≡ true → taken c h s ≡ take (sum y.sizes) y.picked

-- this holds of each living session
abbrev pub LivingPicked : Type 0
LivingPicked = (c : Setting) (h : List Item) (s : SessionId) (y : Session) → living (after c h) s ≡ Some y → PickedIsGiven c h s y

-- the pulls of an HTTP session took a prefix of what it was given; while it lives the rest is its queue, of at most 4096 packets
pub record TakenAndQueued (c : Setting) (h : List Item) (s : SessionId) : Type 0 where
  pub rest : List (List ℕ)
  pub whole : taken c h s ++ rest ≡ given c h s
  pub queue : (y : Session) → living (after c h) s ≡ Some y → rest ≡ held y
  pub few : (y : Session) → living (after c h) s ≡ Some y → length rest ≤ most_queued

-- this holds of each HTTP session that was created
abbrev pub TakenIsGiven : Type 0
TakenIsGiven = (c : Setting) (h : List Item) (s : SessionId) (x : Session) → made_as c h s ≡ Some x → x.http ≡ true → TakenAndQueued c h s
