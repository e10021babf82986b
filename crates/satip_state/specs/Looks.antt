-- The results of lookups of sessions and streams.
use Rattle.std.specs.Prelude.{ℕ, nat_le, ◌&&◌, Bool, if◌then◌else◌, Option, Some, None}
use Rattle.std.specs.Option.{option_map, option_map_or}
use Rattle.satip_table.specs.declared.session.Seat.{Seat}
use Rattle.satip_flow.specs.declared.place.SenderState.{SenderState}
use Rattle.satip_flow.specs.Subscription.{sender_state}
use Rattle.satip_flow.specs.Subscriptions.{packing_of_slot}
use Rattle.satip_plain.specs.Steps.{next_number}
use Rattle.satip_state.specs.Kept.{Kept}
use Rattle.satip_base.specs.declared.identity.SessionId.{SessionId}
use Rattle.satip_table.specs.declared.session.Session.{Session as Row}
use Rattle.satip_plain.specs.Types.{Config, Tuning}
use Rattle.satip_plain.specs.State.{Session, State, owner}
use Rattle.satip_plain.specs.Refusals.{new_outlook}
use Rattle.satip_plain.specs.Streams.{outlook_of}
use Rattle.satip_fronts.specs.Choice.{Outlook, blocked}
use Rattle.satip_tune.specs.Frontends.{mux_for}

-- a session that isn't an HTTP session
abbrev pub if_rtsp : Option Row → Option Row
if_rtsp None = None
if_rtsp (Some s) = if s.http then None else Some s

-- the state of the front ends for a stream that lives, or for one that isn't created yet
abbrev pub outlook_for : Config → State → Option ℕ → Outlook
outlook_for c st None = new_outlook c st
outlook_for c st (Some number) = outlook_of c st number

-- a number that a stream may have
abbrev pub numbered : Option ℕ → Option ℕ
numbered None = None
numbered (Some number) = if nat_le 1 number && nat_le number 64 then Some number else None

-- whether no front end is available for the stream with this tuning
abbrev pub is_blocked : Config → State → Option ℕ → Tuning → Bool
is_blocked c st number tuning = blocked (outlook_for c st number) (mux_for c.muxes tuning) tuning

-- the sequence number of the next datagram of a session that isn't an HTTP session
abbrev pub rtsp_number : Option Session → ℕ
rtsp_number None = 0
rtsp_number (Some s) = if s.http then 0 else next_number s

-- the same from the parts: from its packer's state, or from the session if it has no packer yet
abbrev pub kept_number : Option SenderState → Option Seat → ℕ
kept_number sender None = 0
kept_number sender (Some seat) = if seat.session.http then 0 else option_map_or (λ s. s.next) sender seat.session.first

-- the state of the packer of a seat's session
abbrev pub sender_in : Kept → Option Seat → Option SenderState
sender_in v None = None
sender_in v (Some seat) = sender_state (packing_of_slot seat.slot v.flow)

-- the id of the owner of a stream
abbrev pub owner_id : State → ℕ → Option SessionId
owner_id st number = option_map (λ s. s.id) (owner st number)
