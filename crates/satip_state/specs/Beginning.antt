-- The parts after a new session got its slot.
use Rattle.std.specs.Prelude.{◌≡◌, ℕ, ◌+◌, ◌*◌, ◌-◌, ◌^◌, min, if◌then◌else◌, List, Some, slice_set, find}
use Rattle.satip_base.specs.declared.identity.SessionId.{SessionId}
use Rattle.satip_table.specs.declared.session.Session.{Session as Row}
use Rattle.satip_table.specs.declared.stream.Stream.{Stream as StreamRow}
use Rattle.satip_table.specs.Sessions.{has_id_of}
use Rattle.satip_table.specs.Streams.{has_number}
use Rattle.satip_flow.specs.Subscription.{Subscription}
use Rattle.satip_flow.specs.Subscriptions.{put, without, IsFrontOrNone}
use Rattle.satip_state.specs.Kept.{Kept}
use Rattle.satip_state.specs.Subscribing.{subscription_of}

-- the subscribers after an HTTP session of this slot began to get packets
unfoldable pub with_queue : ℕ → Row → StreamRow → List Subscription → List Subscription
with_queue slot row t old = if row.http then put (subscription_of slot row t) (without slot old) else old

-- the parts after the session of this slot got its end, one timeout from now, and its packets if it is an HTTP session
unfoldable pub begun : ℕ → Row → StreamRow → Kept → Kept
begun slot row t v = record v {
  dues = slice_set v.dues slot (Some (min (v.clock + v.timeout * 1000) (2 ^ 64 - 1)));
  flow = with_queue slot row t v.flow;
}

-- the parts changed in this way for the session of this id
abbrev pub Begins : SessionId → Kept → Kept → Type 0
Begins id old new = (slot : ℕ) (row : Row) (t : StreamRow) → find (has_id_of id) old.table.seats ≡ Some (record { slot = slot; session = row })
    → find (has_number row.stream) old.table.streams ≡ Some t → IsFrontOrNone t.front → new ≡ begun slot row t old
