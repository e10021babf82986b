-- One event of a connection: its entry, and the part of its reply that was sent.
use Rattle.std.specs.Prelude.{◌≡◌, ℕ, Bool, List, [], ◌∷◌, ◌++◌}
use Rattle.satip_plain.specs.declared.answers.Answer.{Answer}
use Rattle.satip_plain.specs.declared.events.Event.{Event}
use Rattle.satip_plain.specs.Histories.{Item}
use Rattle.satip_world.specs.Counts.{Rises}
use Rattle.satip_plain.specs.Calls.{Cause}
use Rattle.satip_plain.specs.declared.fault.ServiceFault.{ServiceFault}
use Rattle.satip_worker.specs.declared.turns.Turn.{Turn}
use Rattle.satip_worker.specs.declared.turns.Turn.TheVariants.{Sent, Lost, Unmade}
use Rattle.satip_worker.specs.Answers.{ends_with}
use Rattle.satip_worker.specs.Progress.{ConnState, Makes, Carries, SameFaults}

-- the entry was made with such an answer, and its reply was sent; no receive and no send failed
pub record ReplySent (conn_tells outlet_tells : Type 0) (o n : ConnState) (event : Event) (IsSuch : Answer → Type 0) : Type 0 where
  pub entry : Item
  pub event_is : entry.event ≡ event
  pub answer_is : IsSuch entry.answer
  pub makes : Makes outlet_tells o.stage n.stage (entry ∷ [])
  pub carries : Carries conn_tells o.line n.line [] entry.out.reply
  pub calm : SameFaults o.line n.line

-- the entry was made with such an answer, and a prefix of its reply was sent; no receive failed
pub record ReplyLost (conn_tells outlet_tells : Type 0) (o n : ConnState) (event : Event) (IsSuch : Answer → Type 0) : Type 0 where
  pub entry : Item
  pub event_is : entry.event ≡ event
  pub answer_is : IsSuch entry.answer
  pub makes : Makes outlet_tells o.stage n.stage (entry ∷ [])
  pub part : List ℕ
  pub rest : List ℕ
  pub reply : entry.out.reply ≡ part ++ rest
  pub carries : Carries conn_tells o.line n.line [] part
  pub faults : Rises o.line.send_faults n.line.send_faults
  pub receives : n.line.receive_faults ≡ o.line.receive_faults

-- the entry was made with such an answer, and nothing was to be sent
pub record EntryMade (conn_tells outlet_tells : Type 0) (o n : ConnState) (event : Event) (IsSuch : Answer → Type 0) : Type 0 where
  pub entry : Item
  pub event_is : entry.event ≡ event
  pub answer_is : IsSuch entry.answer
  pub makes : Makes outlet_tells o.stage n.stage (entry ∷ [])
  pub carries : Carries conn_tells o.line n.line [] []
  pub calm : SameFaults o.line n.line

-- whether the connection ends with the answer
abbrev pub EndsAs : Bool → Answer → Type 0
EndsAs over answer = ends_with answer ≡ over

-- the entry was made, and its reply was sent; `over` says whether the connection ends with it
abbrev pub TurnSent : (conn_tells outlet_tells : Type 0) (o n : ConnState) → Event → Bool → Type 0
TurnSent conn_tells outlet_tells o n event over = ReplySent conn_tells outlet_tells o n event (EndsAs over)

-- the entry was made, and a prefix of its reply was sent; `over` says whether the connection ends with it
abbrev pub TurnLost : (conn_tells outlet_tells : Type 0) (o n : ConnState) → Event → Bool → Type 0
TurnLost conn_tells outlet_tells o n event over = ReplyLost conn_tells outlet_tells o n event (EndsAs over)

-- no entry was made
pub record TurnUnmade (conn_tells outlet_tells : Type 0) (o n : ConnState) (fault : ServiceFault) : Type 0 where
  pub makes : Makes outlet_tells o.stage n.stage []
  pub carries : Carries conn_tells o.line n.line [] []
  pub cause : Cause o.stage.may_want n.stage.known fault

-- the outcome of an event
abbrev pub Turns : (conn_tells outlet_tells : Type 0) (o n : ConnState) → Event → (over : Bool) → Turn → Type 0
Turns conn_tells outlet_tells o n event over Sent = TurnSent conn_tells outlet_tells o n event over
Turns conn_tells outlet_tells o n event over Lost = TurnLost conn_tells outlet_tells o n event over
Turns conn_tells outlet_tells o n event over (Unmade fault) = TurnUnmade conn_tells outlet_tells o n fault
