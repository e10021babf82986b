-- The state in the middle of a run.
use Rattle.std.specs.Prelude.{◌≡◌, ℕ, ◌+◌, ◌%◌, ◌^◌, ◌<◌, List, ◌++◌, map}
use Rattle.rand_chacha.specs.ChaCha.{ChaCha, key_of}
use Rattle.satip_plain.specs.declared.events.Event.{Event}
use Rattle.satip_plain.specs.State.{State}
use Rattle.satip_plain.specs.Steps.{Outcome, step}
use Rattle.satip_plain.specs.Types.{Request}
use Rattle.satip_plain.specs.Histories.{datagram}
use Rattle.satip_core.specs.Serving.{Stands}
use Rattle.satip_stress.specs.declared.clients.Client.{Client}
use Rattle.satip_stress.specs.declared.counted.Counted.{Counted}
use Rattle.satip_stress.specs.declared.kept.Kept.{Kept}
use Rattle.satip_stress.specs.declared.counting.Counts.{Counts}
use Rattle.satip_stress.specs.declared.running.Run.{Run}
use Rattle.satip_script.specs.Runs.{run, run_from}
use Rattle.satip_stress.specs.Counting.{counts}
use Rattle.satip_stress.specs.Counted.{with_entry, IsBounded, HasRoom}
use Rattle.satip_stress.specs.Making.{first, options, play, adding, removing, seed_bytes, opening_events, stress_setting}

-- the counts with the entry of an outcome added
abbrev pub with_outcome : Counts → Outcome → Counts
with_outcome c o = with_entry c o.answer (map datagram o.sent)

-- the server holds the state that an event leaves, and the event's entry is counted
pub record Did (old : Counted) (o : Outcome) (new : Counted) : Type 0 where
  pub stands : Stands new.server o.state
  pub counts : new.counts ≡ with_outcome old.counts o

-- from whatever state the server held, it took the plain server's step at this event
abbrev pub Makes : Counted → Event → Counted → Type 0
Makes old event new = (st : State) → Stands old.server st → Did old (step old.server.setting.config st event) new

-- an OPTIONS of a client; it and the two PLAYs are changed in place
abbrev pub IsOptions : Request → Type 0
IsOptions r = (cseq : ℕ) × (client : Client) × (r ≡ options cseq client)

-- a PLAY of the first client that adds a PID
abbrev pub IsAdding : Request → Type 0
IsAdding r = (cseq : ℕ) × (pid : ℕ) × (r ≡ play cseq first (adding pid))

-- a PLAY of the first client that removes a PID
abbrev pub IsRemoving : Request → Type 0
IsRemoving r = (cseq : ℕ) × (pid : ℕ) × (r ≡ play cseq first (removing pid))

pub record AreKept (kept : Kept) : Type 0 where
  pub options : IsOptions kept.options
  pub adding : IsAdding kept.adding
  pub removing : IsRemoving kept.removing

-- the generator is before the word at this place
abbrev pub before_word : ℕ → ℕ → ChaCha
before_word seed place = record { key = key_of (seed_bytes seed); stream = 0; word_pos = place % 2 ^ 68 }

-- the sum of two counts
abbrev pub plus : Counts → Counts → Counts
plus a b = record {
  events = a.events + b.events;
  replies = a.replies + b.replies;
  refused = a.refused + b.refused;
  datagrams = a.datagrams + b.datagrams;
  payload = a.payload + b.payload;
  reports = a.reports + b.reports;
}

-- the counts are `total` if the entries of these further events are added
pub record ComesTo (total : Counts) (now : Counted) (others : List Event) : Type 0 where
  pub state : State
  pub stands : Stands now.server state
  pub comes : plus now.counts (counts (run_from now.server.setting.config state others)) ≡ total

-- whatever events follow the opening ones, their counts added to the present ones are the counts of the whole run
abbrev pub Opens : Counted → Type 0
Opens now = (others : List Event) → ComesTo (counts (run stress_setting (opening_events ++ others))) now others

-- a run executes an event; these are then the moment of the last tick and the number of the next request
pub record Goes (old : Run) (e : Event) (moment cseq : ℕ) (new : Run) : Type 0 where
  pub setting : new.counted.server.setting ≡ old.counted.server.setting
  pub made : Makes old.counted e new.counted
  pub events : new.counted.counts.events ≡ old.counted.counts.events + 1
  pub bounded : IsBounded new.counted.counts
  pub kept : AreKept new.kept
  pub moment_is : new.moment ≡ moment
  pub cseq_is : new.cseq ≡ cseq

-- a run can execute its next event
pub record IsReady (now : Run) : Type 0 where
  pub room : HasRoom now.counted.counts
  pub kept : AreKept now.kept
  pub moment : now.moment < 9223372036854775808
  pub cseq : now.cseq < 4294967295
