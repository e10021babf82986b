-- The outcome of a run by its words, its requests to the desk, and the meaning of its status.
use Rattle.std.specs.Prelude.{◌≡◌, ℕ, ◌+◌, ◌-◌, ◌<◌, ◌≤◌, ◌⊎◌, ◌↔◌, true, false, List, [], Option, Some, None, IsSome, IsSomeAnd}
use Rattle.satip_base.specs.Streams.{Drain, Rose, PutAll, FailedToPut}
use Rattle.satip_config.specs.Lines.{Says, configuration_line}
use Rattle.satip_config.specs.Outcomes.{Logs}
use Rattle.satip_desk.specs.Streams.{Streams, Tells}
use Rattle.satip_desk.specs.Views.{DeskView}
use Rattle.satip_journal_serve.specs.Audit.CommandEnds.{AuditEnds}
use Rattle.satip_journal_serve.specs.Ends.{JournalEnds}
use Rattle.satip_recorder.specs.Ends.{RecordEnds}
use Rattle.satip_replay.specs.CommandEnds.{ReplayEnds}
use Rattle.satip_tunnel_serve.specs.Serve.CommandEnds.{Serves}
use Rattle.satip_stress.specs.CommandEnds.{StressEnds}
use Rattle.satip_talk_command.specs.Ends.{TalkEnds}
use Rattle.satip_talk_command.specs.Runs.{input_limit, NothingDone}
use Rattle.satip_tunnel_serve.specs.Ends.{Tunnels}
use Rattle.satip_program.specs.Commands.{Form, Talk, Replay, Stress, Audit, Record, Help, Version, Serving, Serve, Tunnel, Journal, Asked, config_named, recording_in, is_tunnel, is_journal, help, usage, version}
use Rattle.satip_program.specs.Ended.{EndedView, served, tunneled, journaled}

-- a text was written as a whole, or in part and the output failed
abbrev pub IsShown : (tells : Type 0) (o n : Drain) (text : List ℕ) (status : ℕ) → Type 0
IsShown tells o n text status = ((status ≡ 0) × PutAll tells o n text) ⊎ ((status ≡ 6) × FailedToPut tells o n text)

-- the usage was logged with status 2, and else the line of an outcome with this status
abbrev pub LogsStatus : (tells : Type 0) (o n : Drain) (status : ℕ) → Type 0
LogsStatus tells o n status = ((status ≡ 2) × Says tells o n usage) ⊎ Logs tells o n status

-- the outcome of a command that waits for no client, by the form of its words. `d` and `f` are the desk before and after, `s` and `r` the streams. Without such
-- a command nothing is taken or written
abbrev pub CommandEnds : (t : Tells) → (d f : DeskView) → (s r : Streams) → EndedView → Option Form → Type 0
CommandEnds t d f s r e None = NothingDone s.input r.input s.output r.output
CommandEnds t d f s r e (Some Talk) = TalkEnds t.input t.output s.input r.input s.output r.output e.status
CommandEnds t d f s r e (Some (Replay name)) = ReplayEnds t name d f s r e.source e.status
CommandEnds t d f s r e (Some (Stress seed count)) = StressEnds t.output seed count s.input r.input s.output r.output e.status
CommandEnds t d f s r e (Some (Audit name)) = AuditEnds t name d f s r e.source e.status
CommandEnds t d f s r e (Some (Record w)) = RecordEnds t w d f s r e.left e.status
CommandEnds t d f s r e (Some Help) = (r.input ≡ s.input) × IsShown t.output s.output r.output help e.status
CommandEnds t d f s r e (Some Version) = (r.input ≡ s.input) × IsShown t.output s.output r.output version e.status

-- the outcome of a service. If its jobs ran, they ran by the configuration of the desk's text, over one history. In a server it keeps four laws: of payload,
-- owners, busy replies and recordings. So do the server's entries in a tunnel's history, and a server with journals. With status 0
-- and sinks that expose their bytes, its journals are judged `yes` in any order. With status 3 the line on the errors sink names the configuration's fault
abbrev pub ServiceEnds : (t : Tells) → (d f : DeskView) → (s r : Streams) → EndedView → Option Serving → Type 0
ServiceEnds t d f s r e None = Unit {0}
ServiceEnds t d f s r e (Some (Serve name accepts)) =
    Serves t (λ fault. Says t.errors s.errors r.errors (configuration_line fault)) accepts name d f (served e)
ServiceEnds t d f s r e (Some (Tunnel name accepts)) =
    Tunnels t (λ fault. Says t.errors s.errors r.errors (configuration_line fault)) accepts name d f (tunneled e)
ServiceEnds t d f s r e (Some (Journal name accepts)) = JournalEnds t accepts name d f s.errors r.errors (journaled e)

-- the requests to a desk, by the words; `d` is the desk before the run and `f` after it
pub record AsksOnly (asked : Asked) (d f : DeskView) : Type 0 where
  -- only a command that names a configuration and a recording ask anything
  pub nothing : asked.serving ≡ None → config_named asked.form ≡ None → recording_in asked.form ≡ None → f ≡ d
  pub texts : f.text ≡ d.text
  -- only a service asks for kits, only a recording for a client's devices, only a service with journals for journals
  pub kits : asked.serving ≡ None → f.given ≡ d.given
  pub client : recording_in asked.form ≡ None → f.handed ≡ d.handed
  pub journals : is_journal asked.serving ≡ false → f.journaled ≡ d.journaled

-- the things of the desk that come back, by the words
pub record GivesBack (asked : Asked) (e : EndedView) : Type 0 where
  -- only a command that names a configuration opens one
  pub no_config : asked.serving ≡ None → config_named asked.form ≡ None → e.source ≡ None
  -- only a service runs jobs
  pub no_last : asked.serving ≡ None → e.last ≡ None
  pub last_alone : is_tunnel asked.serving ≡ true → e.last ≡ None
  pub no_tunnel : is_tunnel asked.serving ≡ false → e.tunnel ≡ None
  pub no_unused : asked.serving ≡ None → e.unused ≡ None
  pub no_client : recording_in asked.form ≡ None → (e.left.wire ≡ None) × (e.left.inlet ≡ None) × (e.left.clock ≡ None)
  pub no_journals : is_journal asked.serving ≡ false → e.journals ≡ []

-- the meaning of each status, the limit of the input, and the line on the errors sink
pub record StatusTells (t : Tells) (asked : Asked) (d f : DeskView) (s r : Streams) (e : EndedView) : Type 0 where
  pub usage : (e.status ≡ 2) ↔ ((asked.form ≡ None) × (asked.serving ≡ None))
  pub configuration : asked.serving ≡ None → e.status ≡ 3 → IsSome (config_named asked.form)
  pub script : e.status ≡ 4 → IsSome (config_named asked.form)
  pub input_fault : e.status ≡ 5
      → Rose d.faults f.faults ⊎ IsSomeAnd e.source (λ source. Rose 0 source.faults) ⊎ Rose s.input.faults r.input.faults
  pub output_fault : is_journal asked.serving ≡ false → e.status ≡ 6 → Rose s.output.faults r.output.faults
  -- only a service has 7 and 9
  pub no_serving : asked.serving ≡ None → (e.status ≡ 7 → ⊥) × (e.status ≡ 9 → ⊥)
  pub too_long : (e.status ≡ 8) ↔ (input_limit < r.input.taken - s.input.taken)
  pub limit : r.input.taken ≤ s.input.taken + input_limit + 1
  pub errors : recording_in asked.form ≡ None → LogsStatus t.errors s.errors r.errors e.status

-- the outcome of a run, by its words. `d` is the desk before the run and `f` after it, `s` and `r` are the streams before and after, and `e` is what came back
pub record RunEnds (t : Tells) (asked : Asked) (d f : DeskView) (s r : Streams) (e : EndedView) : Type 0 where
  pub command : CommandEnds t d f s r e asked.form
  pub service : ServiceEnds t d f s r e asked.serving
  pub asks : AsksOnly asked d f
  pub back : GivesBack asked e
  pub tells : StatusTells t asked d f s r e
