-- The outcome of a replay, by what was read and run.
use Rattle.std.proofs.Common.{◌≡◌, ℕ, List, Ok, refl, subst, sym, inl, inr}
use Rattle.satip_base.specs.Streams.{Feed, Drain}
use Rattle.satip_plain.specs.Types.{Config as Configuration}
use Rattle.satip_config.specs.Configurations.{Configured, ConfigurationEnds}
use Rattle.satip_config.specs.Outcomes.{outcome_of_reading}
use Rattle.satip_config.specs.declared.reading.ConfigurationEnd.{ConfigurationEnd}
use Rattle.satip_config.specs.declared.reading.ConfigurationEnd.TheVariants as reading
use Rattle.satip_plain.specs.declared.events.Event.{Event}
use Rattle.satip_plain.specs.declared.setting.Setting.{Setting}
use Rattle.satip_plain.specs.Histories.{opening}
use Rattle.satip_script.specs.Scripts.{IsScript}
use Rattle.satip_script.specs.Runs.{run}
use Rattle.satip_script.specs.Printed.{printed}
use Rattle.satip_core.specs.Held.{Held}
use Rattle.satip_core.specs.Serving.{Stands}
use Rattle.satip_config.specs.declared.outcome.Outcome.{Outcome}
use Rattle.satip_config.specs.declared.outcome.Outcome.TheVariants.{Done, Configuration as OfConfiguration, Script, InputFault, OutputFault, TooLong, OutOfMemory}
use Rattle.satip_replay.specs.BatchStreams.{BatchStreams}
use Rattle.satip_replay.specs.BatchCommands.{BatchRuns}
use Rattle.satip_replay.specs.Replays.{setting_of, replayed, HasScript, Checked}
use Rattle.satip_replay.specs.Ends.{RunEnds, ReplayOutcome, ScriptEnds}

-- the run of a server that was made with the configuration
pub runs_as : (tells : Type 0) (o n : Drain) (server : Held) (c : Configuration) (script : List ℕ) (end : Outcome)
    → server.setting ≡ setting_of c → Stands server (opening (setting_of c))
    → ((events : List Event) → Stands server (opening server.setting) → IsScript script (Ok events)
    → RunEnds tells o n (printed (run server.setting events)) end)
    → (events : List Event) → IsScript script (Ok events) → RunEnds tells o n (replayed c events) end
runs_as tells o n server c script end setting stands ends events is =
    let opens : Stands server (opening server.setting) = subst (λ (s : Setting). Stands server (opening s)) (sym setting) stands in
    subst (λ (s : Setting). RunEnds tells o n (printed (run s events)) end) setting (ends events opens is)

abbrev pub streams : (config input : Feed) (output : Drain) → BatchStreams
streams config input output = record { config = config; input = input; output = output }

-- the configuration isn't read
unread : (ct it ot : Type 0) (a b i : Feed) (o : Drain) (end : ConfigurationEnd) → ConfigurationEnds ct a b end
    → ReplayOutcome ct it ot (streams a i o) (streams b i o) (outcome_of_reading end)
unread ct it ot a b i o (reading.Fault fault) refused = record { refused = refused; input = refl; output = refl }
unread ct it ot a b i o reading.SourceFailed rose = record { cause = inl (record { rose = rose; input = refl }); output = refl }
unread ct it ot a b i o reading.OutOfMemory kept = record { config_faults = kept; in_faults = refl; out_faults = refl; written = inl refl }

pub unread_ends : (ct it ot : Type 0) (a b i : Feed) (o : Drain) (end : ConfigurationEnd) (ending : Outcome) → ending ≡ outcome_of_reading end
    → ConfigurationEnds ct a b end → ReplayOutcome ct it ot (streams a i o) (streams b i o) ending
unread_ends ct it ot a b i o end ending is ends =
    subst (λ (e : Outcome). ReplayOutcome ct it ot (streams a i o) (streams b i o) e) (sym is) (unread ct it ot a b i o end ends)

-- the script isn't read
pub script_ends : (ct it ot : Type 0) (a b i j : Feed) (o : Drain) (c : Configuration) (end : Outcome) → Configured ct a b c → ScriptEnds it i j end
    → ReplayOutcome ct it ot (streams a i o) (streams b j o) end
script_ends ct it ot a b i j o c (Script number) configured scripted = record { configuration = c; configured = configured; scripted = scripted; output = refl }
script_ends ct it ot a b i j o c InputFault configured rose = record {
  cause = inr (record { configuration = c; configured = configured; rose = rose });
  output = refl;
}
script_ends ct it ot a b i j o c TooLong configured long = record { configuration = c; configured = configured; long = long; output = refl }
script_ends ct it ot a b i j o c OutOfMemory configured kept = record {
  config_faults = configured.whole.faults;
  in_faults = kept;
  out_faults = refl;
  written = inl refl;
}
script_ends ct it ot a b i j o c _ configured never = absurd never

-- both are read, and the script is run
module _ (ct it ot : Type 0) (a b i j : Feed) (o n : Drain) (c : Configuration) (text slice : List ℕ) (configured : Configured ct a b c)
    (has : HasScript it i j text) (same : slice ≡ text) where
  abbrev checked : Checked ct it (streams a i o) (streams b j n)
  checked = record {
    configuration = c;
    configured = configured;
    events = has.events;
    scripted = record { text = text; whole = has.whole; short = has.short; script = has.script };
  }

  by_end : (end : Outcome) → RunEnds ot o n (replayed c has.events) end → ReplayOutcome ct it ot (streams a i o) (streams b j n) end
  by_end Done put = record { checked = checked; put = put }
  by_end OutputFault failed = record { part = record { checked = checked; sent = failed.content }; rose = failed.faults }
  by_end OutOfMemory stops = record {
    config_faults = configured.whole.faults;
    in_faults = has.whole.faults;
    out_faults = stops.faults;
    written = inr (record { checked = checked; sent = stops.content });
  }
  by_end _ never = absurd never

  pub run_ends : (end : Outcome) → ((events : List Event) → IsScript slice (Ok events) → RunEnds ot o n (replayed c events) end)
      → ReplayOutcome ct it ot (streams a i o) (streams b j n) end
  run_ends end ends = by_end end (ends has.events (rw same has.script))

-- what holds of each batch command
pub replay_runs : (ct it ot : Type 0) (o n : BatchStreams) (end : Outcome) → ReplayOutcome ct it ot o n end → BatchRuns ct o n end
replay_runs ct it ot o n Done ends = tt
replay_runs ct it ot o n (OfConfiguration fault) ends = tt
replay_runs ct it ot o n (Script number) ends = tt
replay_runs ct it ot o n InputFault ends = ends
replay_runs ct it ot o n OutputFault ends = ends.rose
replay_runs ct it ot o n TooLong ends = tt
replay_runs ct it ot o n OutOfMemory ends = tt
replay_runs ct it ot o n _ never = absurd never
