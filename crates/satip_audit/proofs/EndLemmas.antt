-- The outcome of an audit, by what was read and judged.
use Rattle.std.proofs.Common.{◌≡◌, ℕ, inl, inr, List, refl, sym, subst}
use Rattle.satip_base.specs.Streams.{Feed, Drain}
use Rattle.satip_tune.specs.Configuration.{Configuration}
use Rattle.satip_config.specs.Configurations.{Configured, ConfigurationEnds}
use Rattle.satip_config.specs.Outcomes.{outcome_of_reading}
use Rattle.satip_config.specs.Reading.{EndsWhole}
use Rattle.satip_config.specs.declared.reading.ConfigurationEnd.{ConfigurationEnd}
use Rattle.satip_config.specs.declared.reading.ConfigurationEnd.TheVariants as reading
use Rattle.satip_replay.specs.Replays.{script_limit}
use Rattle.satip_replay.specs.BatchCommands.{BatchRuns}
use Rattle.satip_replay.specs.BatchStreams.{BatchStreams}
use Rattle.satip_replay.proofs.EndLemmas.{streams}
use Rattle.satip_audit.specs.declared.verdicts.Verdict.{Verdict}
use Rattle.satip_audit.specs.LegalTexts.{IsLegalIfYes}
use Rattle.satip_audit.specs.Printed.{verdict_text}
use Rattle.satip_audit.specs.Replaying.{IsJudged}
use Rattle.satip_audit.specs.Audits.{Judged}
use Rattle.satip_audit.specs.Ends.{AuditOutcome, InputEnds, WriteEnds}
use Rattle.satip_config.specs.declared.outcome.Outcome.{Outcome}
use Rattle.satip_config.specs.declared.outcome.Outcome.TheVariants.{Done, Configuration as OfConfiguration, Journals, InputFault, OutputFault, TooLong, OutOfMemory}

-- the configuration isn't read
unread : (ct it ot : Type 0) (a b i : Feed) (o : Drain) (end : ConfigurationEnd) → ConfigurationEnds ct a b end
    → AuditOutcome ct it ot (streams a i o) (streams b i o) (outcome_of_reading end)
unread ct it ot a b i o (reading.Fault fault) refused = record { refused = refused; input = refl; output = refl }
unread ct it ot a b i o reading.SourceFailed rose = record { cause = inl (record { rose = rose; input = refl }); output = refl }
unread ct it ot a b i o reading.OutOfMemory kept = record { config_faults = kept; in_faults = refl; output = refl }

pub unread_ends : (ct it ot : Type 0) (a b i : Feed) (o : Drain) (end : ConfigurationEnd) (ending : Outcome) → ending ≡ outcome_of_reading end
    → ConfigurationEnds ct a b end → AuditOutcome ct it ot (streams a i o) (streams b i o) ending
unread_ends ct it ot a b i o end ending is ends =
    subst (λ (e : Outcome). AuditOutcome ct it ot (streams a i o) (streams b i o) e) (sym is) (unread ct it ot a b i o end ends)

-- the journals aren't read
pub input_ends : (ct it ot : Type 0) (a b i j : Feed) (o : Drain) (c : Configuration) (end : Outcome) → Configured ct a b c → InputEnds it i j end
    → AuditOutcome ct it ot (streams a i o) (streams b j o) end
input_ends ct it ot a b i j o c InputFault configured rose = record {
  cause = inr (record { configuration = c; configured = configured; rose = rose });
  output = refl;
}
input_ends ct it ot a b i j o c TooLong configured long = record { configuration = c; configured = configured; long = long; output = refl }
input_ends ct it ot a b i j o c OutOfMemory configured kept = record { config_faults = configured.whole.faults; in_faults = kept; output = refl }
input_ends ct it ot a b i j o c _ configured never = absurd never

-- both are read, and the verdict is written
module _ (ct it ot : Type 0) (a b i j : Feed) (o n : Drain) (c : Configuration) (text slice : List ℕ) (verdict : Verdict) (configured : Configured ct a b c)
    (read : EndsWhole it i j script_limit text) (same : slice ≡ text) (judged : IsJudged c slice verdict) (legal : IsLegalIfYes c slice verdict) where
  found : Judged ct it (streams a i o) (streams b j n) verdict
  found =
      let P : List ℕ → Type 0 = λ t. IsJudged c t verdict × IsLegalIfYes c t verdict in
      let both : P text = subst P same (judged, legal) in
      record {
        configuration = c;
        configured = configured;
        notes = both.0.notes;
        heard = record { text = text; whole = read.whole; short = read.short; journal = both.0.journal };
        verdict_is = both.0.verdict_is;
        legal = both.1;
      }

  pub write_ends : (end : Outcome) → WriteEnds ot o n (verdict_text verdict) end → AuditOutcome ct it ot (streams a i o) (streams b j n) end
  write_ends Done put = record { verdict = verdict; judged = found; put = put }
  write_ends OutputFault failed = record { verdict = verdict; judged = found; failed = failed }
  write_ends _ never = absurd never

-- what holds of each batch command
pub audit_runs : (ct it ot : Type 0) (o n : BatchStreams) (end : Outcome) → AuditOutcome ct it ot o n end → BatchRuns ct o n end
audit_runs ct it ot o n Done ends = tt
audit_runs ct it ot o n (OfConfiguration fault) ends = tt
audit_runs ct it ot o n (Journals number) ends = tt
audit_runs ct it ot o n InputFault ends = ends
audit_runs ct it ot o n OutputFault ends = ends.failed.faults
audit_runs ct it ot o n TooLong ends = tt
audit_runs ct it ot o n OutOfMemory ends = tt
audit_runs ct it ot o n _ never = absurd never
