-- An audit: a configuration and journals, read as a whole, and the verdict.
use Rattle.std.specs.Prelude.{ℕ, ◌≤◌, List, length, Result, Ok}
use Rattle.satip_base.specs.Streams.{Feed, PutAll}
use Rattle.satip_tune.specs.Configuration.{Configuration}
use Rattle.satip_audit.specs.declared.verdicts.Verdict.{Verdict}
use Rattle.satip_audit.specs.Journals.{IsJournal, Note}
use Rattle.satip_audit.specs.Verdicts.{IsVerdict}
use Rattle.satip_audit.specs.LegalTexts.{IsLegalIfYes}
use Rattle.satip_config.specs.Reading.{ReadWhole}
use Rattle.satip_config.specs.Configurations.{Configured}
use Rattle.satip_replay.specs.BatchStreams.{BatchStreams}
use Rattle.satip_replay.specs.Replays.{script_limit}
use Rattle.satip_audit.specs.Printed.{verdict_text}

-- the whole input was read, and is journals with these notes, or has this first wrong line
pub record Heard (tells : Type 0) (i j : Feed) (result : Result (List Note) ℕ) : Type 0 where
  pub text : List ℕ
  pub whole : ReadWhole tells i j text
  pub short : length text ≤ script_limit
  pub journal : IsJournal text result

-- both were read, no line is wrong, and this is the verdict; with `yes` the text is a legal history
pub record Judged (config_tells in_tells : Type 0) (o n : BatchStreams) (verdict : Verdict) : Type 0 where
  pub configuration : Configuration
  pub configured : Configured config_tells o.config n.config configuration
  pub notes : List Note
  pub heard : Heard in_tells o.input n.input (Ok notes)
  pub verdict_is : IsVerdict configuration notes verdict
  pub legal : IsLegalIfYes configuration heard.text verdict

-- the verdict was written
pub record Audited (config_tells in_tells out_tells : Type 0) (o n : BatchStreams) : Type 0 where
  pub verdict : Verdict
  pub judged : Judged config_tells in_tells o n verdict
  pub put : PutAll out_tells o.output n.output (verdict_text verdict)
