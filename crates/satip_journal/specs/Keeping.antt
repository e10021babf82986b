-- A journal's contract, call by call.
use Rattle.std.specs.Prelude.{◌≡◌, ℕ, Bool, List, ◌++◌, length}
use Rattle.satip_base.specs.Streams.{Drain}
use Rattle.satip_base.specs.Lists.{Each}
use Rattle.satip_base.specs.History.{own_of}
use Rattle.satip_plain.specs.declared.setting.Setting.{Setting}
use Rattle.satip_plain.specs.Histories.{Item}
use Rattle.satip_turn.specs.Shown.{Cell}
use Rattle.satip_shared.specs.Calling.{ServerPass, SameCaller}
use Rattle.satip_journal.specs.Places.{own_at, lines_of}
use Rattle.satip_entry_writer.specs.Entries.{IsTyped}
use Rattle.satip_journal.specs.Logs.{Logs}

-- a journal at one moment: its server, its caller's pass, the job's number on its lines, its sink's job and drain, and whether a put failed
pub record Kept : Type 0 where
  pub server : Cell Setting
  pub pass : ServerPass
  pub number : ℕ
  pub job : ℕ
  pub drain : Drain
  pub failed : Bool

-- a journal of these parts
abbrev pub kept : Cell Setting → ServerPass → (number job : ℕ) → Drain → Bool → Kept
kept server pass number job drain failed = record { server = server; pass = pass; number = number; job = job; drain = drain; failed = failed }

-- it is the same caller's journal of the same job, on that job's sink. Of the entries seen meanwhile the lines of its own were put, with their places and the job's number, until a
-- put failed. The values of these entries are of their types
pub record SameJournal (tells : Type 0) (k l : Kept) : Type 0 where
  pub caller : SameCaller k.server k.pass l.server l.pass
  pub number : l.number ≡ k.number
  pub job : l.job ≡ k.job
  pub more : List Item
  pub seen : l.pass.seen ≡ k.pass.seen ++ more
  pub logs : Logs tells k.drain l.drain k.failed l.failed (lines_of k.number (own_at (length k.pass.seen) k.pass.number more))
  pub typed : Each IsTyped (own_of k.pass.number more)
