-- The log of a service of one thread, and the entries that a call adds to it.
use Rattle.std.specs.Prelude.{◌≡◌, ◌==◌, if◌then◌else◌, ℕ, Bool, true, false, List, [], ◌∷◌, ◌++◌, length, Option, Some, None}
use Rattle.satip_base.specs.Output.{Output}
use Rattle.satip_base.specs.declared.entry.Taken.{Taken}
use Rattle.satip_base.specs.History.{entry, own_of}
use Rattle.satip_plain.specs.declared.answers.Answer.{Answer}
use Rattle.satip_plain.specs.declared.answers.Answer.TheVariants.{Beat as AnswerBeat}
use Rattle.satip_plain.specs.declared.answers.Beat.TheVariants.{Stopping}
use Rattle.satip_plain.specs.declared.events.Event.{Event}
use Rattle.satip_plain.specs.declared.events.Event.TheVariants.{Stop}
use Rattle.satip_plain.specs.declared.setting.Setting.{Setting}
use Rattle.satip_plain.specs.Histories.{Item}
use Rattle.satip_plain.specs.Known.{Known}

-- the server's setting, each entry of its history, and the call, from 0, before which the Stop is due
pub record Log : Type 0 where
  pub setting : Setting
  pub entries : List Item
  pub stop : Option ℕ

-- the log before the first call
abbrev pub new_log : Setting → Option ℕ → Log
new_log c at = record { setting = c; entries = []; stop = at }

-- the calls are those of caller 0
abbrev pub known_of : Log → Known
known_of k = record { seen = k.entries; own = own_of 0 k.entries; length = length k.entries }

-- whether the Stop comes before the call with this number
abbrev pub is_at : Option ℕ → ℕ → Bool
is_at None calls = false
is_at (Some at) calls = at == calls

-- whether the Stop comes before the next call
abbrev pub is_due : Log → Bool
is_due k = is_at k.stop (length (own_of 0 k.entries))

-- the entries before a call's own: if it is due, a Stop of caller 1
abbrev pub Before : Bool → List Item → Type 0
Before false before = before ≡ []
Before true before = (out : Output) × (before ≡ entry 1 Stop (AnswerBeat Stopping) out ∷ [])

-- a call was executed: the Stop if it was due, and then the event, of caller 0
pub record Goes (k : Log) (event : Event) (answer : Answer) (out : Output) (l : Log) : Type 0 where
  pub before : List Item
  pub stops : Before (is_due k) before
  pub grows : l.entries ≡ (k.entries ++ before) ++ entry 0 event answer out ∷ []
  pub then_stop : l.stop ≡ (if is_due k then None else k.stop)
  pub same_setting : l.setting ≡ k.setting

-- these calls were executed one after another
abbrev pub GoesOn : Log → List (Taken Event Answer Output) → Log → Type 0
GoesOn k [] l = k ≡ l
GoesOn k (t ∷ ts) l = (m : Log) × Goes k t.event t.answer t.out m × GoesOn m ts l
