-- The journals of a run are one legal history, and a text has one verdict.
use Rattle.std.specs.Prelude.{◌≡◌, ℕ, List, [], ◌∷◌, ◌++◌, length, flat_map}
use Rattle.std.specs.List.Sorted.{IsPermutation}
use Rattle.satip_base.specs.Lists.{Each}
use Rattle.satip_base.specs.History.{own_of}
use Rattle.satip_plain.specs.declared.setting.Setting.{Setting}
use Rattle.satip_plain.specs.Types.{Config}
use Rattle.satip_plain.specs.Histories.{Item, Legal}
use Rattle.satip_audit.specs.declared.verdicts.Verdict.{Verdict}
use Rattle.satip_audit.specs.declared.verdicts.Verdict.TheVariants.{Yes}
use Rattle.satip_audit.specs.Replaying.{IsJudged}
use Rattle.satip_journal.specs.Places.{own_at}
use Rattle.satip_entry_writer.specs.Entries.{IsTyped}
use Rattle.satip_journal_serve.specs.Journals.{AreCallersOf, journals}

-- if a caller has no entry before some moment, its entries have the places after that moment
abbrev pub OwnAreBehind : Type 0
OwnAreBehind = (caller : ℕ) (seen more : List Item) → own_of caller seen ≡ []
    → own_at 0 caller (seen ++ more) ≡ own_at (length seen) caller more

-- put together in any order, the journals of a legal history are judged `yes`, with its length
abbrev pub JournalsAreOneHistory : Type 0
JournalsAreOneHistory = (c : Setting) (h : List Item) (first : ℕ) (others : List ℕ) (texts : List (List ℕ))
    → Legal c h → Each IsTyped h → AreCallersOf (first ∷ others) h → IsPermutation (journals c.start first others h) texts
    → IsJudged c.config (flat_map (λ text. text) texts) (Yes (length h))

-- no text has two verdicts
abbrev pub HasOneVerdict : Type 0
HasOneVerdict = (config : Config) (text : List ℕ) (v w : Verdict) → IsJudged config text v → IsJudged config text w → v ≡ w
