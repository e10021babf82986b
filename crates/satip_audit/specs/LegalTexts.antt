-- The full meaning of `yes`: the entries of a text are one legal history.
use Rattle.std.specs.Prelude.{◌≡◌, ℕ, List, [], ◌∷◌, length, Ok}
use Rattle.satip_plain.specs.Types.{Config}
use Rattle.satip_plain.specs.Histories.{Legal}
use Rattle.satip_plain.specs.Values.{IsServable, IsSetting}
use Rattle.satip_audit.specs.declared.verdicts.Verdict.{Verdict}
use Rattle.satip_audit.specs.declared.verdicts.Verdict.TheVariants.{NoStart, Repeated, Missing, Differs, Yes}
use Rattle.satip_audit.specs.Journals.{IsJournal, Note}
use Rattle.satip_audit.specs.Verdicts.{AreApart, entered, history, setting, starts}
use Rattle.satip_audit.specs.Replaying.{IsJudged}

-- no line of a text is wrong, one line names the start, and each place up to the highest is named once. In the order of their places the entries are a legal
-- history, and there are `count` of them
pub record IsLegalText (config : Config) (text : List ℕ) (count : ℕ) : Type 0 where
  pub notes : List Note
  pub journal : IsJournal text (Ok notes)
  pub start : ℕ
  pub one_start : starts notes ≡ start ∷ []
  pub apart : AreApart (entered notes)
  pub legal : Legal (setting config start) (history (entered notes))
  pub long : length (history (entered notes)) ≡ count

-- if a verdict is `yes`, the text is a legal history of as many entries
abbrev pub IsLegalIfYes : Config → List ℕ → Verdict → Type 0
IsLegalIfYes config text NoStart = Unit {0}
IsLegalIfYes config text (Repeated place) = Unit {0}
IsLegalIfYes config text (Missing place) = Unit {0}
IsLegalIfYes config text (Differs place) = Unit {0}
IsLegalIfYes config text (Yes count) = IsLegalText config text count

-- a text that is judged `yes` is a legal history, if a server can be created with the configuration and its values are within their types. A text that is
-- a legal history is judged `yes`
pub record YesIsLegal : Type 0 where
  pub legal : (config : Config) (text : List ℕ) (count : ℕ) → IsServable config → IsSetting (setting config 0) → IsJudged config text (Yes count)
      → IsLegalText config text count
  pub judged : (config : Config) (text : List ℕ) (count : ℕ) → IsLegalText config text count → IsJudged config text (Yes count)
