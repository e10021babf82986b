-- Laws of all lines, scripts and runs.
use Rattle.std.specs.Prelude.{◌≡◌, ℕ, List, [], ◌∷◌, ◌++◌, Result}
use Rattle.satip_base.specs.Lists.{Each}
use Rattle.satip_plain.specs.declared.events.Event.{Event}
use Rattle.satip_plain.specs.declared.setting.Setting.{Setting}
use Rattle.satip_plain.specs.Steps.{step}
use Rattle.satip_plain.specs.Histories.{Item, after}
use Rattle.satip_plain.specs.Values.{IsServable, IsSetting, IsEvent}
use Rattle.satip_script.specs.declared.lines.Line.{Line}
use Rattle.satip_script.specs.Reading.{IsLine}
use Rattle.satip_script.specs.Scripts.{IsScript}
use Rattle.satip_script.specs.Runs.{item_of, run, IsRun}
use Rattle.satip_script.specs.Printed.{entry_text, printed}

-- each line is exactly one thing
pub record OneLine : Type 0 where
  pub one : (line : List ℕ) (a b : Line) → IsLine line a → IsLine line b → a ≡ b
  pub some : (line : List ℕ) → (l : Line) × IsLine line l

-- each text is one script, or has one first wrong line
pub record OneScript : Type 0 where
  pub one : (text : List ℕ) (a b : Result (List Event) ℕ) → IsScript text a → IsScript text b → a ≡ b
  pub some : (text : List ℕ) → (result : Result (List Event) ℕ) × IsScript text result

-- the run of events is a legal history of them, and the only one
pub record OneRun : Type 0 where
  pub is_run : (c : Setting) (events : List Event) → IsServable c.config → IsSetting c → Each IsEvent events → IsRun c events (run c events)
  pub only : (c : Setting) (events : List Event) (h : List Item) → IsRun c events h → h ≡ run c events

-- one more event adds its entry to the run, and one more entry its lines to the printed run
pub record RunGrows : Type 0 where
  pub entries : (c : Setting) (events : List Event) (e : Event)
      → run c (events ++ e ∷ []) ≡ run c events ++ item_of e (step c.config (after c (run c events)) e) ∷ []
  pub lines : (h : List Item) (e : Item) → printed (h ++ e ∷ []) ≡ printed h ++ entry_text e.answer e.out
