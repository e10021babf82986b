-- What a caller of the shared server knows, and what its calls leave the same.
use Rattle.std.specs.Prelude.{◌≡◌, length, refl}
use mathlib.Core.Path.{ap, ◌∙◌}
use Rattle.satip_base.specs.Output.{Output}
use Rattle.satip_plain.specs.declared.answers.Answer.{Answer}
use Rattle.satip_plain.specs.declared.events.Event.{Event}
use Rattle.satip_plain.specs.declared.setting.Setting.{Setting}
use Rattle.satip_turn.specs.Shown.{Cell, Shown, Keeps}
use Rattle.satip_plain.specs.Known.{Known}

-- a pass of the shared server, as contracts see it
abbrev pub ServerPass : Type 0
ServerPass = Shown Event Answer Output Setting

-- the entries that the pass has seen, its own entries, and the count of those seen
abbrev pub known_by : ServerPass → Known
known_by p = record { seen = p.seen; own = p.own; length = length p.seen }

-- the second caller has the same server, and its pass the same number, kept rows and numbers of passes made
pub record SameCaller (k : Cell Setting) (p : ServerPass) (l : Cell Setting) (q : ServerPass) : Type 0 where
  pub server : l ≡ k
  pub pass : Keeps p q

-- the relation is reflexive and transitive, and keeps the setting
pub same_caller : (k : Cell Setting) (p : ServerPass) → SameCaller k p k p
same_caller k p = record { server = refl; pass = record { number = refl; kept = refl; made = refl } }

pub same_caller_then : (k : Cell Setting) (p : ServerPass) (l : Cell Setting) (q : ServerPass) (m : Cell Setting) (r : ServerPass)
    → SameCaller k p l q → SameCaller l q m r → SameCaller k p m r
same_caller_then k p l q m r a b = record {
  server = b.server ∙ a.server;
  pass = record { number = b.pass.number ∙ a.pass.number; kept = b.pass.kept ∙ a.pass.kept; made = b.pass.made ∙ a.pass.made };
}

pub same_caller_setting : (k : Cell Setting) (p : ServerPass) (l : Cell Setting) (q : ServerPass) → SameCaller k p l q → l.setting ≡ k.setting
same_caller_setting k p l q a = ap (λ (c : Cell Setting). c.setting) a.server
