-- The laws of every legal history of a tunnel.
use Rattle.std.specs.Prelude.{ℕ, List, [], ◌∷◌, ◌++◌}
use Rattle.satip_interleave.specs.Calls.{IsRising}
use Rattle.satip_plain.specs.declared.setting.Setting.{Setting}
use Rattle.satip_interleave.specs.declared.events.TunnelAnswer.{TunnelAnswer}
use Rattle.satip_interleave.specs.declared.events.TunnelAnswer.TheVariants.{Lane}
use Rattle.satip_interleave.specs.Histories.{TunnelItem, TunnelLegal}

-- the number that an answer gives, if it gives one
abbrev pub number_in : TunnelAnswer → List ℕ
number_in (Lane number) = number ∷ []
number_in answer = []

-- the numbers that a history gives, in order
abbrev pub numbers_in : List TunnelItem → List ℕ
numbers_in [] = []
numbers_in (t ∷ ts) = number_in t.answer ++ numbers_in ts

-- the numbers rise strictly, so none is given twice
abbrev pub LaneNumbersRise : Type 0
LaneNumbersRise = (c : Setting) (h : List TunnelItem) → TunnelLegal c h → IsRising 0 (numbers_in h)
