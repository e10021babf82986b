-- The results of one step of a burst.
use Rattle.satip_turn.specs.declared.burst.Fed.{Fed}
use Rattle.satip_turn.specs.declared.burst.Fed.TheVariants.{Made, Ended, Full}

-- a fact for each result
abbrev pub MatchFed : Fed → Type 0 → Type 0 → Type 0 → Type 0
MatchFed Made P Q R = P
MatchFed Ended P Q R = Q
MatchFed Full P Q R = R
