-- The effect of a run of jobs.
use Rattle.std.specs.Prelude.{◌≡◌, List, [], ◌∷◌, ◌++◌, map}
use Rattle.satip_plain.specs.declared.setting.Setting.{Setting}
use Rattle.satip_turn.specs.Shown.{Cell, Keeps, Knows}
use Rattle.satip_jobs.specs.Pairs.{Both}
use Rattle.satip_jobs.specs.declared.end.ServeEnd.{ServeEnd}
use Rattle.satip_jobs.specs.declared.posts.Posts.{Posts}
use Rattle.satip_jobs.specs.declared.seat.Seat.{Seat}
use Rattle.satip_jobs.specs.Ends.{worse, worst}
use Rattle.satip_jobs.specs.Passes.{ItemOf, PassOf, Stops}
use Rattle.satip_jobs.specs.Crews.{Begun, Joins, pass_numbers}

module _ {X E A G : Type 0} (cell : X → Cell Setting) (pass : X → PassOf E A) (gear : X → G) (legal : Setting → List (ItemOf E A) → Type 0)
    (is_stop : ItemOf E A → Type 0) (goes_on : X → X → Type 0) where
  -- jobs were done, their passes were joined, and then the stop was executed, or the history is full
  pub record FrontDid {K M : Type 0} (did : Seat X K M → Seat X K M → Type 0) (o : X) (seats : List (Seat X K M)) (n : X) (kits : List K) (gears : List G)
      (end : ServeEnd) : Type 0 where
    pub ended : List (Seat X K M)
    pub done : Both did seats ended
    pub joined : X
    pub joined_cell : cell joined ≡ cell o
    pub joined_gear : gear joined ≡ gear o
    pub joins : Joins pass (pass o) (pass joined) ended
    pub knew : Knows (legal (cell o).setting) (pass joined)
    pub kits_are : kits ≡ map (λ s. s.kit) ended
    pub gears_are : gears ≡ map (λ s. gear s.caller) ended
    pub stop : ServeEnd
    pub cell_is : cell n ≡ cell o
    pub keeps : Keeps (pass joined) (pass n)
    pub stops : Stops is_stop stop (pass joined) (pass n)
    pub went_on : goes_on joined n
    pub knows : Knows (legal (cell o).setting) (pass n)
    pub end_is : end ≡ worse (worst (map (λ s. s.end) ended)) stop

  -- all jobs ran, each with a new caller of the cell; their passes were joined into the root's, those of the workers before the root's stop,
  -- those of the pumps and the ticker after it
  pub record RunDid {W L P M T N : Type 0} (worked : Seat X W L → Seat X W L → Type 0) (pumped : Seat X P M → Seat X P M → Type 0)
      (ticked : Seat X T N → Seat X T N → Type 0) (o : X) (before : Posts W P T G) (n : X) (after : Posts W P T G) (end : ServeEnd) : Type 0 where
    pub first : List (Seat X W L)
    pub second : List (Seat X P M)
    pub third : Seat X T N
    pub first_begun : Begun cell pass gear (cell o) before.workers.items before.worker_gears.items first
    pub second_begun : Begun cell pass gear (cell o) before.pumps.items before.pump_gears.items second
    pub third_begun : Begun cell pass gear (cell o) (before.ticker ∷ []) (before.ticker_gear ∷ []) (third ∷ [])
    pub begun : X
    pub begun_cell : cell begun ≡ cell o
    pub begun_gear : gear begun ≡ gear o
    pub number : (pass begun).number ≡ (pass o).number
    pub own : (pass begun).own ≡ (pass o).own
    pub kept : (pass begun).kept ≡ (pass o).kept
    pub made : (pass begun).made ≡ (((pass o).made ++ pass_numbers pass first) ++ pass_numbers pass second) ++ pass_numbers pass (third ∷ [])
    pub stopped : X
    pub worst_front : ServeEnd
    pub front : FrontDid worked begun first stopped after.workers.items after.worker_gears.items worst_front
    pub second_ended : List (Seat X P M)
    pub second_done : Both pumped second second_ended
    pub third_ended : Seat X T N
    pub third_done : ticked third third_ended
    pub joined : X
    pub second_joins : Joins pass (pass stopped) (pass joined) second_ended
    pub third_joins : Joins pass (pass joined) (pass n) (third_ended ∷ [])
    pub cell_is : cell n ≡ cell o
    pub gear_is : gear n ≡ gear stopped
    pub pumps_are : after.pumps.items ≡ map (λ s. s.kit) second_ended
    pub pump_gears_are : after.pump_gears.items ≡ map (λ s. gear s.caller) second_ended
    pub ticker_is : after.ticker ≡ third_ended.kit
    pub ticker_gear_is : after.ticker_gear ≡ gear third_ended.caller
    pub end_is : end ≡ worse (worse worst_front (worst (map (λ s. s.end) second_ended))) third_ended.end
