-- Jobs at their seats, with callers of one value.
use Rattle.std.specs.Prelude.{◌≡◌, ℕ, ◌+◌, ◌<◌, ◌≤◌, List, [], ◌∷◌, ◌++◌, map, length, vec_len, vec_capacity}
use Rattle.satip_base.specs.Lists.{Each, Begins}
use Rattle.satip_plain.specs.declared.setting.Setting.{Setting}
use Rattle.satip_turn.specs.Shown.{Cell, Knows}
use Rattle.satip_jobs.specs.declared.run.Front.{Front}
use Rattle.satip_jobs.specs.declared.seat.Seat.{Seat}
use Rattle.satip_jobs.specs.Passes.{ItemOf, PassOf, callers_of, IsAlone, IsNew}

-- the numbers rise by one, from n on
abbrev pub AreNumbered : ℕ → List ℕ → Type 0
AreNumbered n [] = Unit {0}
AreNumbered n (m ∷ ms) = (m ≡ n) × AreNumbered (n + 1) ms

module _ {X E A : Type 0} (cell : X → Cell Setting) (pass : X → PassOf E A) where
  -- new callers of this cell
  abbrev pub AreNew : {K M : Type 0} → Cell Setting → List (Seat X K M) → Type 0
  AreNew k seats = Each (λ s. (cell s.caller ≡ k) × IsNew (pass s.caller)) seats

  -- callers of this cell whose passes may be joined
  abbrev pub AreAlone : {K M : Type 0} → Cell Setting → List (Seat X K M) → Type 0
  AreAlone k seats = Each (λ s. (cell s.caller ≡ k) × IsAlone (pass s.caller)) seats

-- the numbers of the passes of these jobs
abbrev pub pass_numbers : {X E A K M : Type 0} → (X → PassOf E A) → List (Seat X K M) → List ℕ
pass_numbers pass seats = map (λ s. (pass s.caller).number) seats

-- jobs before their start: new callers of this cell, with these kits and gears, numbered from 1
pub record Begun {X E A G K M : Type 0} (cell : X → Cell Setting) (pass : X → PassOf E A) (gear : X → G) (k : Cell Setting) (kits : List K) (gears : List G)
    (seats : List (Seat X K M)) : Type 0 where
  pub kits_are : map (λ s. s.kit) seats ≡ kits
  pub gears_are : map (λ s. gear s.caller) seats ≡ gears
  pub numbered : AreNumbered 1 (map (λ s. s.number) seats)
  pub new : AreNew cell pass k seats

-- the passes of these jobs were joined into a pass, in order
pub record Joins {X E A K M : Type 0} (pass : X → PassOf E A) (p q : PassOf E A) (seats : List (Seat X K M)) : Type 0 where
  pub number : q.number ≡ p.number
  pub own : q.own ≡ p.own
  pub made : q.made ≡ p.made
  pub kept : q.kept ≡ p.kept ++ callers_of (map (λ s. pass s.caller) seats)
  pub mine : Begins p.seen q.seen
  pub theirs : Each (λ s. Begins (pass s.caller).seen q.seen) seats

-- memory for a job of each kit, and no job yet
pub record IsSpace {S K G M : Type 0} (kits : List K) (gears : List G) (rooms : List M) (seats : List S) (capacity : ℕ) : Type 0 where
  pub few : length kits < 65536
  pub gears_are : length gears ≡ length kits
  pub rooms_are : length rooms ≡ length kits
  pub none : seats ≡ []
  pub space : length kits ≤ capacity

-- the workers' callers are new callers of the root's cell, and there are empty lists with memory for their kits and gears
pub record IsReady {X E A W L G : Type 0} (cell : X → Cell Setting) (pass : X → PassOf E A) (legal : Setting → List (ItemOf E A) → Type 0)
    (front : Front X W L G) : Type 0 where
  pub knows : Knows (legal (cell front.root).setting) (pass front.root)
  pub new : AreNew cell pass (cell front.root) front.workers.items
  pub no_kits : front.kits.items ≡ []
  pub no_gears : front.gears.items ≡ []
  pub kit_space : vec_len front.workers ≤ vec_capacity front.kits
  pub gear_space : vec_len front.workers ≤ vec_capacity front.gears
