-- Callers that are services of the server, at the seats of its jobs.
use Rattle.std.specs.Prelude.{◌≡◌, ℕ, Bool, false, List, []}
use Rattle.satip_plain.specs.declared.events.Event.TheVariants.{Stop}
use Rattle.satip_plain.specs.declared.setting.Setting.{Setting}
use Rattle.satip_plain.specs.Histories.{Item, Legal}
use Rattle.satip_plain.specs.Known.{Known}
use Rattle.satip_turn.specs.Shown.{Cell, Keeps, Shown}
use Rattle.satip_shared.specs.Calling.{ServerPass, known_by}
use Rattle.satip_jobs.specs.declared.end.ServeEnd.{ServeEnd}
use Rattle.satip_jobs.specs.declared.seat.Seat.{Seat}
use Rattle.satip_serve.specs.Deeds.{JobState, job_state}

-- the service never returns out of memory
abbrev pub NeverWants : {X : Type 0} → (X → Bool) → Type 0
NeverWants {X} may_want = (x : X) → may_want x ≡ false

-- each caller of this type is a service that knows what its pass has seen and made, and never returns out of memory. The same service calls the same cell, and
-- its pass has the same number, kept rows and numbers of passes made. Their histories are those of the server, and their stop is its event
pub record Serves {X : Type 0} (known : X → Known) (may_want : X → Bool) (same : X → X → Type 0) (cell : X → Cell Setting) (pass : X → ServerPass)
    (legal : Setting → List Item → Type 0) (is_stop : Item → Type 0) : Type 0 where
  pub known_is : (x : X) → known x ≡ known_by (pass x)
  pub never_wants : NeverWants may_want
  pub same_cell : (x y : X) → same x y → cell y ≡ cell x
  pub keeps : (x y : X) → same x y → Keeps (pass x) (pass y)
  pub lawful : (c : Setting) (h : List Item) → legal c h → Legal c h
  pub stops : (e : Item) → is_stop e → e.event ≡ Stop

-- the pass of caller 0, which has made no entry and from which none was split off
pub record IsFirst {E A O C : Type 0} (p : Shown E A O C) : Type 0 where
  pub number : p.number ≡ 0
  pub own : p.own ≡ []
  pub kept : p.kept ≡ []
  pub made : p.made ≡ []

-- a job was done at its seat, over the same service: `did` says so of its number, and of its kit, as contracts see it, before and after
pub record SeatDid {X K V M : Type 0} (same : X → X → Type 0) (known : X → Known) (view : K → V)
    (did : ℕ → JobState V → JobState V → ServeEnd → Type 0) (before after : Seat X K M) : Type 0 where
  pub same_is : same before.caller after.caller
  pub number : after.number ≡ before.number
  pub deed : did before.number (job_state (view before.kit) (known before.caller)) (job_state (view after.kit) (known after.caller)) after.end
