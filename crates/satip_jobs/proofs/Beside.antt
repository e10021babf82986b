-- Lists of seats side by side: before jobs were done and after.
use Rattle.std.proofs.Common.{◌≡◌, ℕ, suc, List, [], ◌∷◌, length, refl, ap, ◌∙◌, subst}
use denote.Ref.{MutBor}
use denote.Param.Members.{Shared}
use Rattle.satip_plain.specs.declared.setting.Setting.{Setting}
use Rattle.satip_turn.specs.Shown.{Cell}
use Rattle.satip_jobs.specs.Pairs.{Both}
use Rattle.satip_jobs.specs.Working.{Worked}
use Rattle.satip_jobs.specs.declared.seat.Seat.{Seat}
use Rattle.satip_jobs.specs.Crews.{AreNew, AreAlone}
use Rattle.satip_jobs.specs.Passes.{PassOf, IsAlone}
use Rattle.satip_jobs.specs.Works.{IsSameSeat, IsWork}

-- what each call of the work says holds of what it was done on and what it left
pub worked_as : {F J : Type 0} (g : Shared F (MutBor J × Unit {0}) (Unit {0} × (MutBor J × Unit {0}))) (f : F) (Q : J → J → Type 0)
    → ((a b : MutBor J) → g.post f (a, tt) (tt, (b, tt)) → Q a.now b.now) → (x y : J) → Worked g f x y → Q x y
worked_as {J = J} g f Q says x y w =
    let here : Q w.argument.now w.after_call.now = says w.argument w.after_call w.call in
    subst (λ (b : J). Q x b) w.left (subst (λ (a : J). Q a w.after_call.now) w.argument_is here)

pub both_length : {S T : Type 0} (P : S → T → Type 0) (xs : List S) (ys : List T) → Both P xs ys → length ys ≡ length xs
both_length P [] [] both = refl
both_length P [] (y ∷ ys) both = absurd both
both_length P (x ∷ xs) [] both = absurd both
both_length P (x ∷ xs) (y ∷ ys) both = ap (λ (n : ℕ). suc n) (both_length P xs ys both.1)

pub both_as : {S T : Type 0} (P Q : S → T → Type 0) → ((x : S) (y : T) → P x y → Q x y) → (xs : List S) (ys : List T) → Both P xs ys → Both Q xs ys
both_as P Q follows [] [] both = tt
both_as P Q follows [] (y ∷ ys) both = absurd both
both_as P Q follows (x ∷ xs) [] both = absurd both
both_as P Q follows (x ∷ xs) (y ∷ ys) both = (follows x y both.0, both_as P Q follows xs ys both.1)

-- work on a seat leaves the job there
pub same_seat : {X E A K M F : Type 0} (cell : X → Cell Setting) (pass : X → PassOf E A)
    (g : Shared F (MutBor (Seat X K M) × Unit {0}) (Unit {0} × (MutBor (Seat X K M) × Unit {0}))) (f : F)
    → IsWork cell pass g f → (x y : Seat X K M) → Worked g f x y → IsSameSeat cell pass x y
same_seat cell pass g f is x y w = worked_as g f (λ a b. IsSameSeat cell pass a b) is.same x y w

-- a caller that was new and did its job is alone still
pub still_alone : {X E A K M : Type 0} (cell : X → Cell Setting) (pass : X → PassOf E A) (x y : Seat X K M) → IsSameSeat cell pass x y → IsAlone (pass x.caller)
    → IsAlone (pass y.caller)
still_alone cell pass x y same alone = record { kept = same.keeps.kept ∙ alone.kept; made = same.keeps.made ∙ alone.made }

pub alone_after : {X E A K M : Type 0} (cell : X → Cell Setting) (pass : X → PassOf E A) (k : Cell Setting) (did : Seat X K M → Seat X K M → Type 0)
    → ((x y : Seat X K M) → did x y → IsSameSeat cell pass x y) → (before after : List (Seat X K M)) → Both did before after → AreNew cell pass k before
    → AreAlone cell pass k after
alone_after cell pass k did same [] [] both new = tt
alone_after cell pass k did same [] (y ∷ ys) both new = absurd both
alone_after cell pass k did same (x ∷ xs) [] both new = absurd both
alone_after cell pass k did same (x ∷ xs) (y ∷ ys) both new =
    let still = same x y both.0 in (
      (still.cell_is ∙ new.0.0, still_alone cell pass x y still new.0.1.alone),
      alone_after cell pass k did same xs ys both.1 new.1,
    )
