-- Work on a job.
use Rattle.std.specs.Prelude.{◌≡◌}
use denote.Ref.{MutBor}
use denote.Param.Members.{Shared}

module _ {F J : Type 0} (g : Shared F (MutBor J × Unit {0}) (Unit {0} × (MutBor J × Unit {0}))) (f : F) where
  -- the work accepts this job
  abbrev pub Takes : J → Type 0
  Takes job = (argument : MutBor J) → argument.now ≡ job → g.pre f (argument, tt)

  -- the work accepts any job
  abbrev pub TakesAny : Type 0
  TakesAny = (argument : MutBor J) → g.pre f (argument, tt)

  -- the work on the first may leave the second
  pub record Worked (before after : J) : Type 0 where
    pub argument : MutBor J
    pub argument_is : argument.now ≡ before
    pub after_call : MutBor J
    pub call : g.post f (argument, tt) (tt, (after_call, tt))
    pub left : after_call.now ≡ after
