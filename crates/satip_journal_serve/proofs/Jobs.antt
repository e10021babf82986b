-- What the sinks of all jobs were sent, of callers side by side: before their jobs and after.
use Rattle.std.proofs.Common.{◌≡◌, ℕ, ◌+◌, Bool, true, false, List, [], ◌∷◌, map, refl, sym, ap, subst, inl, inr, ⊎_elim}
use Rattle.std.specs.Prelude.{◌==◌}
use Rattle.satip_base.specs.Streams.{Drain}
use Rattle.satip_base.specs.History.{kept_if, own_of}
use Rattle.satip_base.specs.Lists.{Begins, Each, Has}
use Rattle.satip_base.proofs.Elements.{each_at, each_has}
use Rattle.satip_base.proofs.Owned.{own_of-cons_same}
use Rattle.satip_plain.specs.declared.setting.Setting.{Setting}
use Rattle.satip_plain.specs.Histories.{Item}
use Rattle.satip_turn.specs.Shown.{Cell}
use Rattle.satip_jobs.specs.Pairs.{Both}
use Rattle.satip_shared.specs.Calling.{ServerPass}
use Rattle.satip_journal.specs.declared.crew.JournalGear.{JournalGear}
use Rattle.satip_journal_serve.specs.Journals.{journal_of, journals_from}
use Rattle.satip_journal.specs.Keeping.{Kept, SameJournal, kept}
use Rattle.satip_journal.specs.Logs.{Logs}
use Rattle.satip_journal.specs.Owning.{KnowsOwn}
use Rattle.satip_entry_writer.specs.Entries.{IsTyped}
use Rattle.satip_journal_serve.specs.SinkGears.{AreOpen, AreLogged}
use Rattle.satip_journal_serve.proofs.OwnAtLast.{at_last}

-- a journal by its cell, its pass and what it has beside
abbrev pub kept_of : {X K : Type 0} → (K → ℕ) → (K → Drain) → (X → Cell Setting) → (X → ServerPass) → (X → JournalGear K) → X → Kept
kept_of job drain cell pass gear x = kept (cell x) (pass x) (gear x).number (job (gear x).sink) (drain (gear x).sink) (gear x).failed

module _ {X K : Type 0} (tells : Type 0) (job_of : K → ℕ) (drain : K → Drain) (cell : X → Cell Setting) (pass : X → ServerPass) (gear : X → JournalGear K)
    (own : (x : X) → KnowsOwn (pass x)) (h : List Item) where
  abbrev Same : X → X → Type 0
  Same x y = SameJournal tells (kept_of job_of drain cell pass gear x) (kept_of job_of drain cell pass gear y)

  pub jobs_same : (xs ys : List X) → Both Same xs ys → map (λ y. job_of (gear y).sink) ys ≡ map (λ x. job_of (gear x).sink) xs
  jobs_same [] [] both = refl
  jobs_same [] (y ∷ ys) both = absurd both
  jobs_same (x ∷ xs) [] both = absurd both
  jobs_same (x ∷ xs) (y ∷ ys) both = λ i. both.0.job i ∷ jobs_same xs ys both.1 i

  pub jobs_logged : (job : ℕ) (xs ys : List X) → Both Same xs ys → AreOpen job (map gear xs) → Each (λ x. (pass x).own ≡ []) xs
      → Each (λ y. Begins (pass y).seen h) ys → Each (λ y. own_of (pass y).number h ≡ (pass y).own) ys
      → AreLogged tells drain (map (λ x. drain (gear x).sink) xs) (map gear ys) (journals_from job (map (λ y. (pass y).number) ys) h)
  jobs_logged job [] [] both unfailed new begins all = tt
  jobs_logged job [] (y ∷ ys) both unfailed new begins all = absurd both
  jobs_logged job (x ∷ xs) [] both unfailed new begins all = absurd both
  jobs_logged job (x ∷ xs) (y ∷ ys) both unfailed new begins all =
      let one = at_last tells (kept_of job_of drain cell pass gear x) (kept_of job_of drain cell pass gear y) h both.0 (own x) (own y) new.0 begins.0 all.0 in
      let P : ℕ → Bool → Type 0 =
      λ number failed. Logs tells (drain (gear x).sink) (drain (gear y).sink) failed (gear y).failed (journal_of number (pass y).number h) in
      let numbered : P job (gear x).failed = subst (λ (n : ℕ). P n (gear x).failed) unfailed.0 one.0 in
      (subst (λ (b : Bool). P job b) unfailed.1 numbered, jobs_logged (job + 1) xs ys both.1 unfailed.2 new.1 begins.1 all.1)

  pub jobs_typed : (xs ys : List X) → Both Same xs ys → Each (λ x. (pass x).own ≡ []) xs
      → Each (λ y. Begins (pass y).seen h) ys → Each (λ y. own_of (pass y).number h ≡ (pass y).own) ys
      → Each (λ n. Each IsTyped (own_of n h)) (map (λ y. (pass y).number) ys)
  jobs_typed [] [] both new begins all = tt
  jobs_typed [] (y ∷ ys) both new begins all = absurd both
  jobs_typed (x ∷ xs) [] both new begins all = absurd both
  jobs_typed (x ∷ xs) (y ∷ ys) both new begins all =
      let one = at_last tells (kept_of job_of drain cell pass gear x) (kept_of job_of drain cell pass gear y) h both.0 (own x) (own y) new.0 begins.0 all.0 in
      (one.1, jobs_typed xs ys both.1 new.1 begins.1 all.1)

has_kept : (b : Bool) (e x : Item) (xs : List Item) → Has e xs → Has e (kept_if b x xs)
has_kept true e x xs has = inr has
has_kept false e x xs has = has

-- an entry is one of its caller's
has_own : (h : List Item) (e : Item) → Has e h → Has e (own_of e.caller h)
has_own [] e has = absurd has
has_own (x ∷ xs) e has =
    ⊎_elim
    (λ (here : e ≡ x).
    let first : own_of e.caller (x ∷ xs) ≡ x ∷ own_of e.caller xs = own_of-cons_same e.caller x xs (ap (λ (y : Item). y.caller) (sym here)) in
    subst (λ (es : List Item). Has e es) (sym first) (inl here))
    (λ (more : Has e xs). has_kept (x.caller == e.caller) e x (own_of e.caller xs) (has_own xs e more))
    has

-- where each entry is of one of these callers, what holds of all their entries holds of all
pub all_typed : (callers : List ℕ) (h : List Item) → Each (λ n. Each IsTyped (own_of n h)) callers → Each (λ e. Has e.caller callers) h → Each IsTyped h
all_typed callers h typed covered =
    each_has IsTyped h (λ e has.
    let mine = each_at (λ (n : ℕ). Each IsTyped (own_of n h)) callers e.caller typed (each_at (λ (x : Item). Has x.caller callers) h e covered has) in
    each_at IsTyped (own_of e.caller h) e mine (has_own h e has))
