-- What the scans of a first line say of its words.
use Rattle.std.proofs.Common.{◌≡◌, ◌≢◌, ℕ, ◌+◌, ◌-◌, ◌<◌, ◌≤◌, ◌⊎◌, Bool, false, List, [], ◌∷◌, ◌++◌, length, get_or, drop, slice_range, refl, sym, ap, ◌∙◌, subst, ⊎_elim, arith, append-nil}
use Rattle.std.proofs.lemmas.Bool.{cases_lt}
use Rattle.std.proofs.lemmas.List.{drop_more}
use Rattle.std.specs.Char.{is_ascii_graphic}
use Rattle.httparse.specs.Ascii.{space}
use Rattle.httparse.specs.Grammar.{is_token_byte, LineEnd, print_end}
use Rattle.httparse.specs.Pieces.{Begins, IsRunAt, Word}
use Rattle.httparse.proofs.PieceLemmas.{IsDeterministic, NotYet_elim, Word_deterministic, Then_deterministic, Stops-print_end, print_end_unique, front-append, space_ends_token}
use Rattle.httparse.proofs.ReadLemmas.{Word_open, Word_is_run}
use Rattle.httparse.proofs.RunLemmas.{run_unique, IsRunAt_pass, IsRunAt_unique, IsRunAt_open, length-slice_range, drop_split}
use Rattle.satip_frame.specs.Places.{LastWord, Line}

module _ {test : ℕ → Bool} {buf : List ℕ} {at end : ℕ} (fails : test space ≡ false) (run : IsRunAt test buf at end) where
  -- the run goes on to the end of the bytes
  pub no_word_at_end : length buf ≤ end → Begins (Word test space) (drop at buf) → ⊥
  no_word_at_end past = NotYet_elim (Word_open space fails run past)

  word_is_run : end < length buf → (w r : List ℕ) → Word test space w (drop at buf) r
      → (slice_range buf at end ≡ w) × (get_or buf end 0 ≡ space)
  word_is_run inside w r word =
      let same = Word_is_run space fails run inside [] w (r ++ []) (word.0, word.1, front-append (drop at buf) w (space ∷ r) [] word.2) in
      (same.0, same.1)

  -- another byte stops the run
  pub no_word_before : end < length buf → get_or buf end 0 ≢ space → Begins (Word test space) (drop at buf) → ⊥
  no_word_before inside other begins = other (word_is_run inside begins.0 begins.1 begins.2).1

  -- the run is empty
  pub no_empty_word : end < length buf → end ≡ at → Begins (Word test space) (drop at buf) → ⊥
  no_empty_word inside none begins =
      let same = (word_is_run inside begins.0 begins.1 begins.2).0 in
      omega (arith, begins.2.0, ap length same, length-slice_range buf at end run.ordered run.in_range)

  -- the run is a word
  pub word_from_run : end < length buf → get_or buf end 0 ≡ space → end ≢ at
      → Word test space (slice_range buf at end) (drop at buf) (drop (end + 1) buf)
  word_from_run inside stop some = (
    omega (arith, run.ordered, length-slice_range buf at end run.ordered run.in_range),
    IsRunAt_pass run,
    drop_split buf at end run.ordered
        ∙ ap (λ t. slice_range buf at end ++ t) (drop_more buf end 0 inside ∙ ap (λ b. b ∷ drop (end + 1) buf) stop),
  )

module _ {buf : List ℕ} {at end : ℕ} (run : IsRunAt is_ascii_graphic buf at end) where
  -- a version is the run, and its line ends there
  pub version_is_run : (w : List ℕ) (e : LineEnd) (rest : List ℕ) → LastWord (w, e) (drop at buf) rest
      → (slice_range buf at end ≡ w) × (drop end buf ≡ print_end e ++ rest)
  version_is_run w e rest word =
      let stops = Stops-print_end is_ascii_graphic refl refl e rest in
      ⊎_elim (λ inside.
      let same = IsRunAt_unique run inside [] w (print_end e ++ rest) word.2 stops (append-nil _ ∙ word.3) in
      (same.0, sym (append-nil _) ∙ same.1))
      (λ past. absurd (IsRunAt_open run past w (print_end e ++ rest) stops word.3))
      (cases_lt end (length buf))

  -- the run has no length of a version
  pub no_version_of : (end ≡ at) ⊎ (16 < end - at) → Begins LastWord (drop at buf) → ⊥
  no_version_of wrong begins =
      let same = (version_is_run begins.0.0 begins.0.1 begins.1 begins.2).0 in
      let n : length (slice_range buf at end) ≡ length begins.0.0 = ap length same in
      let some : 0 < length begins.0.0 = begins.2.0 in
      let few : length begins.0.0 ≤ 16 = begins.2.1 in
      ⊎_elim (λ none. omega (arith, length-slice_range buf at end run.ordered run.in_range))
      (λ many. omega (arith, length-slice_range buf at end run.ordered run.in_range)) wrong

  -- no line ends behind the run
  pub no_version_end : ((e : LineEnd) (rest : List ℕ) → drop end buf ≡ print_end e ++ rest → ⊥) → Begins LastWord (drop at buf) → ⊥
  no_version_end none begins = none begins.0.1 begins.1 (version_is_run begins.0.0 begins.0.1 begins.1 begins.2).1

  -- the run is a version
  pub version_from_run : (next : ℕ) (e : LineEnd) → end ≢ at → end - at ≤ 16 → drop end buf ≡ print_end e ++ drop next buf
      → LastWord (slice_range buf at end, e) (drop at buf) (drop next buf)
  version_from_run next e some few ends =
      let n = length-slice_range buf at end run.ordered run.in_range in (
        omega (arith, run.ordered, n),
        omega (arith, n),
        IsRunAt_pass run,
        drop_split buf at end run.ordered ∙ ap (λ t. slice_range buf at end ++ t) ends,
      )

LastWord_deterministic : IsDeterministic LastWord
LastWord_deterministic = record {
  unique = λ a b text r q x y.
      let same = run_unique is_ascii_graphic a.0 b.0 _ _ x.2 y.2 (Stops-print_end is_ascii_graphic refl refl a.1 r)
      (Stops-print_end is_ascii_graphic refl refl b.1 q) (sym x.3 ∙ y.3) in
      let ends = print_end_unique a.1 b.1 r q same.1 in
      (λ i. (same.0 i, ends.0 i), ends.1);
  append = λ a text r more x. (
    x.0,
    x.1,
    x.2,
    front-append text a.0 (print_end a.1 ++ r) more x.3
        ∙ ap (λ t. a.0 ++ t) (front-append _ (print_end a.1) r more refl),
  );
}

pub Method_deterministic : IsDeterministic (Word is_token_byte space)
Method_deterministic = Word_deterministic is_token_byte space space_ends_token

pub Target_deterministic : IsDeterministic (Word is_ascii_graphic space)
Target_deterministic = Word_deterministic is_ascii_graphic space refl

-- a text begins with one first line at most
pub Line_deterministic : IsDeterministic Line
Line_deterministic = Then_deterministic Method_deterministic (Then_deterministic Target_deterministic LastWord_deterministic)

-- no target stands behind the method
pub no_target : (head m r : List ℕ) → Word is_token_byte space m head r → (Begins (Word is_ascii_graphic space) r → ⊥) → Begins Line head → ⊥
no_target head m r method none line =
    let same = Method_deterministic.unique m line.0.0 head r line.2.0 method line.2.1 in
    none (subst (Begins (Word is_ascii_graphic space)) (sym same.1) (line.0.1.0, line.2.2.0, line.2.2.1))

-- no version stands behind the target
pub no_version : (head m t r q : List ℕ) → Word is_token_byte space m head r → Word is_ascii_graphic space t r q
    → (Begins LastWord q → ⊥) → Begins Line head → ⊥
no_version head m t r q method target none line =
    let first = Method_deterministic.unique m line.0.0 head r line.2.0 method line.2.1 in
    let second = Target_deterministic.unique t line.0.1.0 r q line.2.2.0 target
    (subst (λ x. Word is_ascii_graphic space line.0.1.0 x line.2.2.0) (sym first.1) line.2.2.1) in
    none (subst (Begins LastWord) (sym second.1) (line.0.1.1, line.1, line.2.2.2))
