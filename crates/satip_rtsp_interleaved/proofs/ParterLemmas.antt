-- What a parter may answer from what its framer tells of the bytes behind the frames.
use Rattle.std.proofs.Common.{◌≡◌, ℕ, Bool, true, false, List, [], ◌∷◌, ◌++◌, length, drop, Option, Some, None, is_some, refl, sym, ap, ◌∙◌, subst, arith, length-append, IsSomeAnd, MatchBool}
use Rattle.satip_frame.specs.declared.framing.Break.{Break}
use Rattle.satip_frame.specs.declared.framing.Break.TheVariants.{Bad as cause_bad, TooLong as cause_too_long}
use Rattle.satip_frame.specs.declared.framing.Step.{Step}
use Rattle.satip_frame.specs.declared.framing.Step.TheVariants.{Message, More, Bad, TooLong}
use Rattle.satip_frame.specs.Said.{Said}
use Rattle.satip_frame.specs.Held.{Held as Framed, step_of, cause_of, Tells as FramerTells}
use Rattle.satip_frame.specs.Stream.{Tail, Unfinished, Broken, skip_newlines, Begins, Ends, Messages}
use Rattle.satip_rtsp_interleaved.specs.Frames.{Between, inside, behind, IsStart}
use Rattle.satip_rtsp_interleaved.specs.Parts.{Parts, Leads}
use Rattle.satip_rtsp_interleaved.specs.Held.{Held, IsReadUpTo, Tells}
use Rattle.satip_rtsp_interleaved.specs.Fronts.{IsPassed, IsEnd, IsOpen, parter_of}
use Rattle.satip_rtsp_interleaved.proofs.FrameLemmas.{start_here, start_clean, behind_skipped, same_behind}
use Rattle.satip_rtsp_interleaved.proofs.PartLemmas.{empty_ends, one_list, leads_first, ends_from_rest, leads_more, leads_on, leads-append}

-- the bytes go on in the same way, whatever follows
abbrev pub GoesOn : Held → ℕ → List ℕ → Type 0
GoesOn old left bytes = (more : List ℕ) → behind (inside old.to_come) (old.bytes ++ more) ≡ behind (inside left) (bytes ++ more)

-- behind what was passed over
pub passed_on : (old : Held) (framer : Framed) (to_come : ℕ) (seen : List ℕ) (count left : ℕ) → parter_of to_come framer ≡ old → seen ≡ framer.bytes
    → IsPassed seen to_come count left → GoesOn old left (drop count seen)
passed_on old framer to_come seen count left is shown passed more =
    ap (λ (h : Held). behind (inside h.to_come) (h.bytes ++ more)) (sym is) ∙ ap (λ b. behind (inside to_come) (b ++ more)) (sym shown) ∙ passed.same more

-- no frame stands before the next message of the bytes
abbrev pub IsClear : List ℕ → Type 0
IsClear bytes = behind Between bytes ≡ skip_newlines bytes

pub start_clear : (bytes : List ℕ) → IsStart bytes → IsClear bytes
start_clear bytes start = start_here bytes start ∙ sym (start_clean bytes start)

pub some_map : {P Q : Said → Type 0} (o : Option Said) → ((m : Said) → P m → Q m) → IsSomeAnd o P → IsSomeAnd o Q
some_map None f x = x
some_map (Some m) f x = f m x

pub if_true : (A B : Type 0) (r : Bool) → MatchBool r A B → r ≡ true → A
if_true A B true x e = x
if_true A B false x e = absurd (cc)

pub if_false : (A B : Type 0) (r : Bool) → MatchBool r A B → r ≡ false → B
if_false A B true x e = absurd (cc)
if_false A B false x e = x

-- ---- what the framer tells of the bytes at which a text stands

module _ (old : Held) (mid : List ℕ) (same : GoesOn old 0 mid) (clear : IsClear mid) (text : List ℕ) (ms : List Said) (reads : IsReadUpTo text ms old) where
  at_mid : Leads text ms Between mid
  at_mid = leads_on text ms (inside old.to_come) Between old.bytes mid reads same

  tail_told : (t : Tail) (new : Framed) → Messages mid [] t × (skip_newlines mid ≡ skip_newlines new.bytes)
      → Parts text ms t × IsReadUpTo text ms (parter_of 0 new)
  tail_told t new told = (
    ends_from_rest text ms Between mid t at_mid (subst (λ s. Ends s t) (sym clear) told.0),
    leads_on text ms Between Between mid new.bytes at_mid (same_behind mid new.bytes told.1),
  )

  pub told_here : (step : Step) (new : Framed) → FramerTells mid [] new step → Tells text ms (parter_of 0 new) step
  told_here Message new told = some_map new.found (λ m x.
      leads_on text (ms ++ m ∷ []) Between Between x.0 new.bytes
      (leads_more text ms Between mid m x.0 at_mid (subst (λ s. Begins s m x.0) (sym clear) x.1))
      (same_behind x.0 new.bytes x.2)) told
  told_here More new told = tail_told Unfinished new told
  told_here Bad new told = tail_told (Broken cause_bad) new told
  told_here TooLong new told = tail_told (Broken cause_too_long) new told

-- and so of each text that was read up to what the parter held
pub told_of : (old : Held) (mid : List ℕ) (left : ℕ) (step : Step) (new : Framed) → GoesOn old left mid → left ≡ 0 → IsClear mid
    → FramerTells mid [] new step → (text : List ℕ) (ms : List Said) → IsReadUpTo text ms old → Tells text ms (parter_of left new) step
told_of old mid left step new same between clear told text ms reads =
    subst (λ n. Tells text ms (parter_of n new) step) (sym between)
    (told_here old mid (subst (λ n. GoesOn old n mid) between same) clear text ms reads step new told)

-- nothing stands there that is whole
pub open_told : (old : Held) (left : ℕ) (new : Framed) → GoesOn old left new.bytes → IsOpen new.bytes left
    → (text : List ℕ) (ms : List Said) → IsReadUpTo text ms old → Tells text ms (parter_of left new) More
open_told old left new same is_open text ms reads =
    let on = leads_on text ms (inside old.to_come) (inside left) old.bytes new.bytes reads same in
    (ends_from_rest text ms (inside left) new.bytes Unfinished on (subst (λ s. Ends s Unfinished) (sym is_open.none) empty_ends), on)

-- ---- a text that ended

end_here : (cause : Break) (mid new : List ℕ) (left : ℕ) → left ≡ 0 → IsClear mid
    → Ends (skip_newlines mid) (Broken cause) × (skip_newlines mid ≡ skip_newlines new) → IsEnd new left (Some cause)
end_here cause mid new left between clear told = (
  between,
  behind_skipped new ∙ ap (λ t. behind Between t) (sym told.1) ∙ sym (behind_skipped mid) ∙ clear ∙ told.1,
  subst (λ s. Ends s (Broken cause)) told.1 told.0,
)

rests_by : (step : Step) (mid : List ℕ) (left : ℕ) (new : Framed) → left ≡ 0 → IsClear mid → FramerTells mid [] new step
    → IsEnd new.bytes left (cause_of step)
rests_by Message mid left new between clear told = tt
rests_by More mid left new between clear told = tt
rests_by Bad mid left new between clear told = end_here cause_bad mid new.bytes left between clear told
rests_by TooLong mid left new between clear told = end_here cause_too_long mid new.bytes left between clear told

-- it is broken where the parter stands then
pub rests_of : (step : Step) (mid : List ℕ) (left : ℕ) (new : Framed) → left ≡ 0 → IsClear mid → FramerTells mid [] new step
    → new.ended ≡ cause_of step → IsEnd new.bytes left new.ended
rests_of step mid left new between clear told e = subst (IsEnd new.bytes left) (sym e) (rests_by step mid left new between clear told)

pub end_clear : (bytes : List ℕ) (left : ℕ) (ended : Option Break) → IsEnd bytes left ended → is_some ended ≡ true → (left ≡ 0) × IsClear bytes
end_clear bytes left None is_end some = absurd (cc)
end_clear bytes left (Some cause) is_end some = (is_end.0, is_end.1)

cause_known : (cause : Break) → is_some (cause_of (step_of (Broken cause))) ≡ true
cause_known cause_bad = refl
cause_known cause_too_long = refl

-- and stays so
pub stays_ended : (bytes : List ℕ) (left : ℕ) (ended : Option Break) → IsEnd bytes left ended → is_some ended ≡ true
    → (step : Step) → ((tail : Tail) → Messages bytes [] tail → step ≡ step_of tail) → is_some (cause_of step) ≡ true
stays_ended bytes left None is_end some step exact = absurd (cc)
stays_ended bytes left (Some cause) is_end some step exact =
    ap (λ s. is_some (cause_of s)) (exact (Broken cause) is_end.2) ∙ cause_known cause

-- ---- what was told is all that can be

longer : (ms others : List Said) (m : Said) → ms ≡ (ms ++ m ∷ []) ++ others → ⊥
longer ms others m e =
    omega (arith, ap length e, length-append (ms ++ m ∷ []) others, length-append ms (m ∷ []))

exact_found : (text : List ℕ) (ms : List Said) (t : Tail) (new : Held) (found : Option Said)
    → IsSomeAnd found (λ m. IsReadUpTo text (ms ++ m ∷ []) new) → Parts text ms t → ⊥
exact_found text ms t new None told parts = told
exact_found text ms t new (Some m) told parts =
    let others = leads_first text (ms ++ m ∷ []) ms (inside new.to_come) new.bytes t told parts in
    longer ms others.0 m others.1

pub exact_of : (step : Step) (text : List ℕ) (ms : List Said) (t : Tail) (new : Held) → Tells text ms new step → Parts text ms t → step ≡ step_of t
exact_of Message text ms t new told parts = absurd (exact_found text ms t new new.found told parts)
exact_of More text ms t new told parts = ap step_of (one_list text ms ms Unfinished t told.0 parts).1
exact_of Bad text ms t new told parts = ap step_of (one_list text ms ms (Broken cause_bad) t told.0 parts).1
exact_of TooLong text ms t new told parts = ap step_of (one_list text ms ms (Broken cause_too_long) t told.0 parts).1

-- ---- more bytes

-- a text goes on with the bytes that are taken
pub feed_follows : (to_come still : ℕ) (old new taken : List ℕ) → still ≡ to_come → new ≡ old ++ taken
    → (text : List ℕ) (ms : List Said) → Leads text ms (inside to_come) old → Leads (text ++ taken) ms (inside still) new
feed_follows to_come still old new taken same grown text ms reads =
    subst (λ n. Leads (text ++ taken) ms (inside n) new) (sym same)
    (subst (λ b. Leads (text ++ taken) ms (inside to_come) b) (sym grown) (leads-append text taken ms (inside to_come) old reads))
