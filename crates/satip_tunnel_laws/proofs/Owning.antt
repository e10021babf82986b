-- Each drain of a lane is of the caller that was given it, since numbers rise.
use Rattle.std.proofs.Common.{◌≡◌, ◌∙◌, ◌⊎◌, ℕ, cond, ◌<◌, ◌≤◌, ◌==◌, Bool, true, false, List, [], ◌∷◌, ◌++◌, refl, sym, ap, subst, inl, inr, ⊎_elim, arith, eqb-true}
use Rattle.std.proofs.lemmas.Bool.{true≢false}
use Rattle.std.proofs.lemmas.Bool.Decides.{eqb_tells}
use Rattle.satip_base.specs.History.{kept_if, own_of}
use Rattle.satip_base.specs.Lists.{Each, Has}
use Rattle.satip_base.proofs.Elements.{Each-append_right, each_at, each_has}
use Rattle.satip_interleave.specs.Calls.{IsRising}
use Rattle.satip_interleave.specs.declared.events.TunnelEvent.{TunnelEvent}
use Rattle.satip_interleave.specs.declared.events.TunnelEvent.TheVariants.{Inner, Enter, Drain, Leave}
use Rattle.satip_interleave.specs.declared.events.TunnelAnswer.{TunnelAnswer}
use Rattle.satip_interleave.specs.declared.events.TunnelAnswer.TheVariants.{Inner as InnerAnswer, Lane, Full, Frames, Empty, Broken, Gone, Left}
use Rattle.satip_interleave.specs.Histories.{TunnelItem}
use Rattle.satip_interleave.specs.Laws.{LaneNumbersRise, number_in, numbers_in}
use Rattle.satip_tunnel_laws.specs.LaneFrames.{EndsEmpty, FramesAreLanes, TakesFirst, drained, drained_by, drains, enters}
use Rattle.satip_tunnel_laws.specs.Owners.{CallersDrainOwn, DrainsGiven, IsGivenTo, IsOfGiven, LanesAreOwn, OwnEndsEmpty, given_by, touches}

pub same_numbers : (a b : ℕ) → a ≡ b → (a == b) ≡ true
same_numbers a b same = ⊎_elim (λ t. t.0) (λ t. absurd (t.1 same)) (eqb_tells a b)

pub other_numbers : (a b : ℕ) → (a == b) ≡ false → a ≡ b → ⊥
other_numbers a b differ same = true≢false (sym (same_numbers a b same) ∙ differ)

-- entries of one caller

pub has_own : (n : ℕ) (h : List TunnelItem) (t : TunnelItem) → t.caller ≡ n → Has t h → Has t (own_of n h)
has_own n [] t is has = absurd has
has_own n (u ∷ us) t is has = each (u.caller == n) refl has (λ (more : Has t us). has_own n us t is more)
  where
    each : (b : Bool) → (u.caller == n) ≡ b → (t ≡ u) ⊎ Has t us → (Has t us → Has t (own_of n us)) → Has t (kept_if b u (own_of n us))
    each true e (inl same) rest = inl same
    each true e (inr more) rest = inr (rest more)
    each false e (inl same) rest =
        absurd (true≢false (sym (same_numbers u.caller n (ap (λ (v : TunnelItem). v.caller) (sym same) ∙ is)) ∙ e))
    each false e (inr more) rest = rest more

-- an entry of the caller among all entries
pub record IsAmong (n : ℕ) (t : TunnelItem) (h : List TunnelItem) : Type 0 where
  pub has : Has t h
  pub is_of : t.caller ≡ n

pub among_own : (n : ℕ) (h : List TunnelItem) (t : TunnelItem) → Has t (own_of n h) → IsAmong n t h
among_own n [] t has = absurd has
among_own n (u ∷ us) t has = each (u.caller == n) refl has (λ (more : Has t (own_of n us)). among_own n us t more)
  where
    later : IsAmong n t us → IsAmong n t (u ∷ us)
    later is = record { has = inr is.has; is_of = is.is_of }

    each : (b : Bool) → (u.caller == n) ≡ b → Has t (kept_if b u (own_of n us)) → (Has t (own_of n us) → IsAmong n t us) → IsAmong n t (u ∷ us)
    each true e (inl same) rest = record { has = inl same; is_of = ap (λ (v : TunnelItem). v.caller) same ∙ eqb-true u.caller n e }
    each true e (inr more) rest = later (rest more)
    each false e more rest = later (rest more)

-- a lane that is drained or given up was given

touched_given : (x : ℕ) (event : TunnelEvent) (given : List ℕ) → IsOfGiven given event → touches x event ≡ true → Has x given
touched_given x (Inner event) given own touched = absurd (true≢false (sym touched))
touched_given x Enter given own touched = absurd (true≢false (sym touched))
touched_given x (Drain number) given own touched = subst (λ n. Has n given) (eqb-true number x touched) own
touched_given x (Leave number) given own touched = subst (λ n. Has n given) (eqb-true number x touched) own

now_given : (x : ℕ) (event : TunnelEvent) (answer : TunnelAnswer) (given : List ℕ) → Has x (given_by event answer ++ given)
    → (enters x event answer ≡ true) ⊎ Has x given
now_given x (Inner event) answer given has = inr has
now_given x Enter (InnerAnswer answer) given has = inr has
now_given x Enter (Lane number) given (inl same) = inl (same_numbers number x (sym same))
now_given x Enter (Lane number) given (inr has) = inr has
now_given x Enter Full given has = inr has
now_given x Enter (Frames count) given has = inr has
now_given x Enter Empty given has = inr has
now_given x Enter Broken given has = inr has
now_given x Enter Gone given has = inr has
now_given x Enter Left given has = inr has
now_given x (Drain number) answer given has = inr has
now_given x (Leave number) answer given has = inr has

pub was_given : (x : ℕ) (P : Type 0) (es : List TunnelItem) (given : List ℕ) → DrainsGiven given es → (Has x given → P)
    → ((e : TunnelItem) → Has e es → enters x e.event e.answer ≡ true → P) → (t : TunnelItem) → Has t es → touches x t.event ≡ true → P
was_given x P [] given own before here t has touched = absurd has
was_given x P (e ∷ es) given own before here t (inl same) touched =
    before (touched_given x e.event given own.0 (ap (λ (u : TunnelItem). touches x u.event) (sym same) ∙ touched))
was_given x P (e ∷ es) given own before here t (inr has) touched =
    was_given x P es (given_by e.event e.answer ++ given) own.1
    (λ (now : Has x (given_by e.event e.answer ++ given)). ⊎_elim (λ (is : enters x e.event e.answer ≡ true). here e (inl refl) is) before
    (now_given x e.event e.answer given now))
    (λ (u : TunnelItem) (among : Has u es) (is : enters x u.event u.answer ≡ true). here u (inr among) is)
    t has touched

-- a number is given once

enters_number : (x : ℕ) (event : TunnelEvent) (answer : TunnelAnswer) → enters x event answer ≡ true → number_in answer ≡ x ∷ []
enters_number x (Inner event) answer is = absurd (true≢false (sym is))
enters_number x Enter (InnerAnswer answer) is = absurd (true≢false (sym is))
enters_number x Enter (Lane number) is = ap (λ n. n ∷ []) (eqb-true number x is)
enters_number x Enter Full is = absurd (true≢false (sym is))
enters_number x Enter (Frames count) is = absurd (true≢false (sym is))
enters_number x Enter Empty is = absurd (true≢false (sym is))
enters_number x Enter Broken is = absurd (true≢false (sym is))
enters_number x Enter Gone is = absurd (true≢false (sym is))
enters_number x Enter Left is = absurd (true≢false (sym is))
enters_number x (Drain number) answer is = absurd (true≢false (sym is))
enters_number x (Leave number) answer is = absurd (true≢false (sym is))

pub rising_weaker : (low high : ℕ) (xs : List ℕ) → low ≤ high → IsRising high xs → IsRising low xs
rising_weaker low high [] le rises = tt
rising_weaker low high (x ∷ xs) le rises = (omega (arith, le, rises.0), rises.1)

pub rising_later : (low : ℕ) (answer : TunnelAnswer) (xs : List ℕ) → IsRising low (number_in answer ++ xs) → IsRising low xs
rising_later low (InnerAnswer answer) xs rises = rises
rising_later low (Lane number) xs rises = let lt = rises.0 in rising_weaker low number xs (omega arith) rises.1
rising_later low Full xs rises = rises
rising_later low (Frames count) xs rises = rises
rising_later low Empty xs rises = rises
rising_later low Broken xs rises = rises
rising_later low Gone xs rises = rises
rising_later low Left xs rises = rises

given_above : (x : ℕ) (h : List TunnelItem) (low : ℕ) (e : TunnelItem) → IsRising low (numbers_in h) → Has e h → enters x e.event e.answer ≡ true → low < x
given_above x [] low e rises has is = absurd has
given_above x (t ∷ ts) low e rises (inl same) is =
    let at : enters x t.event t.answer ≡ true = ap (λ (u : TunnelItem). enters x u.event u.answer) (sym same) ∙ is in
    (subst (λ ns. IsRising low (ns ++ numbers_in ts)) (enters_number x t.event t.answer at) rises).0
given_above x (t ∷ ts) low e rises (inr has) is = given_above x ts low e (rising_later low t.answer (numbers_in ts) rises) has is

-- the entry behind which no other gives the number
pub given_once : (x : ℕ) (t : TunnelItem) (ts : List TunnelItem) (low : ℕ) (e : TunnelItem) → IsRising low (number_in t.answer ++ numbers_in ts)
    → enters x t.event t.answer ≡ true
    → Has e ts → enters x e.event e.answer ≡ true → ⊥
given_once x t ts low e rises at has is =
    let rest = (subst (λ ns. IsRising low (ns ++ numbers_in ts)) (enters_number x t.event t.answer at) rises).1 in
    let lt = given_above x ts x e rest has is in
    omega (arith, lt)

same_giver : (x : ℕ) (h : List TunnelItem) (low : ℕ) (d e : TunnelItem) → IsRising low (numbers_in h) → Has d h → Has e h
    → enters x d.event d.answer ≡ true → enters x e.event e.answer ≡ true → d.caller ≡ e.caller
same_giver x [] low d e rises a b is_d is_e = absurd a
same_giver x (t ∷ ts) low d e rises (inl a) (inl b) is_d is_e = ap (λ (u : TunnelItem). u.caller) (a ∙ sym b)
same_giver x (t ∷ ts) low d e rises (inl a) (inr b) is_d is_e =
    absurd (given_once x t ts low e rises (ap (λ (u : TunnelItem). enters x u.event u.answer) (sym a) ∙ is_d) b is_e)
same_giver x (t ∷ ts) low d e rises (inr a) (inl b) is_d is_e =
    absurd (given_once x t ts low d rises (ap (λ (u : TunnelItem). enters x u.event u.answer) (sym b) ∙ is_e) a is_d)
same_giver x (t ∷ ts) low d e rises (inr a) (inr b) is_d is_e =
    same_giver x ts low d e (rising_later low t.answer (numbers_in ts) rises) a b is_d is_e

-- so each drain of the lane is of the caller that was given it
abbrev pub AllAreOf : ℕ → ℕ → List TunnelItem → Type 0
AllAreOf caller x h = Each (λ (t : TunnelItem). touches x t.event ≡ true → t.caller ≡ caller) h

pub only_of : (x caller : ℕ) (h : List TunnelItem) (numbers : List ℕ) → IsRising 0 (numbers_in h) → CallersDrainOwn numbers h → IsGivenTo caller x h
    → AllAreOf caller x h
only_of x caller h numbers rises callers given = each_has (λ (t : TunnelItem). touches x t.event ≡ true → t.caller ≡ caller) h by
  where
    by : (t : TunnelItem) → Has t h → touches x t.event ≡ true → t.caller ≡ caller
    by t has touched =
        let n = t.caller in
        let of_n : Has t.caller numbers = each_at (λ (u : TunnelItem). Has u.caller numbers) h t callers.covered has in
        let own = each_at (λ (m : ℕ). DrainsGiven [] (own_of m h)) numbers n callers.own of_n in
        was_given x (n ≡ caller) (own_of n h) [] own (λ none. absurd none)
        (λ (e : TunnelItem) (among : Has e (own_of n h)) (is : enters x e.event e.answer ≡ true).
        let in_h = among_own n h e among in
        sym in_h.is_of ∙ same_giver x h 0 e given.item rises in_h.has given.has is given.given ∙ given.is_of)
        t (has_own n h t refl has) touched

-- what an entry of another caller drains

pub not_touched : (x : ℕ) (event : TunnelEvent) (answer : TunnelAnswer) (reply : List ℕ) → (touches x event ≡ true → ⊥) → drained_by x event answer reply ≡ []
not_touched x (Inner event) answer reply never = refl
not_touched x Enter answer reply never = refl
not_touched x (Drain number) (InnerAnswer answer) reply never = refl
not_touched x (Drain number) (Lane n) reply never = refl
not_touched x (Drain number) Full reply never = refl
not_touched x (Drain number) (Frames count) reply never = each (number == x) refl
  where
    each : (b : Bool) → (number == x) ≡ b → drained_by x (Drain number) (Frames count) reply ≡ []
    each true e = absurd (never e)
    each false e = ap (λ b. cond b reply []) e
not_touched x (Drain number) Empty reply never = refl
not_touched x (Drain number) Broken reply never = refl
not_touched x (Drain number) Gone reply never = refl
not_touched x (Drain number) Left reply never = refl
not_touched x (Leave number) answer reply never = refl

pub drained_own : (x caller : ℕ) (h : List TunnelItem) → AllAreOf caller x h → drained (own_of caller h) x ≡ drained h x
drained_own x caller [] only = refl
drained_own x caller (t ∷ ts) only = each (t.caller == caller) refl (drained_own x caller ts only.1)
  where
    each : (b : Bool) → (t.caller == caller) ≡ b → drained (own_of caller ts) x ≡ drained ts x
        → drained (kept_if b t (own_of caller ts)) x ≡ drained_by x t.event t.answer t.out.reply ++ drained ts x
    each true e rest = ap (λ more. drained_by x t.event t.answer t.out.reply ++ more) rest
    each false e rest =
        rest ∙ sym (ap (λ front. front ++ drained ts x) (not_touched x t.event t.answer t.out.reply
        (λ touched. other_numbers t.caller caller e (only.0 touched))))

-- no drain of the caller is no drain at all
pub touched_if : (x : ℕ) (event : TunnelEvent) → (touches x event ≡ true → ⊥) → drains x event ≡ false
touched_if x (Inner event) never = refl
touched_if x Enter never = refl
touched_if x (Drain number) never = each (number == x) refl
  where
    each : (b : Bool) → (number == x) ≡ b → (number == x) ≡ false
    each true e = absurd (never e)
    each false e = e
touched_if x (Leave number) never = refl

none_at_all : (x caller : ℕ) (h : List TunnelItem) → AllAreOf caller x h → Each (λ (t : TunnelItem). drains x t.event ≡ false) (own_of caller h)
    → Each (λ (t : TunnelItem). drains x t.event ≡ false) h
none_at_all x caller [] only none = tt
none_at_all x caller (t ∷ ts) only none =
    each (t.caller == caller) refl none (λ (more : Each (λ (u : TunnelItem). drains x u.event ≡ false) (own_of caller ts)). none_at_all x caller ts only.1 more)
  where
    each : (b : Bool) → (t.caller == caller) ≡ b → Each (λ (u : TunnelItem). drains x u.event ≡ false) (kept_if b t (own_of caller ts))
        → (Each (λ (u : TunnelItem). drains x u.event ≡ false) (own_of caller ts) → Each (λ (u : TunnelItem). drains x u.event ≡ false) ts)
        → (drains x t.event ≡ false) × Each (λ (u : TunnelItem). drains x u.event ≡ false) ts
    each true e kept rest = (kept.0, rest kept.1)
    each false e kept rest = (touched_if x t.event (λ touched. other_numbers t.caller caller e (only.0 touched)), rest kept)

pub ends_empty : (x caller : ℕ) (h before : List TunnelItem) → AllAreOf caller x h → OwnEndsEmpty h before caller x → EndsEmpty h before x
ends_empty x caller h before only ends =
    let behind = Each-append_right (λ (t : TunnelItem). touches x t.event ≡ true → t.caller ≡ caller) before (ends.last ∷ ends.later)
    (subst (AllAreOf caller x) ends.whole only) in
    record {
      last = ends.last;
      later = ends.later;
      whole = ends.whole;
      drained = ends.drained;
      empty = ends.empty;
      no_more = none_at_all x caller ends.later behind.1 ends.no_more;
    }

pub lanes_are_own : LaneNumbersRise → FramesAreLanes → LanesAreOwn
lanes_are_own rise frames c h numbers caller x legal callers given =
    let only = only_of x caller h numbers (rise c h legal) callers given in
    let takes : TakesFirst h x = frames c h x legal in
    record {
      only = only;
      taken = takes.taken;
      joined = takes.joined ∙ sym (drained_own x caller h only);
      first = takes.first;
      all = λ before ends. takes.all before (ends_empty x caller h before only ends);
    }
