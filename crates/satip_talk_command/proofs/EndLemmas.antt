-- What a talk comes to, by its status.
use Rattle.std.proofs.Common.{◌≡◌, ℕ, ◌+◌, ◌-◌, ◌<◌, ◌≤◌, ◌⊎◌, ◌↔◌, inl, inr, List, [], ◌∷◌, ◌++◌, length, length-append, append_assoc, append-nil, refl, sym, ◌∙◌, ap, subst, arith}
use Rattle.satip_base.specs.Streams.{Feed, Drain, Rose}
use Rattle.satip_frame.specs.Said.{Said}
use Rattle.satip_frame.specs.Stream.{Unfinished, Broken, Messages}
use Rattle.satip_frame.proofs.StreamLemmas.{one_list, broken_stays}
use Rattle.satip_base.specs.Lists.{Has}
use Rattle.satip_config.specs.declared.outcome.Outcome.{Outcome}
use Rattle.satip_config.specs.declared.outcome.Outcome.TheVariants.{Done, InputFault, OutputFault, TooLong, OutOfMemory}
use Rattle.satip_config.specs.Outcomes.{status_of}
use Rattle.satip_talk_command.specs.Runs.{input_limit, TalkRuns, EndsEarly, EndsByLength, NothingDone}
use Rattle.satip_talk_command.specs.Ends.{talk_statuses, ClosesInTime, IsWithinLimit, TalkEnds}
use Rattle.satip_talk_command.proofs.TalkLemmas.{part_of_none}

-- nothing is a beginning
early_from_nothing : (in_tells out_tells : Type 0) (i j : Feed) (o n : Drain) → NothingDone i j o n → EndsEarly in_tells out_tells i j o n
early_from_nothing in_tells out_tells i j o n nothing = record {
  text = [];
  read = record {
    taken = ap (λ (f : Feed). f.taken) nothing.input ∙ omega arith;
    content = λ _. sym (ap (λ (f : Feed). f.left) nothing.input);
  };
  part = part_of_none out_tells o.sent n.sent (λ _. record {
    part = [];
    rest = [];
    whole = refl;
    sent = ap (λ (d : Drain). d.sent) nothing.output ∙ sym (append-nil o.sent);
  });
}

-- of two beginnings of one text the shorter is a beginning of the longer
begins_longer : (c l e r : List ℕ) → c ++ l ≡ e ++ r → length c ≤ length e → (m : List ℕ) × (e ≡ c ++ m)
begins_longer [] l e r same short = (e, refl)
begins_longer (x ∷ c) l [] r same short = absurd (omega (arith, short))
begins_longer (x ∷ c) l (y ∷ e) r same short =
    let tails : c ++ l ≡ e ++ r = cc in
    let heads : y ≡ x = cc in
    let rest = begins_longer c l e r tails (omega (arith, short)) in
    (rest.0, ap (λ (z : ℕ). z ∷ e) heads ∙ ap (λ (t : List ℕ). x ∷ t) rest.1)

-- a text isn't unbroken at the limit where a closing reply comes within it
never_unbroken : (text e r : List ℕ) (messages : List Said) (closes : ClosesInTime text) → text ≡ e ++ r → input_limit ≤ length e
    → Messages e messages Unfinished → ⊥
never_unbroken text e r messages closes whole long unbroken =
    let broken = closes.broken in
    let begins = begins_longer closes.earlier closes.later e r (sym closes.whole ∙ whole) (omega (arith, closes.short, long)) in
    let P : List ℕ → Type 0 = λ t. Messages t broken.messages (Broken broken.cause) in
    let stays : Messages e broken.messages (Broken broken.cause) =
    subst P (sym begins.1) (broken_stays closes.earlier begins.0 broken.messages broken.cause broken.read) in
    let same : Unfinished ≡ Broken broken.cause = (one_list e messages broken.messages Unfinished (Broken broken.cause) unbroken stays).1 in
    cc same

-- no byte too many is taken of an input within the limit
never_long : (it ot : Type 0) (i j : Feed) (o n : Drain) → EndsByLength it ot i j o n → it → IsWithinLimit i.left → ⊥
never_long it ot i j o n ends told (inl short) =
    omega (arith, short, ends.long, ap (λ (t : List ℕ). length t) (ends.early.read.content told), length-append ends.early.text j.left)
never_long it ot i j o n ends told (inr closes) =
    let in_time = ends.in_time in
    let whole : i.left ≡ in_time.earlier ++ (in_time.piece ++ j.left) =
    ends.early.read.content told ∙ ap (λ (t : List ℕ). t ++ j.left) in_time.whole ∙ append_assoc in_time.earlier in_time.piece j.left in
    let all : input_limit ≤ length in_time.earlier =
    omega (arith, ends.long, ends.last, ap (λ (t : List ℕ). length t) in_time.whole, length-append in_time.earlier in_time.piece) in
    never_unbroken i.left in_time.earlier (in_time.piece ++ j.left) in_time.messages closes whole all in_time.unbroken

-- a talk that doesn't end well
other_ends : (it ot : Type 0) (i j : Feed) (o n : Drain) (status : ℕ) → Has status talk_statuses → (status ≡ 0 → ⊥) → (status ≡ 5 → n.faults ≡ o.faults)
    → (status ≡ 6 → j.faults ≡ i.faults) → (status ≡ 8 → j.faults ≡ i.faults) → (status ≡ 8 → n.faults ≡ o.faults) → EndsEarly it ot i j o n
    → (status ≡ 70 → NothingDone i j o n)
    → (it → IsWithinLimit i.left → (Rose i.faults j.faults → ⊥) → (Rose o.faults n.faults → ⊥) → (status ≡ 0) ⊎ (status ≡ 70))
    → TalkEnds it ot i j o n status
other_ends it ot i j o n status has never by_input by_output in_long out_long early nothing settled = record {
  status_is = has;
  replies = λ is told. absurd (never is);
  in_faults = λ is. absurd (never is);
  out_faults = λ is. absurd (never is);
  in_time = λ is. absurd (never is);
  out_faults_at_input_fault = by_input;
  in_faults_at_output_fault = by_output;
  in_faults_at_limit = in_long;
  out_faults_at_limit = out_long;
  beginning = λ other. early;
  out_of_memory = nothing;
  settled = settled;
}

-- a talk
pub talk_ends : (it ot : Type 0) (i j : Feed) (o n : Drain) (end : Outcome) → TalkRuns it ot i j o n end → TalkEnds it ot i j o n (status_of end)
talk_ends it ot i j o n Done runs = record {
  status_is = inl refl;
  replies = λ is told. runs.whole told;
  in_faults = λ is. runs.in_faults;
  out_faults = λ is. runs.out_faults;
  in_time = λ is. record { text = runs.text; read = runs.read; ending = runs.ending; in_time = runs.in_time };
  out_faults_at_input_fault = λ is. runs.out_faults;
  in_faults_at_output_fault = λ is. runs.in_faults;
  in_faults_at_limit = λ is. runs.in_faults;
  out_faults_at_limit = λ is. runs.out_faults;
  beginning = λ other. absurd (other refl);
  out_of_memory = λ is. absurd (omega (arith, is));
  settled = λ told within input output. inl refl;
}
talk_ends it ot i j o n InputFault runs =
    other_ends it ot i j o n 5 (inr (inl refl)) (λ is. omega (arith, is)) (λ is. runs.out_faults) (λ is. absurd (omega (arith, is)))
    (λ is. absurd (omega (arith, is))) (λ is. absurd (omega (arith, is))) runs.early (λ is. absurd (omega (arith, is)))
    (λ told within input output. absurd (input runs.rose))
talk_ends it ot i j o n OutputFault runs =
    other_ends it ot i j o n 6 (inr (inr (inl refl))) (λ is. omega (arith, is)) (λ is. absurd (omega (arith, is))) (λ is. runs.in_faults)
    (λ is. absurd (omega (arith, is))) (λ is. absurd (omega (arith, is))) runs.early (λ is. absurd (omega (arith, is)))
    (λ told within input output. absurd (output runs.rose))
talk_ends it ot i j o n TooLong runs =
    other_ends it ot i j o n 8 (inr (inr (inr (inl refl)))) (λ is. omega (arith, is)) (λ is. absurd (omega (arith, is)))
    (λ is. absurd (omega (arith, is))) (λ is. runs.in_faults) (λ is. runs.out_faults) runs.early (λ is. absurd (omega (arith, is)))
    (λ told within input output. absurd (never_long it ot i j o n runs told within))
talk_ends it ot i j o n OutOfMemory runs =
    other_ends it ot i j o n 70 (inr (inr (inr (inr (inl refl))))) (λ is. omega (arith, is)) (λ is. absurd (omega (arith, is)))
    (λ is. absurd (omega (arith, is))) (λ is. absurd (omega (arith, is))) (λ is. absurd (omega (arith, is)))
    (early_from_nothing it ot i j o n runs) (λ is. runs) (λ told within input output. inr refl)
talk_ends it ot i j o n _ never = absurd never

-- why the input, or the output, failed
pub input_fault_of : (it ot : Type 0) (i j : Feed) (o n : Drain) (end : Outcome) → TalkRuns it ot i j o n end → end ≡ InputFault → Rose i.faults j.faults
input_fault_of it ot i j o n InputFault runs is = runs.rose
input_fault_of it ot i j o n _ runs is = absurd (cc is)

pub output_fault_of : (it ot : Type 0) (i j : Feed) (o n : Drain) (end : Outcome) → TalkRuns it ot i j o n end → end ≡ OutputFault → Rose o.faults n.faults
output_fault_of it ot i j o n OutputFault runs is = runs.rose
output_fault_of it ot i j o n _ runs is = absurd (cc is)

-- how much was taken where the input isn't too long
taken_within : (it ot : Type 0) (i j : Feed) (o n : Drain) (end : Outcome) → TalkRuns it ot i j o n end → (end ≡ TooLong → ⊥)
    → j.taken ≤ i.taken + input_limit
taken_within it ot i j o n Done runs other = omega (arith, runs.read.taken, runs.short)
taken_within it ot i j o n InputFault runs other = omega (arith, runs.early.read.taken, runs.short)
taken_within it ot i j o n OutputFault runs other = omega (arith, runs.early.read.taken, runs.short)
taken_within it ot i j o n TooLong runs other = absurd (other refl)
taken_within it ot i j o n OutOfMemory runs other = omega (arith, ap (λ (f : Feed). f.taken) runs.input)
taken_within it ot i j o n _ never other = absurd never

-- exactly one byte too many was taken, or none
pub too_long_of : (it ot : Type 0) (i j : Feed) (o n : Drain) (end : Outcome) → TalkRuns it ot i j o n end
    → (end ≡ TooLong) ↔ (input_limit < j.taken - i.taken)
too_long_of it ot i j o n TooLong runs = ((λ is. omega (arith, runs.early.read.taken, runs.long)), λ more. refl)
too_long_of it ot i j o n end runs =
    ((λ is. absurd (cc is)), λ more. absurd (omega (arith, more, taken_within it ot i j o n end runs (λ is. cc is))))

pub limit_of : (it ot : Type 0) (i j : Feed) (o n : Drain) (end : Outcome) → TalkRuns it ot i j o n end → j.taken ≤ i.taken + input_limit + 1
limit_of it ot i j o n TooLong runs = omega (arith, runs.early.read.taken, runs.long)
limit_of it ot i j o n end runs = omega (arith, taken_within it ot i j o n end runs (λ is. cc is))
