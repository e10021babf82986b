-- What sinks were sent, from what each was sent by whether a put on it failed.
use Rattle.std.proofs.Common.{◌≡◌, ◌∙◌, ℕ, Bool, true, false, ◌||◌, ◌⊎◌, inl, inr, ⊎_elim, List, [], ◌∷◌, map, refl, sym, ap, subst}
use Rattle.std.proofs.lemmas.Bool.{or_parts}
use Rattle.satip_plain.specs.Histories.{Item}
use Rattle.satip_base.specs.Streams.{Drain, FailedToPut, PutAll, Rose}
use Rattle.satip_journal.specs.declared.crew.JournalGear.{JournalGear}
use Rattle.satip_journal_serve.specs.Journals.{journals}
use Rattle.satip_journal.specs.Logs.{Logs}
use Rattle.satip_journal_serve.specs.SinkGears.{AreLogged, HasBegun, WentOn, has_failed, jobs_of, sinks_of}
use Rattle.satip_journal_serve.specs.Sent.{AreSent, AreWhole, AreWritten, HasRisen}

one_of : (a b : Bool) → (a || b) ≡ true → (a ≡ true) ⊎ (b ≡ true)
one_of true b e = inl refl
one_of false b e = inr e

one_sent : (tells : Type 0) (o n : Drain) (failed : Bool) (text : List ℕ) → Logs tells o n false failed text
    → PutAll tells o n text ⊎ FailedToPut tells o n text
one_sent tells o n false text logs = inl logs
one_sent tells o n true text logs = inr logs

one_whole : (tells : Type 0) (o n : Drain) (failed : Bool) (text : List ℕ) → failed ≡ false → Logs tells o n false failed text → PutAll tells o n text
one_whole tells o n failed text unfailed logs = subst (λ (b : Bool). Logs tells o n false b text) unfailed logs

one_risen : (tells : Type 0) (o n : Drain) (failed : Bool) (text : List ℕ) → failed ≡ true → Logs tells o n false failed text → Rose o.faults n.faults
one_risen tells o n failed text is logs =
    let fault : FailedToPut tells o n text = subst (λ (b : Bool). Logs tells o n false b text) is logs in
    fault.faults

module _ {K : Type 0} (tells : Type 0) (drain : K → Drain) where
  abbrev drains : List (JournalGear K) → List Drain
  drains gs = map (λ (g : JournalGear K). drain g.sink) gs

  sent : (os : List Drain) (gs : List (JournalGear K)) (ts : List (List ℕ)) → AreLogged tells drain os gs ts → AreSent tells os (drains gs) ts
  sent [] [] [] h = tt
  sent [] [] (t ∷ ts) h = absurd h
  sent [] (g ∷ gs) ts h = absurd h
  sent (o ∷ os) [] ts h = absurd h
  sent (o ∷ os) (g ∷ gs) [] h = absurd h
  sent (o ∷ os) (g ∷ gs) (t ∷ ts) h = (one_sent tells o (drain g.sink) g.failed t h.0, sent os gs ts h.1)

  whole : (os : List Drain) (gs : List (JournalGear K)) (ts : List (List ℕ)) → has_failed gs ≡ false → AreLogged tells drain os gs ts
      → AreWhole tells os (drains gs) ts
  whole [] [] [] unfailed h = tt
  whole [] [] (t ∷ ts) unfailed h = absurd h
  whole [] (g ∷ gs) ts unfailed h = absurd h
  whole (o ∷ os) [] ts unfailed h = absurd h
  whole (o ∷ os) (g ∷ gs) [] unfailed h = absurd h
  whole (o ∷ os) (g ∷ gs) (t ∷ ts) unfailed h =
      let both = or_parts g.failed (has_failed gs) unfailed in
      (one_whole tells o (drain g.sink) g.failed t both.0 h.0, whole os gs ts both.1 h.1)

  risen : (os : List Drain) (gs : List (JournalGear K)) (ts : List (List ℕ)) → has_failed gs ≡ true → AreLogged tells drain os gs ts → HasRisen os (drains gs)
  risen [] [] ts is h = absurd (cc is)
  risen [] (g ∷ gs) ts is h = absurd h
  risen (o ∷ os) [] ts is h = absurd h
  risen (o ∷ os) (g ∷ gs) [] is h = absurd h
  risen (o ∷ os) (g ∷ gs) (t ∷ ts) is h =
      ⊎_elim (λ (e : g.failed ≡ true). inl (one_risen tells o (drain g.sink) g.failed t e h.0)) (λ (e : has_failed gs ≡ true). inr (risen os gs ts e h.1))
      (one_of g.failed (has_failed gs) is)

  by_test : (os : List Drain) (gs : List (JournalGear K)) (ts : List (List ℕ)) (failed : Bool) → has_failed gs ≡ failed → AreLogged tells drain os gs ts
      → AreWritten tells failed os (drains gs) ts
  by_test os gs ts false is h = whole os gs ts is h
  by_test os gs ts true is h = (sent os gs ts h, risen os gs ts is h)

  pub written : (os : List Drain) (gs : List (JournalGear K)) (ts : List (List ℕ)) → AreLogged tells drain os gs ts
      → AreWritten tells (has_failed gs) os (drains gs) ts
  written os gs ts h = by_test os gs ts (has_failed gs) refl h

drains_of : {K : Type 0} (drain : K → Drain) (gs : List (JournalGear K)) → map drain (sinks_of gs) ≡ map (λ g. drain g.sink) gs
drains_of drain [] = refl
drains_of {K} drain (g ∷ gs) = ap (λ (ds : List Drain). drain g.sink ∷ ds) (drains_of drain gs)

jobs_given : {K : Type 0} (job : K → ℕ) (gs : List (JournalGear K)) → map job (sinks_of gs) ≡ jobs_of job gs
jobs_given job [] = refl
jobs_given job (g ∷ gs) = ap (λ (js : List ℕ). job g.sink ∷ js) (jobs_given job gs)

-- the sinks come back in the order of their jobs
pub jobs_back : {K : Type 0} (tells : Type 0) (job : K → ℕ) (drain : K → Drain) (start : ℕ) (sinks back : List K) (o n : JournalGear K)
    (os ns : List (JournalGear K)) → HasBegun tells job drain start sinks o os → jobs_of job (n ∷ ns) ≡ jobs_of job (o ∷ os) → back ≡ sinks_of (n ∷ ns)
    → map job back ≡ map job sinks
jobs_back {K} tells job drain start sinks back o n os ns begun kept came =
    let first : jobs_of job (o ∷ os) ≡ map job (begun.bare ∷ sinks_of os) = λ i. begun.same_job i ∷ sym (jobs_given job os) i in
    ap (λ (l : List K). map job l) came ∙ jobs_given job (n ∷ ns) ∙ kept ∙ first ∙ sym (ap (λ (l : List K). map job l) begun.sinks_are)

-- from sinks before their jobs to the same sinks after them
pub journals_written : {K : Type 0} (tells : Type 0) (job : K → ℕ) (drain : K → Drain) (start begin : ℕ) (sinks back : List K) (o n : JournalGear K)
    (os ns : List (JournalGear K)) (callers : List ℕ) (h : List Item) (failed : Bool) → HasBegun tells job drain start sinks o os
    → WentOn tells drain o os n ns callers h → back ≡ sinks_of (n ∷ ns) → failed ≡ has_failed (n ∷ ns) → begin ≡ start
    → AreWritten tells failed (map drain sinks) (map drain back) (journals begin 0 callers h)
journals_written {K} tells job drain start begin sinks back o n os ns callers h failed begun went came failed_is same =
    let texts = journals start 0 callers h in
    let before : List Drain = drain begun.bare ∷ map (λ (g : JournalGear K). drain g.sink) os in
    let logged = went start (drain begun.bare) begun.are_open begun.number begun.started in
    let all : AreWritten tells (has_failed (n ∷ ns)) before (map (λ (g : JournalGear K). drain g.sink) (n ∷ ns)) texts =
    written tells drain before (n ∷ ns) texts logged in
    let first : before ≡ map drain sinks =
    ap (λ (ds : List Drain). drain begun.bare ∷ ds) (sym (drains_of drain os)) ∙ ap (λ (l : List K). map drain l) (sym begun.sinks_are) in
    let last : map (λ (g : JournalGear K). drain g.sink) (n ∷ ns) ≡ map drain back =
    sym (drains_of drain (n ∷ ns)) ∙ ap (λ (l : List K). map drain l) (sym came) in
    let P : Bool → List Drain → List Drain → ℕ → Type 0 = λ b ds es i. AreWritten tells b ds es (journals i 0 callers h) in
    let one : P failed before (map (λ (g : JournalGear K). drain g.sink) (n ∷ ns)) start =
    subst (λ (b : Bool). P b before (map (λ (g : JournalGear K). drain g.sink) (n ∷ ns)) start) (sym failed_is) all in
    let two : P failed (map drain sinks) (map (λ (g : JournalGear K). drain g.sink) (n ∷ ns)) start =
    subst (λ (ds : List Drain). P failed ds (map (λ (g : JournalGear K). drain g.sink) (n ∷ ns)) start) first one in
    let three : P failed (map drain sinks) (map drain back) start = subst (λ (es : List Drain). P failed (map drain sinks) es start) last two in
    subst (λ (i : ℕ). P failed (map drain sinks) (map drain back) i) (sym same) three
