-- What the journals of a run were sent, from the beginning on.
use Rattle.std.proofs.Common.{◌≡◌, ℕ, inl, Bool, true, false, List, [], ◌∷◌, length, map, refl, ap, arith}
use Rattle.satip_base.specs.Streams.{Drain, fresh_drain}
use Rattle.satip_base.specs.Lists.{Each}
use Rattle.satip_journal_serve.specs.Sent.{AreSent, AreWhole, AreWritten, new_journals}
use Rattle.satip_desk.specs.Journals.{JournalView, journals_view}
use Rattle.satip_journal_serve.specs.Asked.{drains_of}

-- each element is so where its image is
pub each_map : {A B : Type 0} (f : A → B) (P : B → Type 0) (xs : List A) → Each (λ x. P (f x)) xs → Each P (map f xs)
each_map f P [] each = tt
each_map f P (x ∷ xs) each = (each.0, each_map f P xs each.1)

pub length_map : {A B : Type 0} (f : A → B) (xs : List A) → length (map f xs) ≡ length xs
length_map f [] = refl
length_map f (x ∷ xs) = omega (arith, length_map f xs)

-- the drains and the jobs of journals that contracts see
pub drains_viewed : {K : Type 0} (job : K → ℕ) (drain : K → Drain) (xs : List K) → drains_of (journals_view job drain xs) ≡ map drain xs
drains_viewed job drain [] = refl
drains_viewed job drain (x ∷ xs) = ap (λ (ds : List Drain). drain x ∷ ds) (drains_viewed job drain xs)

pub jobs_viewed : {K : Type 0} (job : K → ℕ) (drain : K → Drain) (xs : List K)
    → map (λ (j : JournalView). j.job) (journals_view job drain xs) ≡ map job xs
jobs_viewed job drain [] = refl
jobs_viewed job drain (x ∷ xs) = ap (λ (ns : List ℕ). job x ∷ ns) (jobs_viewed job drain xs)

-- whole journals were sent
pub whole_sent : (tells : Type 0) (os ns : List Drain) (texts : List (List ℕ)) → AreWhole tells os ns texts → AreSent tells os ns texts
whole_sent tells [] [] [] whole = tt
whole_sent tells [] [] (t ∷ ts) whole = absurd whole
whole_sent tells [] (n ∷ ns) [] whole = absurd whole
whole_sent tells [] (n ∷ ns) (t ∷ ts) whole = absurd whole
whole_sent tells (o ∷ os) [] [] whole = absurd whole
whole_sent tells (o ∷ os) [] (t ∷ ts) whole = absurd whole
whole_sent tells (o ∷ os) (n ∷ ns) [] whole = absurd whole
whole_sent tells (o ∷ os) (n ∷ ns) (t ∷ ts) whole = (inl whole.0, whole_sent tells os ns ts whole.1)

pub written_sent : (tells : Type 0) (failed : Bool) (os ns : List Drain) (texts : List (List ℕ)) → AreWritten tells failed os ns texts
    → AreSent tells os ns texts
written_sent tells false os ns texts written = whole_sent tells os ns texts written
written_sent tells true os ns texts written = written.0

-- they had nothing before
pub were_new : (tells : Type 0) (os ns : List Drain) (texts : List (List ℕ)) → Each (λ d. d ≡ fresh_drain) os → AreSent tells os ns texts → os ≡ new_journals ns
were_new tells [] [] [] new sent = refl
were_new tells [] [] (t ∷ ts) new sent = absurd sent
were_new tells [] (n ∷ ns) [] new sent = absurd sent
were_new tells [] (n ∷ ns) (t ∷ ts) new sent = absurd sent
were_new tells (o ∷ os) [] [] new sent = absurd sent
were_new tells (o ∷ os) [] (t ∷ ts) new sent = absurd sent
were_new tells (o ∷ os) (n ∷ ns) [] new sent = absurd sent
were_new tells (o ∷ os) (n ∷ ns) (t ∷ ts) new sent = λ i. new.0 i ∷ were_new tells os ns ts new.1 sent.1 i

-- nothing was sent to new journals
pub new_sent : (ds : List Drain) → Each (λ d. d.sent ≡ []) (new_journals ds)
new_sent [] = tt
new_sent (d ∷ ds) = (refl, new_sent ds)
