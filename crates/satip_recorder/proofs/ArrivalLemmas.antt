-- Datagrams that came one after another, and the turns in which they did.
use Rattle.std.proofs.Common.{◌⊎◌, inl, inr, ℕ, ◌+◌, ◌<◌, ◌≤◌, zero, suc, List, [], ◌∷◌, ◌++◌, sym, ap, subst, arith}
use Rattle.std.proofs.lemmas.Bool.{cases_lt}
use Rattle.std.specs.List.{All}
use Rattle.satip_world.specs.Inboxes.{Inbox, GotDatagram, GotNone}
use Rattle.satip_rtp_receiver.specs.Caught.{Datagram}
use Rattle.satip_recorder.specs.Arrivals.{AreRead, IsLast, TookTurns}

pub read-then : (xs ys : List (List ℕ)) (ds es : List Datagram) → AreRead xs ds → AreRead ys es → AreRead (xs ++ ys) (ds ++ es)
read-then [] ys ds es first second = subst (λ (x : List Datagram). AreRead ys (x ++ es)) (sym first) second
read-then (x ∷ xs) ys ds es (inl out) second = inl (out.0, read-then xs ys ds es out.1 second)
read-then (x ∷ xs) ys ds es (inr is) second =
    inr (is.0, is.1, is.2 ++ es, ap (λ (t : List Datagram). t ++ es) is.3, read-then xs ys is.2 es is.4 second)

small-cons : (d : Datagram) (ds : List Datagram) → d.number < 65536 → All (λ x. x.number < 65536) ds → All (λ x. x.number < 65536) (d ∷ ds)
small-cons d ds h all zero e l = h
small-cons d ds h all (suc k) e l = all k e (omega arith)

-- the number of an arrival has two bytes
pub small : (xs : List (List ℕ)) (ds : List Datagram) → AreRead xs ds → All (λ x. x.number < 65536) ds
small [] ds is = subst (λ (x : List Datagram). All (λ y. y.number < 65536) x) (sym is) (λ k e l. absurd (omega arith))
small (x ∷ xs) ds (inl out) = small xs ds out.1
small (x ∷ xs) ds (inr is) =
    subst (λ (t : List Datagram). All (λ y. y.number < 65536) t) (sym is.3) (small-cons is.0 is.2 is.1.small (small xs is.2 is.4))

-- turns one after another
pub turns-then : (k l : ℕ) (i m j : Inbox) → TookTurns k i m → TookTurns l m j → TookTurns (k + l) i j
turns-then k l i m j first second = record {
  counted = counted first.counted second.counted;
  stays = λ last. second.stays (first.stays last);
}
  where
    counted : (i.count + i.idles + k ≤ m.count + m.idles) ⊎ IsLast m → (m.count + m.idles + l ≤ j.count + j.idles) ⊎ IsLast j
        → (i.count + i.idles + (k + l) ≤ j.count + j.idles) ⊎ IsLast j
    counted (inl a) (inl b) = inl (omega (arith, a, b))
    counted (inl a) (inr b) = inr b
    counted (inr a) b = inr (second.stays a)

pub turns-fewer : (k l : ℕ) (i j : Inbox) → l ≤ k → TookTurns k i j → TookTurns l i j
turns-fewer k l i j less took = record { counted = counted took.counted; stays = took.stays }
  where
    counted : (i.count + i.idles + k ≤ j.count + j.idles) ⊎ IsLast j → (i.count + i.idles + l ≤ j.count + j.idles) ⊎ IsLast j
    counted (inl a) = inl (omega (arith, a, less))
    counted (inr a) = inr a

pub turns-none : (i : Inbox) → TookTurns 0 i i
turns-none i = record { counted = inl (omega arith); stays = λ last. last }

pub turn-got : (tells : Type 0) (i j : Inbox) (buf : List ℕ) (size : ℕ) → GotDatagram tells i j buf size → TookTurns 1 i j
turn-got tells i j buf size got = record {
  counted = elim (cases_lt i.count 18446744073709551615) [
    | inl below ↦ inl (omega (arith, got.count, got.idles, below))
    | inr last ↦ inr (inl (omega (arith, got.count, last)))
  ];
  stays = stays;
}
  where
    stays : IsLast i → IsLast j
    stays (inl a) = inl (omega (arith, got.count, a))
    stays (inr a) = inr (omega (arith, got.idles, a))

pub turn-none : (tells : Type 0) (i j : Inbox) → GotNone tells i j → TookTurns 1 i j
turn-none tells i j got = record { counted = counted got.idles.rose; stays = stays }
  where
    counted : (i.idles < j.idles) ⊎ (18446744073709551615 ≤ j.idles) → (i.count + i.idles + 1 ≤ j.count + j.idles) ⊎ IsLast j
    counted (inl more) = inl (omega (arith, got.count, more))
    counted (inr last) = inr (inr last)

    stays : IsLast i → IsLast j
    stays (inl a) = inl (omega (arith, got.count, a))
    stays (inr a) = inr (omega (arith, got.idles.kept, a))
