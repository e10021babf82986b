-- Datagrams one after another.
use Rattle.std.proofs.Common.{◌≡◌, ℕ, suc, ◌+◌, ◌≤◌, ◌⊎◌, List, [], ◌∷◌, ◌++◌, take, false, Option, Some, None, IsSomeAnd, slice_get, append_assoc, arith, sym, ap, ◌∙◌, subst, inl, inr, refl}
use Rattle.std.proofs.lemmas.List.{append-nil, take_more}
use Rattle.std.proofs.lemmas.Option.{slice_get_within, get_or_from_slice_get}
use Rattle.satip_base.specs.Output.{Datagram}
use Rattle.satip_base.specs.declared.network.Address.{Address}
use Rattle.satip_base.specs.declared.streams.Put.{Put}
use Rattle.satip_base.specs.declared.streams.Put.TheVariants.{Whole, Failed}
use Rattle.satip_world.specs.Counts.{Rises}
use Rattle.satip_world.specs.Outboxes.{Outbox, Posts, locked, unlocked}
use Rattle.satip_world.specs.Deliveries.{LeavesOut, no_more, went, lost, Delivers}

-- what is left out of one list after another
leaves_then : {xs us ys vs : List Datagram} {n m : ℕ} → LeavesOut xs us n → LeavesOut ys vs m → LeavesOut (xs ++ ys) (us ++ vs) (n + m)
leaves_then {ys = ys} {vs = vs} {m = m} no_more rest =
    let same : m ≡ 0 + m = omega arith in
    subst (λ (k : ℕ). LeavesOut ys vs k) same rest
leaves_then (went first) rest = went (leaves_then first rest)
leaves_then {xs = d ∷ ds} {us = us} {ys = ys} {vs = vs} {n = suc n} {m = m} (lost first) rest =
    let same : suc (n + m) ≡ suc n + m = omega arith in
    let P : ℕ → Type 0 = λ k. LeavesOut (d ∷ (ds ++ ys)) (us ++ vs) k in
    subst P same (lost (leaves_then first rest))

-- nothing was to be sent
pub delivers_none : (tells : Type 0) (o : Outbox) → Delivers tells o o []
delivers_none tells o = record {
  sent = [];
  missing = 0;
  leaves_out = no_more;
  content = λ _. sym (append-nil o.sent);
  faults = inl (omega arith);
  kept = omega arith;
}

-- the lock changes nothing of what was sent
pub delivers_locked : (tells : Type 0) (o n : Outbox) (all : List Datagram) → Delivers tells (locked o) n all → Delivers tells o (unlocked n) all
delivers_locked tells o n all d = record {
  sent = d.sent;
  missing = d.missing;
  leaves_out = d.leaves_out;
  content = d.content;
  faults = d.faults;
  kept = d.kept;
}

pub delivers_unlocked : (tells : Type 0) (o n : Outbox) (all : List Datagram) → Delivers tells (unlocked o) n all → Delivers tells o n all
delivers_unlocked tells o n all d = record {
  sent = d.sent;
  missing = d.missing;
  leaves_out = d.leaves_out;
  content = d.content;
  faults = d.faults;
  kept = d.kept;
}

-- what was sent between a lock and an unlock
pub delivers_within : (tells : Type 0) (o p m n : Outbox) (all : List Datagram) → p ≡ locked o → n ≡ unlocked m
    → Delivers tells p m all → Delivers tells o n all
delivers_within tells o p m n all into out d =
    let P : Outbox → Type 0 = λ q. Delivers tells q m all in
    let N : Outbox → Type 0 = λ q. Delivers tells o q all in
    subst N (sym out) (delivers_locked tells o m all (subst P into d))

-- an outlet that was locked and unlocked is as it was
pub relocked : (o : Outbox) → o.held ≡ false → unlocked (locked o) ≡ o
relocked o free = rw (sym free) refl

-- nothing was sent between a lock and an unlock
pub unsent_within : (o p m n : Outbox) → o.held ≡ false → p ≡ locked o → n ≡ unlocked m → m ≡ p → n ≡ o
unsent_within o p m n free into out same = out ∙ ap (λ (q : Outbox). unlocked q) (same ∙ into) ∙ relocked o free

-- a call of `send` leaves the lock as it is
pub posts_held : (tells : Type 0) (o n : Outbox) (to : Address) (bytes : List ℕ) (put : Put) → Posts tells o n to bytes put → n.held ≡ o.held
posts_held tells o n to bytes Whole posted = posted.held
posts_held tells o n to bytes Failed failed = failed.held

-- how faults add up
faults_then : (a b c n m : ℕ) → (a + n ≤ b) ⊎ (18446744073709551615 ≤ b) → (b + m ≤ c) ⊎ (18446744073709551615 ≤ c) → b ≤ c
    → (a + (n + m) ≤ c) ⊎ (18446744073709551615 ≤ c)
faults_then a b c n m (inl first) (inl second) kept = inl (omega arith)
faults_then a b c n m (inl first) (inr second) kept = inr second
faults_then a b c n m (inr first) second kept = inr (omega arith)

-- one list after another
pub delivers_then : (tells : Type 0) (o m n : Outbox) (xs ys : List Datagram)
    → Delivers tells o m xs → Delivers tells m n ys → Delivers tells o n (xs ++ ys)
delivers_then tells o m n xs ys first second = record {
  sent = first.sent ++ second.sent;
  missing = first.missing + second.missing;
  leaves_out = leaves_then first.leaves_out second.leaves_out;
  content = λ told. second.content told ∙ ap (λ (front : List Datagram). front ++ second.sent) (first.content told)
      ∙ append_assoc o.sent first.sent second.sent;
  faults = faults_then o.faults m.faults n.faults first.missing second.missing first.faults second.faults second.kept;
  kept = omega (arith, first.kept, second.kept);
}

-- how one fault counts
one_fault : (a b : ℕ) → Rises a b → (a + 1 ≤ b) ⊎ (18446744073709551615 ≤ b)
one_fault a b rises = one_more a b rises.rose
  where
    one_more : (a b : ℕ) → (suc a ≤ b) ⊎ (18446744073709551615 ≤ b) → (a + 1 ≤ b) ⊎ (18446744073709551615 ≤ b)
    one_more a b (inl more) = inl (omega arith)
    one_more a b (inr last) = inr last

-- one datagram
pub delivers_one : (tells : Type 0) (o n : Outbox) (to : Address) (bytes : List ℕ) (put : Put) → Posts tells o n to bytes put
    → Delivers tells o n (record { to = to; bytes = bytes } ∷ [])
delivers_one tells o n to bytes Whole posted = record {
  sent = record { to = to; bytes = bytes } ∷ [];
  missing = 0;
  leaves_out = went no_more;
  content = posted.content;
  faults = inl (omega (arith, posted.faults));
  kept = omega (arith, posted.faults);
}
delivers_one tells o n to bytes Failed failed = record {
  sent = [];
  missing = 1;
  leaves_out = lost no_more;
  content = λ told. failed.content told ∙ sym (append-nil o.sent);
  faults = one_fault o.faults n.faults failed.faults;
  kept = failed.faults.kept;
}

-- one datagram more of a list
pub delivers_more : (tells : Type 0) (o m n : Outbox) (all : List Datagram) (place : ℕ)
    → Delivers tells o m (take place all) → IsSomeAnd (slice_get all place) (λ d. Delivers tells m n (d ∷ []))
    → Delivers tells o n (take (place + 1) all)
delivers_more tells o m n all place before next = one_more (slice_get all place) refl next
  where
    one_more : (found : Option Datagram) → slice_get all place ≡ found → IsSomeAnd found (λ d. Delivers tells m n (d ∷ []))
        → Delivers tells o n (take (place + 1) all)
    one_more None is next = absurd next
    one_more (Some d) is next =
        let shown : take (place + 1) all ≡ take place all ++ d ∷ [] =
        take_more all place d (slice_get_within all place d is)
        ∙ ap (λ (x : Datagram). take place all ++ x ∷ []) (get_or_from_slice_get all place d d is) in
        let P : List Datagram → Type 0 = λ ds. Delivers tells o n ds in
        subst P (sym shown) (delivers_then tells o m n (take place all) (d ∷ []) before next)
