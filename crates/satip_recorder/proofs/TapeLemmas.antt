-- Items that are written and told one after another.
use Rattle.std.proofs.Common.{◌≡◌, ℕ, ◌-◌, ◌<◌, zero, suc, Bool, true, false, List, [], ◌∷◌, ◌++◌, length, take, refl, sym, ap, ◌∙◌, subst, arith, append_assoc, append-nil, length-append}
use Rattle.satip_base.specs.Streams.{Drain, PutAll, FailedToPut, Began, Rose}
use Rattle.satip_base.specs.declared.streams.Put.{Put}
use Rattle.satip_base.specs.declared.streams.Put.TheVariants.{Whole, Failed}
use Rattle.satip_rtp_receiver.specs.declared.item.Item.{Item}
use Rattle.satip_rtp_receiver.specs.declared.item.Item.TheVariants.{Data, Gap}
use Rattle.satip_recorder.specs.Tapes.{Deck, deck, packets_in, gap_line, gap_lines, Tells, PutsPackets, Taped, TapeFailed, TapesAs}
use Rattle.satip_recorder.specs.declared.tape.Tape.{Tape}

take-nil : (n : ℕ) → take {A = ℕ} n [] ≡ []
take-nil zero = refl
take-nil (suc n) = refl

take-split : (n : ℕ) (a b : List ℕ) → take n (a ++ b) ≡ take n a ++ take (n - length a) b
take-split zero a b =
    let none : 0 ≡ 0 - length a = omega arith in
    ap (λ (k : ℕ). take k b) none
take-split (suc n) [] b =
    let all : suc n ≡ suc n - 0 = omega arith in
    ap (λ (k : ℕ). take k b) all
take-split (suc n) (x ∷ a) b =
    let less : n - length a ≡ suc n - suc (length a) = omega arith in
    ap (λ (t : List ℕ). x ∷ t) (take-split n a b) ∙ ap (λ (k : ℕ). x ∷ (take n a ++ take k b)) less

pub packets-split : (xs ys : List Item) → packets_in (xs ++ ys) ≡ packets_in xs ++ packets_in ys
packets-split [] ys = refl
packets-split (Data number packets ∷ xs) ys =
    ap (λ (t : List ℕ). packets ++ t) (packets-split xs ys) ∙ sym (append_assoc packets (packets_in xs) (packets_in ys))
packets-split (Gap from count ∷ xs) ys = packets-split xs ys

gap_lines-zero : (items : List Item) → gap_lines zero items ≡ []
gap_lines-zero [] = refl
gap_lines-zero (item ∷ items) = refl

gap_lines-nil : (n : ℕ) → gap_lines n [] ≡ []
gap_lines-nil zero = refl
gap_lines-nil (suc n) = refl

gap_lines-split : (n : ℕ) (xs ys : List Item) → gap_lines n (xs ++ ys) ≡ gap_lines n xs ++ gap_lines (n - length (packets_in xs)) ys
gap_lines-split zero xs ys =
    let none : 0 - length (packets_in xs) ≡ 0 = omega arith in
    gap_lines-zero (xs ++ ys) ∙ sym (ap (λ (t : List ℕ). t ++ gap_lines (0 - length (packets_in xs)) ys) (gap_lines-zero xs)
    ∙ ap (λ (k : ℕ). gap_lines k ys) none ∙ gap_lines-zero ys)
gap_lines-split (suc n) [] ys =
    let all : suc n ≡ suc n - 0 = omega arith in
    ap (λ (k : ℕ). gap_lines k ys) all
gap_lines-split (suc n) (Data number packets ∷ xs) ys =
    let left : (suc n - length packets) - length (packets_in xs) ≡ suc n - length (packets ++ packets_in xs) =
    omega (arith, length-append packets (packets_in xs)) in
    gap_lines-split (suc n - length packets) xs ys ∙ ap (λ (k : ℕ). gap_lines (suc n - length packets) xs ++ gap_lines k ys) left
gap_lines-split (suc n) (Gap from count ∷ xs) ys =
    ap (λ (t : List ℕ). gap_line from count ++ t) (gap_lines-split (suc n) xs ys)
    ∙ sym (append_assoc (gap_line from count) (gap_lines (suc n) xs) (gap_lines (suc n - length (packets_in xs)) ys))

-- bytes that are put one after another
pub puts-then : (tells : Type 0) (o m n : Drain) (a b : List ℕ) → PutAll tells o m a → PutAll tells m n b → PutAll tells o n (a ++ b)
puts-then tells o m n a b first second = record {
  faults = second.faults ∙ first.faults;
  content = λ told. second.content told ∙ ap (λ (t : List ℕ). t ++ b) (first.content told) ∙ append_assoc o.sent a b;
}

pub puts-failed : (tells : Type 0) (o m n : Drain) (a b : List ℕ) → PutAll tells o m a → FailedToPut tells m n b → FailedToPut tells o n (a ++ b)
puts-failed tells o m n a b first second = record {
  faults = subst (λ (k : ℕ). Rose k n.faults) first.faults second.faults;
  content = λ told. began (first.content told) (second.content told);
}
  where
    began : m.sent ≡ o.sent ++ a → Began m.sent n.sent b → Began o.sent n.sent (a ++ b)
    began is s = record {
      part = a ++ s.part;
      rest = s.rest;
      whole = ap (λ (t : List ℕ). a ++ t) s.whole ∙ sym (append_assoc a s.part s.rest);
      sent = s.sent ∙ ap (λ (t : List ℕ). t ++ s.part) is ∙ append_assoc o.sent a s.part;
    }

failed-more : (tells : Type 0) (o n : Drain) (a b : List ℕ) → FailedToPut tells o n a → FailedToPut tells o n (a ++ b)
failed-more tells o n a b failed = record { faults = failed.faults; content = λ told. began (failed.content told) }
  where
    began : Began o.sent n.sent a → Began o.sent n.sent (a ++ b)
    began s = record {
      part = s.part;
      rest = s.rest ++ b;
      whole = ap (λ (t : List ℕ). t ++ b) s.whole ∙ append_assoc s.part s.rest b;
      sent = s.sent;
    }

pub puts-none : (tells : Type 0) (o : Drain) → PutAll tells o o []
puts-none tells o = record { faults = refl; content = λ _. sym (append-nil o.sent) }

pub tells-then : (tells : Type 0) (o m n : Drain) (a b : List ℕ) (x y z : Bool) → Tells tells o m a x y → Tells tells m n b y z
    → Tells tells o n (a ++ b) x z
tells-then tells o m n a b false false false first second = puts-then tells o m n a b first second
tells-then tells o m n a b false false true first second = puts-failed tells o m n a b first second
tells-then tells o m n a b false true false first second = absurd second
tells-then tells o m n a b false true true first second =
    subst (λ (d : Drain). FailedToPut tells o d (a ++ b)) (sym second) (failed-more tells o m a b first)
tells-then tells o m n a b true false false first second = absurd first
tells-then tells o m n a b true false true first second = absurd first
tells-then tells o m n a b true true false first second = absurd second
tells-then tells o m n a b true true true first second = second ∙ first

pub tells-none : (tells : Type 0) (d : Drain) (muted : Bool) → Tells tells d d [] muted muted
tells-none tells d false = puts-none tells d
tells-none tells d true = refl

-- what is written and told of items, and then of further ones
pub bytes-then : (p q : Tape) (xs ys : List Item) → q.left ≡ p.left - length (packets_in xs)
    → take p.left (packets_in xs) ++ take q.left (packets_in ys) ≡ take p.left (packets_in (xs ++ ys))
bytes-then p q xs ys left =
    ap (λ (k : ℕ). take p.left (packets_in xs) ++ take k (packets_in ys)) left
    ∙ sym (take-split p.left (packets_in xs) (packets_in ys))
    ∙ ap (λ (t : List ℕ). take p.left t) (sym (packets-split xs ys))

pub lines-then : (p q : Tape) (xs ys : List Item) → q.left ≡ p.left - length (packets_in xs)
    → gap_lines p.left xs ++ gap_lines q.left ys ≡ gap_lines p.left (xs ++ ys)
lines-then p q xs ys left =
    ap (λ (k : ℕ). gap_lines p.left xs ++ gap_lines k ys) left ∙ sym (gap_lines-split p.left xs ys)

pub taped-then : (tells tells_lines : Type 0) (o m n : Deck) (xs ys : List Item) → Taped tells tells_lines o m xs → Taped tells tells_lines m n ys
    → Taped tells tells_lines o n (xs ++ ys)
taped-then tells tells_lines o m n xs ys first second = record {
  written = subst (λ (t : List ℕ). PutAll tells o.output n.output t) (bytes-then o.tape m.tape xs ys first.left)
      (puts-then tells o.output m.output n.output (take o.tape.left (packets_in xs)) (take m.tape.left (packets_in ys)) first.written second.written);
  left = omega (arith, first.left, second.left, ap (λ (t : List ℕ). length t) (packets-split xs ys), length-append (packets_in xs) (packets_in ys));
  told = subst (λ (t : List ℕ). Tells tells_lines o.errors n.errors t o.tape.muted n.tape.muted) (lines-then o.tape m.tape xs ys first.left)
      (tells-then tells_lines o.errors m.errors n.errors (gap_lines o.tape.left xs) (gap_lines m.tape.left ys) o.tape.muted m.tape.muted n.tape.muted
      first.told second.told);
}

pub tape_fails-after : (tells tells_lines : Type 0) (o m n : Deck) (xs ys : List Item) → Taped tells tells_lines o m xs
    → TapeFailed tells tells_lines m n ys → TapeFailed tells tells_lines o n (xs ++ ys)
tape_fails-after tells tells_lines o m n xs ys first second = record {
  handed = xs ++ second.handed;
  rest = second.rest;
  whole = ap (λ (t : List Item). xs ++ t) second.whole ∙ sym (append_assoc xs second.handed second.rest);
  written = subst (λ (t : List ℕ). FailedToPut tells o.output n.output t) (bytes-then o.tape m.tape xs second.handed first.left)
      (puts-failed tells o.output m.output n.output (take o.tape.left (packets_in xs)) (take m.tape.left (packets_in second.handed))
      first.written second.written);
  told = subst (λ (t : List ℕ). Tells tells_lines o.errors n.errors t o.tape.muted n.tape.muted) (lines-then o.tape m.tape xs second.handed first.left)
      (tells-then tells_lines o.errors m.errors n.errors (gap_lines o.tape.left xs) (gap_lines m.tape.left second.handed)
      o.tape.muted m.tape.muted n.tape.muted first.told second.told);
}

pub tape_fails-more : (tells tells_lines : Type 0) (o n : Deck) (xs ys : List Item) → TapeFailed tells tells_lines o n xs
    → TapeFailed tells tells_lines o n (xs ++ ys)
tape_fails-more tells tells_lines o n xs ys failed = record {
  handed = failed.handed;
  rest = failed.rest ++ ys;
  whole = ap (λ (t : List Item). t ++ ys) failed.whole ∙ append_assoc failed.handed failed.rest ys;
  written = failed.written;
  told = failed.told;
}

-- nothing is to be written any more, or there are no items
pub taped-full : (tells tells_lines : Type 0) (o : Deck) (items : List Item) → o.tape.left ≡ 0 → Taped tells tells_lines o o items
taped-full tells tells_lines o items full = record {
  written = subst (λ (t : List ℕ). PutAll tells o.output o.output t) (ap (λ (k : ℕ). take k (packets_in items)) (sym full)) (puts-none tells o.output);
  left = omega (arith, full);
  told = subst (λ (t : List ℕ). Tells tells_lines o.errors o.errors t o.tape.muted o.tape.muted)
      (sym (gap_lines-zero items) ∙ ap (λ (k : ℕ). gap_lines k items) (sym full)) (tells-none tells_lines o.errors o.tape.muted);
}

pub taped-none : (tells tells_lines : Type 0) (o : Deck) → Taped tells tells_lines o o []
taped-none tells tells_lines o = record {
  written = subst (λ (t : List ℕ). PutAll tells o.output o.output t) (sym (take-nil o.tape.left)) (puts-none tells o.output);
  left = omega arith;
  told = subst (λ (t : List ℕ). Tells tells_lines o.errors o.errors t o.tape.muted o.tape.muted) (sym (gap_lines-nil o.tape.left))
      (tells-none tells_lines o.errors o.tape.muted);
}

gap_lines-data : (n number : ℕ) (packets : List ℕ) → gap_lines n (Data number packets ∷ []) ≡ []
gap_lines-data zero number packets = refl
gap_lines-data (suc n) number packets = gap_lines-nil (suc n - length packets)

gap_lines-gap : (n from count : ℕ) → 0 < n → gap_line from count ≡ gap_lines n (Gap from count ∷ [])
gap_lines-gap zero from count some = absurd (omega arith)
gap_lines-gap (suc n) from count some = sym (append-nil (gap_line from count))

-- one item with packets
pub tapes-data : (tells tells_lines : Type 0) (o n d : Drain) (p q : Tape) (number : ℕ) (packets : List ℕ) (result : Put)
    → PutsPackets tells o n p q packets result → TapesAs tells tells_lines (deck p o d) (deck q n d) (Data number packets ∷ []) result
tapes-data tells tells_lines o n d p q number packets Whole puts = record {
  written = subst (λ (t : List ℕ). PutAll tells o n (take p.left t)) (sym (append-nil packets)) puts.0;
  left = puts.1 ∙ ap (λ (t : List ℕ). p.left - length t) (sym (append-nil packets));
  told = subst (λ (b : Bool). Tells tells_lines d d (gap_lines p.left (Data number packets ∷ [])) p.muted b) (sym puts.2)
      (subst (λ (t : List ℕ). Tells tells_lines d d t p.muted p.muted) (sym (gap_lines-data p.left number packets)) (tells-none tells_lines d p.muted));
}
tapes-data tells tells_lines o n d p q number packets Failed puts = record {
  handed = Data number packets ∷ [];
  rest = [];
  whole = refl;
  written = subst (λ (t : List ℕ). FailedToPut tells o n (take p.left t)) (sym (append-nil packets)) puts.0;
  told = subst (λ (b : Bool). Tells tells_lines d d (gap_lines p.left (Data number packets ∷ [])) p.muted b) (sym puts.1)
      (subst (λ (t : List ℕ). Tells tells_lines d d t p.muted p.muted) (sym (gap_lines-data p.left number packets)) (tells-none tells_lines d p.muted));
}

pub tapes-item : (tells tells_lines : Type 0) (o n d : Drain) (p q : Tape) (item : Item) (number : ℕ) (packets bytes : List ℕ) (result : Put)
    → item ≡ Data number packets → bytes ≡ packets → PutsPackets tells o n p q bytes result
    → TapesAs tells tells_lines (deck p o d) (deck q n d) (item ∷ []) result
tapes-item tells tells_lines o n d p q item number packets bytes result is same puts =
    subst (λ (x : Item). TapesAs tells tells_lines (deck p o d) (deck q n d) (x ∷ []) result) (sym is)
    (tapes-data tells tells_lines o n d p q number packets result (subst (λ (b : List ℕ). PutsPackets tells o n p q b result) same puts))

-- one gap
pub taped-gap : (tells tells_lines : Type 0) (o d e : Drain) (p q : Tape) (from count : ℕ) → 0 < p.left → q.left ≡ p.left
    → Tells tells_lines d e (gap_line from count) p.muted q.muted → Taped tells tells_lines (deck p o d) (deck q o e) (Gap from count ∷ [])
taped-gap tells tells_lines o d e p q from count some same told = record {
  written = subst (λ (t : List ℕ). PutAll tells o o t) (sym (take-nil p.left)) (puts-none tells o);
  left = omega (arith, same);
  told = subst (λ (t : List ℕ). Tells tells_lines d e t p.muted q.muted) (gap_lines-gap p.left from count some) told;
}

pub taped-told : (tells tells_lines : Type 0) (o d e : Drain) (p q : Tape) (item : Item) (from count : ℕ) → item ≡ Gap from count → 0 < p.left
    → q.left ≡ p.left → Tells tells_lines d e (gap_line from count) p.muted q.muted → Taped tells tells_lines (deck p o d) (deck q o e) (item ∷ [])
taped-told tells tells_lines o d e p q item from count is some same told =
    subst (λ (x : Item). Taped tells tells_lines (deck p o d) (deck q o e) (x ∷ [])) (sym is)
    (taped-gap tells tells_lines o d e p q from count some same told)
