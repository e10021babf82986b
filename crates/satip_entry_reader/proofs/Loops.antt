-- Loops that read one value after another.
use Rattle.std.proofs.Common.{◌≡◌, ℕ, suc, ◌+◌, ◌-◌, ◌<◌, ◌≤◌, List, [], ◌∷◌, ◌++◌, append-nil, append_assoc, length, length-append, flat_map, take, slice_set, Bool, true, false, Option, Some, None, arith, refl, sym, ◌∙◌, ap, subst}
use Rattle.std.proofs.lemmas.Grind.{flat_map-append}
use Rattle.std.proofs.lemmas.List.{take_all, take_more_set, length-take-le}
use Rattle.std.specs.Bool.{MatchBool}
use Rattle.satip_entry_writer.specs.Fields.{u8_text}
use Rattle.std.specs.Prelude.{IfSome, IsNone, slice_index, ◌↔◌, ◌≢◌, if◌then◌else◌, nat_eq, nat_le}
use Rattle.std.proofs.lemmas.Bool.{eqb-false, eqb-true}
use Rattle.std.proofs.lemmas.Bool.Decides.{nat_tests}
use Rattle.satip_entry_reader.specs.Reading.{behind, u8_read, then_read}
use Rattle.satip_entry_reader.specs.ReadingEvents.{packet_read}
use Rattle.satip_entry_reader.proofs.ListsAgain.{bytes_again}
use Rattle.satip_entry_reader.specs.ReadingLists.{read_bytes, read_each, read_more}

-- of so many values those before a place are read
pub record ReadSome {T : Type 0} (text : T → List ℕ) (read : List ℕ → Option (T × List ℕ)) (count place : ℕ) (o : List ℕ) (done : List T)
    (n : List ℕ) : Type 0 where
  pub more : read_more read (count - place) done n ≡ read_each read count o
  pub front : o ≡ flat_map text done ++ n
  pub length_is : length done ≡ place

pub behind_none : {T : Type 0} (r : Option (List T × List ℕ)) → then_read r (λ xs rest. Some ([] ++ xs, rest)) ≡ r
behind_none None = refl
behind_none (Some (xs, rest)) = refl

pub whole : (count : ℕ) → count - 0 ≡ count
whole count = omega arith

pub behind_one : {T : Type 0} (done : List T) (x : T) (r : Option (List T × List ℕ))
    → then_read r (λ xs rest. Some ((done ++ x ∷ []) ++ xs, rest))
    ≡ then_read (then_read r (λ xs more. Some (x ∷ xs, more))) (λ xs rest. Some (done ++ xs, rest))
behind_one done x None = refl
behind_one done x (Some (xs, rest)) = ap (λ zs. Some (zs, rest)) (append_assoc done (x ∷ []) xs)

pub read_none : {T : Type 0} (text : T → List ℕ) (read : List ℕ → Option (T × List ℕ)) (count : ℕ) (o : List ℕ) → ReadSome text read count 0 o [] o
read_none text read count o =
    record { more = ap (λ m. read_more read m [] o) (whole count) ∙ behind_none (read_each read count o); front = refl; length_is = refl }

step : {T : Type 0} (read : List ℕ → Option (T × List ℕ)) (m : ℕ) (done : List T) (x : T) (n p : List ℕ) → read n ≡ Some (x, p)
    → read_more read m (done ++ x ∷ []) p ≡ read_more read (suc m) done n
unfolding read_each
step read m done x n p here = rw here (behind_one done x (read_each read m p))

fails : {T : Type 0} (read : List ℕ → Option (T × List ℕ)) (m : ℕ) (done : List T) (n : List ℕ) → read n ≡ None → read_more read (suc m) done n ≡ None
unfolding read_each
fails read m done n here = rw here refl

ends : {T : Type 0} (read : List ℕ → Option (T × List ℕ)) (done : List T) (n : List ℕ) → read_more read 0 done n ≡ Some (done, n)
unfolding read_each
ends read done n = ap (λ zs. Some (zs, n)) (append-nil done)

pub read_one : {T : Type 0} (text : T → List ℕ) (read : List ℕ → Option (T × List ℕ)) (count place : ℕ) (o n p : List ℕ) (done : List T) (x : T)
    → place < count → read n ≡ Some (x, p) → n ≡ text x ++ p → ReadSome text read count place o done n
    → ReadSome text read count (place + 1) o (done ++ x ∷ []) p
read_one text read count place o n p done x inside here front before =
    let left : count - place ≡ suc (count - (place + 1)) = omega (arith, inside) in
    record {
      more = step read (count - (place + 1)) done x n p here ∙ ap (λ m. read_more read m done n) (sym left) ∙ before.more;
      front =
          before.front ∙ ap (λ t. flat_map text done ++ t) front
          ∙ sym (append_assoc (flat_map text done) (text x) p)
          ∙ ap (λ t. t ++ p) (sym (flat_map-append text done (x ∷ []) ∙ ap (λ t. flat_map text done ++ t) (append-nil (text x))));
      length_is = omega (arith, length-append done (x ∷ []), before.length_is);
    }

pub read_fails : {T : Type 0} (text : T → List ℕ) (read : List ℕ → Option (T × List ℕ)) (count place : ℕ) (o n : List ℕ) (done : List T)
    → place < count → read n ≡ None → ReadSome text read count place o done n → None ≡ read_each read count o
read_fails text read count place o n done inside here before =
    let left : count - place ≡ suc (count - (place + 1)) = omega (arith, inside) in
    sym (fails read (count - (place + 1)) done n here) ∙ ap (λ m. read_more read m done n) (sym left) ∙ before.more

pub read_all : {T : Type 0} (text : T → List ℕ) (read : List ℕ → Option (T × List ℕ)) (count place : ℕ) (o n : List ℕ) (done : List T)
    → place ≡ count → ReadSome text read count place o done n → Some (done, n) ≡ read_each read count o
read_all text read count place o n done same before =
    let left : count - place ≡ 0 = omega (arith, same) in
    sym (ends read done n) ∙ ap (λ m. read_more read m done n) (sym left) ∙ before.more

-- a list that isn't full takes one PID more
pub pushed : (b : Bool) (xs ys : List ℕ) (x : ℕ) → MatchBool b (length xs < 512) (length xs ≡ 512) → MatchBool b (ys ≡ xs ++ x ∷ []) (ys ≡ xs)
    → length xs < 512 → xs ++ x ∷ [] ≡ ys
pushed true xs ys x room put few = sym put
pushed false xs ys x room put few = absurd (omega (arith, room, few))

-- fewer bytes than are asked for
pub too_few : (count : ℕ) (o : List ℕ) → length o < count → None ≡ read_bytes count o
unfolding read_bytes
too_few count o few = let no : nat_le count (length o) ≡ false = grind (arith, nat_tests, few) in rw no refl

-- as many bytes as there are in front
pub bytes_in_front : (count : ℕ) (o places rest : List ℕ) → o ≡ places ++ rest → length places ≡ count → read_bytes count o ≡ Some (places, rest)
bytes_in_front count o places rest whole size =
    subst (λ n. read_bytes n o ≡ Some (places, rest)) size
    (subst (λ (t : List ℕ). read_bytes (length places) t ≡ Some (places, rest)) (sym whole) (bytes_again places rest))

by_sync : (found : Option (List ℕ)) (places rest : List ℕ) (b : Bool) → nat_eq (slice_index places 0) 71 ≡ b
    → (IsNone found ↔ (slice_index places 0 ≢ 71)) → IfSome found (λ packet. packet ≡ places)
    → behind found rest ≡ (if b then Some (places, rest) else None)
by_sync None places rest true same none some = absurd (none.0 refl (eqb-true (slice_index places 0) 71 same))
by_sync None places rest false same none some = refl
by_sync (Some packet) places rest true same none some = ap (λ (p : List ℕ). Some (p, rest)) some
by_sync (Some packet) places rest false same none some = cc (none.1 (eqb-false (slice_index places 0) 71 same))

-- 188 bytes that are a packet, or none
pub packet_in_front : (found : Option (List ℕ)) (o places rest : List ℕ) → o ≡ places ++ rest → length places ≡ 188
    → (IsNone found ↔ (slice_index places 0 ≢ 71)) → IfSome found (λ packet. packet ≡ places) → behind found rest ≡ packet_read o
unfolding packet_read
packet_in_front found o places rest whole size none some =
    rw (bytes_in_front 188 o places rest whole size) (by_sync found places rest (nat_eq (slice_index places 0) 71) refl none some)

-- the packet that those bytes are
pub packet_behind : (found : Option (List ℕ)) (o places rest : List ℕ) → o ≡ places ++ rest → IfSome found (λ packet. packet ≡ places)
    → IfSome found (λ packet. o ≡ packet ++ rest)
packet_behind None o places rest whole some = tt
packet_behind (Some packet) o places rest whole some = whole ∙ ap (λ (p : List ℕ). p ++ rest) (sym some)
