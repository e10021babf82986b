-- Lists whose elements are written one behind the other.
use Rattle.std.proofs.Common.{◌≡◌, ℕ, zero, suc, ◌+◌, ◌*◌, ◌≤◌, ◌<◌, List, [], ◌∷◌, ◌++◌, append-nil, length, length-append, append_assoc, take, flat_map, Some, None, add-one, arith, refl, sym, ◌∙◌, ap, subst}
use Rattle.std.specs.List.{slice_get}
use Rattle.std.proofs.lemmas.List.Concat.{length-flat_map}
use Rattle.std.proofs.lemmas.List.Folds.{length-flat_map-take}
use Rattle.std.proofs.lemmas.Option.{slice_get_within, get_or_from_slice_get}
use Rattle.hex.specs.Hex.{encode_with}
use Rattle.satip_base.specs.Output.{Datagram, datagram_bytes}
use Rattle.satip_entry_writer.specs.Fields.{u16_text}
use Rattle.satip_entry_writer.specs.Sheets.{Sheet, WroteHex}
use Rattle.satip_entry_writer.proofs.Writing.{◌then◌, length-u16}

-- two bytes each
pub length-pids : (pids : List ℕ) → length (flat_map u16_text pids) ≡ 2 * length pids
length-pids [] = refl
length-pids (pid ∷ pids) = omega (arith, length-append (u16_text pid) (flat_map u16_text pids), length-u16 pid, length-pids pids)

-- nothing is written yet
pub nothing_wrote : (o : Sheet) → WroteHex o [] o
unfolding encode_with
nothing_wrote o = record { text = sym (append-nil o.text); spare = omega arith }

-- one element more
pub flat_map_more : {T : Type 0} (f : T → List ℕ) (xs : List T) (i : ℕ) (x : T) → slice_get xs i ≡ Some x
    → flat_map f (take (i + 1) xs) ≡ flat_map f (take i xs) ++ f x
flat_map_more f xs i x here = rw add-one (more_by f xs i x here)
  where
    more_by : {T : Type 0} (f : T → List ℕ) (xs : List T) (i : ℕ) (x : T) → slice_get xs i ≡ Some x
        → flat_map f (take (suc i) xs) ≡ flat_map f (take i xs) ++ f x
    more_by f [] i x here = cc here
    more_by f (y ∷ ys) zero x here = let same : y ≡ x = cc in append-nil (f y) ∙ ap f same
    more_by f (y ∷ ys) (suc i) x here =
        ap (λ (t : List ℕ). f y ++ t) (more_by f ys i x here) ∙ sym (append_assoc (f y) (flat_map f (take i ys)) (f x))

-- the elements before a place and the one there are no longer than all
pub within_all : {T : Type 0} (f : T → List ℕ) (xs : List T) (i : ℕ) (x : T) → slice_get xs i ≡ Some x
    → length (flat_map f (take i xs)) + length (f x) ≤ length (flat_map f xs)
within_all f xs i x here =
    subst (λ y. length (flat_map f (take i xs)) + length (f y) ≤ length (flat_map f xs)) (get_or_from_slice_get xs i x x here)
    (length-flat_map-take f xs i x (slice_get_within xs i x here))

-- a datagram is no longer than all together
pub within_datagrams : (ds : List Datagram) (i : ℕ) (d : Datagram) → slice_get ds i ≡ Some d → length d.bytes ≤ datagram_bytes ds
within_datagrams ds i d here =
    omega (arith, length-flat_map (λ (x : Datagram). x.bytes) ds, within_all (λ (x : Datagram). x.bytes) ds i d here)

-- an element stands at each place below the length
pub is_there : {T : Type 0} (xs : List T) (i : ℕ) → None ≡ slice_get xs i → i < length xs → ⊥
is_there [] i h inside = absurd (omega (arith, inside))
is_there (x ∷ xs) zero h inside = cc h
is_there (x ∷ xs) (suc i) h inside = is_there xs i h (omega (arith, inside))

-- one element more is written
pub wrote_more : {T : Type 0} {o m n : Sheet} (f : T → List ℕ) (xs : List T) (i : ℕ) (x : T) → slice_get xs i ≡ Some x
    → WroteHex o (flat_map f (take i xs)) m → WroteHex m (f x) n → WroteHex o (flat_map f (take (i + 1) xs)) n
wrote_more {o = o} {n = n} f xs i x here before after =
    subst (λ t. WroteHex o t n) (sym (flat_map_more f xs i x here)) (before then after)

-- there is room for the element at a place
pub room_more : {T : Type 0} {o m : Sheet} (f : T → List ℕ) (xs : List T) (i : ℕ) (x : T) → slice_get xs i ≡ Some x
    → WroteHex o (flat_map f (take i xs)) m → 2 * length (flat_map f xs) ≤ o.spare → 2 * length (f x) ≤ m.spare
room_more f xs i x here before room = omega (arith, before.spare, room, within_all f xs i x here)

pub ruleset list_steps = (length-pids, nothing_wrote)
