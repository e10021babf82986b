-- Datagrams that lie one behind the other in one list of bytes.
use Rattle.std.proofs.Common.{◌≡◌, ℕ, ◌+◌, ◌-◌, ◌<◌, ◌≤◌, List, [], ◌∷◌, ◌++◌, length, map, drop, get_or, set, slice_range, length-append, arith, refl, suc, zero, sym, ◌∙◌, ap, subst, Some}
use Rattle.std.proofs.lemmas.Grind.{common_steps}
use Rattle.std.proofs.lemmas.List.{take-append-le, drop-append-le, take_all, drop_all, length-drop, length-map, get_or-map, map-append}
use Rattle.std.proofs.lemmas.Option.{slice_get-get_or}
use Rattle.std.proofs.lemmas.List.Sums.{sum_by-cons}
use Rattle.std.specs.Prelude.{slice_get}
use Rattle.satip_base.specs.declared.datagrams.Head.{Head}
use Rattle.satip_base.specs.Output.{Datagram, datagram_bytes, extended}
use Rattle.satip_base.specs.DatagramFields.{Tiles, cut_of}

-- parts that lie one behind the other end behind their start
pub Tiles-le : (from to : ℕ) (heads : List Head) → Tiles from to heads → from ≤ to
Tiles-le from to [] t = omega (arith, t)
Tiles-le from to (h ∷ hs) t = omega (arith, t.1, Tiles-le h.end to hs t.2)

-- a part is within the bytes
pub record IsInside (from to : ℕ) (head : Head) : Type 0 where
  pub begins : from ≤ head.start
  pub ordered : head.start ≤ head.end
  pub ends : head.end ≤ to

pub Tiles-at : (from to : ℕ) (heads : List Head) → Tiles from to heads → (k : ℕ) (d : Head) → k < length heads
    → IsInside from to (get_or heads k d)
Tiles-at from to [] t k d inside = absurd (omega arith)
Tiles-at from to (h ∷ hs) t zero d inside =
    let rest = Tiles-le h.end to hs t.2 in
    record { begins = omega (arith, t.0); ordered = omega (arith, t.0, t.1); ends = rest }
Tiles-at from to (h ∷ hs) t (suc k) d inside =
    let rest = Tiles-at h.end to hs t.2 k d (omega arith) in
    record { begins = omega (arith, t.1, rest.begins); ordered = rest.ordered; ends = rest.ends }

pub Tiles-read : (from to : ℕ) (heads : List Head) → Tiles from to heads → (k : ℕ) (head : Head) → k < length heads
    → head ≡ get_or heads k head → IsInside from to head
Tiles-read from to heads t k head inside is =
    let P : Head → Type 0 = λ h. IsInside from to h in
    subst P (sym is) (Tiles-at from to heads t k head inside)

-- a part has as many bytes as lie between its ends
length-cut : (bytes : List ℕ) (a b : ℕ) → a ≤ b → b ≤ length bytes → length (slice_range bytes a b) + a ≡ b
length-cut bytes a b ordered within = grind (arith, common_steps)

-- bytes behind a part don't change it
cut_stays : (bytes more : List ℕ) (a b : ℕ) → a ≤ b → b ≤ length bytes → slice_range (bytes ++ more) a b ≡ slice_range bytes a b
cut_stays bytes more a b ordered within =
    let front : a ≤ length bytes = omega arith in
    rw (drop-append-le a bytes more front) (take-append-le (b - a) (drop a bytes) more (omega (arith, length-drop {A = ℕ})))

-- bytes behind the last part make it longer
cut_longer : (bytes more : List ℕ) (a : ℕ) → a ≤ length bytes
    → slice_range (bytes ++ more) a (length bytes + length more) ≡ slice_range bytes a (length bytes) ++ more
cut_longer bytes more a within = rw (drop-append-le a bytes more within) (
    take_all (length bytes + length more - a) (drop a bytes ++ more) (omega (arith, length-append {A = ℕ}, length-drop {A = ℕ}))
    ∙ ap (λ (front : List ℕ). front ++ more) (sym (take_all (length bytes - a) (drop a bytes) (omega (arith, length-drop {A = ℕ})))))

-- the parts have all the bytes together
pub Tiles-sum : (bytes : List ℕ) (from to : ℕ) (heads : List Head) → Tiles from to heads → to ≤ length bytes
    → datagram_bytes (map (cut_of bytes) heads) + from ≡ to
Tiles-sum bytes from to [] t within = omega (arith, t)
Tiles-sum bytes from to (h ∷ hs) t within =
    let rest = Tiles-sum bytes h.end to hs t.2 within in
    let ends = Tiles-le h.end to hs t.2 in
    let cut = length-cut bytes h.start h.end (omega (arith, t.0, t.1)) (omega (arith, ends)) in
    let parts = sum_by-cons (λ (d : Datagram). length d.bytes) (cut_of bytes h) (map (cut_of bytes) hs) in
    omega (arith, t.0, t.1, rest, cut, parts)

-- a part more at the end
pub Tiles-push : (from to further : ℕ) (heads : List Head) (head : Head) → Tiles from to heads → head.start ≡ to → to ≤ head.end
    → head.end ≡ further → Tiles from further (heads ++ head ∷ [])
Tiles-push from to further [] head t start more end = (start ∙ sym t, omega (arith, t, more), end)
Tiles-push from to further (h ∷ hs) head t start more end = (t.0, t.1, Tiles-push h.end to further hs head t.2 start more end)

-- the last part, made longer
pub Tiles-longer : (from to further : ℕ) (heads : List Head) (k : ℕ) (old head : Head) → Tiles from to heads → k + 1 ≡ length heads
    → old ≡ get_or heads k old → head.start ≡ old.start → head.end ≡ further → to ≤ further → Tiles from further (set heads k head)
Tiles-longer from to further [] k old head t last is start end more = absurd (omega arith)
Tiles-longer from to further (h ∷ []) zero old head t last is start end more = (start ∙ ap (λ (h : Head). h.start) is ∙ t.0, omega (arith, t.1, t.2, end), end)
Tiles-longer from to further (h ∷ []) (suc k) old head t last is start end more = absurd (omega arith)
Tiles-longer from to further (h ∷ g ∷ hs) zero old head t last is start end more = absurd (omega arith)
Tiles-longer from to further (h ∷ g ∷ hs) (suc k) old head t last is start end more =
    (t.0, t.1, Tiles-longer h.end to further (g ∷ hs) k old head t.2 (omega arith) is start end more)

-- bytes behind those of all parts change none of them
pub cuts_stay : (bytes more : List ℕ) (from to : ℕ) (heads : List Head) → Tiles from to heads → to ≤ length bytes
    → map (cut_of (bytes ++ more)) heads ≡ map (cut_of bytes) heads
cuts_stay bytes more from to [] t within = refl
cuts_stay bytes more from to (h ∷ hs) t within =
    let ends = Tiles-le h.end to hs t.2 in
    let cut = cut_stays bytes more h.start h.end (omega (arith, t.0, t.1)) (omega (arith, ends)) in
    rw (cut, cuts_stay bytes more h.end to hs t.2 within) refl

-- the bytes behind others, as a part
cut_behind : (bytes more : List ℕ) → slice_range (bytes ++ more) (length bytes) (length bytes + length more) ≡ more
cut_behind bytes more =
    let none : drop (length bytes) bytes ≡ [] = drop_all (length bytes) bytes (omega arith) in
    rw (drop-append-le (length bytes) bytes more (omega arith), none) (take_all (length bytes + length more - length bytes) more (omega arith))

-- one part more
pub cuts_push : (bytes more : List ℕ) (from to : ℕ) (heads : List Head) (head : Head) → Tiles from to heads → to ≤ length bytes
    → head.start ≡ length bytes → head.end ≡ length bytes + length more
    → map (cut_of (bytes ++ more)) (heads ++ head ∷ []) ≡ map (cut_of bytes) heads ++ record { to = head.to; bytes = more } ∷ []
cuts_push bytes more from to heads head t within start end =
    let last : cut_of (bytes ++ more) head ≡ record { to = head.to; bytes = more } =
    rw (start, end) (ap (λ (bs : List ℕ). record { to = head.to; bytes = bs }) (cut_behind bytes more)) in
    map-append (cut_of (bytes ++ more)) heads (head ∷ [])
    ∙ ap (λ (ds : List Datagram). ds ++ cut_of (bytes ++ more) head ∷ []) (cuts_stay bytes more from to heads t within)
    ∙ ap (λ (d : Datagram). map (cut_of bytes) heads ++ d ∷ []) last

-- bytes behind those of all parts, given to the last one
pub cuts_extended : (bytes more : List ℕ) (from to : ℕ) (heads : List Head) (k : ℕ) (old head : Head) → Tiles from to heads
    → to ≡ length bytes → k + 1 ≡ length heads → old ≡ get_or heads k old → head.to ≡ old.to → head.start ≡ old.start
    → head.end ≡ length bytes + length more
    → map (cut_of (bytes ++ more)) (set heads k head) ≡ extended (map (cut_of bytes) heads) more
cuts_extended bytes more from to [] k old head t within last is same start end = absurd (omega arith)
cuts_extended bytes more from to (h ∷ []) zero old head t within last is same start end =
    let whole : h.end ≡ length bytes = t.2 ∙ within in
    let cut = cut_longer bytes more h.start (omega (arith, t.0, t.1, whole)) in
    rw (same, start, end, is, whole, cut) refl
cuts_extended bytes more from to (h ∷ []) (suc k) old head t within last is same start end = absurd (omega arith)
cuts_extended bytes more from to (h ∷ g ∷ hs) zero old head t within last is same start end = absurd (omega arith)
cuts_extended bytes more from to (h ∷ g ∷ hs) (suc k) old head t within last is same start end =
    let ends = Tiles-le h.end to (g ∷ hs) t.2 in
    let cut = cut_stays bytes more h.start h.end (omega (arith, t.0, t.1)) (omega (arith, ends, within)) in
    rw (cut, cuts_extended bytes more h.end to (g ∷ hs) k old head t.2 within (omega arith) is same start end) refl

-- the datagram of a head
pub slice_get-cuts : (bytes : List ℕ) (heads : List Head) (k : ℕ) (head : Head) → k < length heads → head ≡ get_or heads k head
    → slice_get (map (cut_of bytes) heads) k ≡ Some (cut_of bytes head)
slice_get-cuts bytes heads k head inside is =
    let within : k < length (map (cut_of bytes) heads) = omega (arith, length-map heads (cut_of bytes)) in
    slice_get-get_or (map (cut_of bytes) heads) k (cut_of bytes head) within
    ∙ ap (λ (d : Datagram). Some d) (get_or-map (cut_of bytes) heads k head (cut_of bytes head) inside ∙ ap (cut_of bytes) (sym is))
