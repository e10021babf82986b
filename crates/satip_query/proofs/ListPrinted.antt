-- A printed list of PIDs is read again.
use Rattle.std.proofs.Common.{◌≡◌, ℕ, suc, ◌<◌, ◌≤◌, true, false, if◌then◌else◌, List, [], ◌∷◌, ◌++◌, length, map, decimal, codes, nat_eq, nat_le, Some, Ok, Err, All, refl, sym, ap, ◌∙◌, arith, append-nil}
use Rattle.std.specs.Char.{is_ascii_digit}
use Rattle.std.specs.List.{list_all, join_with_byte, slice_split, flat_map}
use Rattle.std.specs.Str.{bytes_eq}
use Rattle.std.proofs.lemmas.Bool.{le-leb}
use Rattle.std.proofs.lemmas.Bool.Decides.{nat_tests}
use Rattle.std.proofs.lemmas.Fmt.{decimal_nonempty}
use Rattle.std.proofs.lemmas.List.Elements.{All-head, All-tail}
use Rattle.satip_pids.specs.Texts.{next_text}
use Rattle.satip_tune.specs.Pieces.{is_byte}
use Rattle.satip_tune.specs.declared.faults.ValueFault.TheVariants.{Malformed}
use Rattle.satip_tune.proofs.Printed.{list_all-decimal, number_of-decimal}
use Rattle.satip_query.specs.Printing.{AreListed, list_text}
use Rattle.satip_query.specs.Reading.{pids_of}
use Rattle.satip_query.specs.Values.{numbers_of, onto_numbers, pid_list_of, pids_within}
use Rattle.satip_query.specs.declared.queries.PidsGiven.TheVariants.{List as Listed}
use Rattle.satip_query.proofs.Clean.{AreClean, no-comma, split-join}

numbers_of-printed : (pids : List ℕ) → All (λ pid. pid < 8192) pids → numbers_of (map decimal pids) ≡ Some pids
numbers_of-printed [] below = refl
numbers_of-printed (pid ∷ pids) below =
    let here : pid < 8192 = All-head (λ pid. pid < 8192) pid pids below in
    let rest = numbers_of-printed pids (All-tail (λ pid. pid < 8192) pid pids below) in
    ap (λ found. onto_numbers found (numbers_of (map decimal pids))) (number_of-decimal 18446744073709551615 pid (omega arith) (omega arith))
    ∙ ap (λ found. onto_numbers (Some pid) found) rest

all-pids : (pids : List ℕ) → All (λ pid. pid < 8192) pids → list_all (λ pid. nat_le pid 8191) pids ≡ true
all-pids [] below = refl
all-pids (pid ∷ pids) below =
    let here : pid < 8192 = All-head (λ pid. pid < 8192) pid pids below in
    rw (le-leb pid 8191 (omega arith)) (all-pids pids (All-tail (λ pid. pid < 8192) pid pids below))

clean-numbers : (pids : List ℕ) → All (λ pid. pid < 8192) pids → AreClean 44 (map decimal pids)
clean-numbers [] below = tt
clean-numbers (pid ∷ pids) below =
    let here : pid < 8192 = All-head (λ pid. pid < 8192) pid pids below in
    (no-comma (decimal pid) (list_all-decimal pid (omega arith)), clean-numbers pids (All-tail (λ pid. pid < 8192) pid pids below))

length-map-decimal : (pids : List ℕ) → length (map decimal pids) ≡ length pids
length-map-decimal [] = refl
length-map-decimal (pid ∷ pids) = ap (λ n. suc n) (length-map-decimal pids)

pub pid_list_printed : (pids : List ℕ) → AreListed pids → pid_list_of (list_text pids) ≡ Ok pids
unfolding pid_list_of list_text
pid_list_printed [] listed = absurd (omega (arith, listed.some))
pid_list_printed (pid ∷ pids) listed =
    let below = listed.limits.below in
    let parts : slice_split (is_byte 44) (join_with_byte 44 (map decimal (pid ∷ pids))) ≡ map decimal (pid ∷ pids) =
    split-join 44 (decimal pid) (map decimal pids) (clean-numbers (pid ∷ pids) below) in
    let few : length (map decimal (pid ∷ pids)) ≤ 512 = omega (arith, length-map-decimal (pid ∷ pids), listed.limits.few) in
    ap (λ parts. if nat_le (length parts) 512 then pids_within (numbers_of parts) else Err Malformed) parts
    ∙ rw (le-leb (length (map decimal (pid ∷ pids))) 512 few)
    (ap pids_within (numbers_of-printed (pid ∷ pids) below) ∙ rw (all-pids (pid ∷ pids) below) refl)

-- the first number, and then each other with a comma before it
pub list_text-cons : (pid : ℕ) (pids : List ℕ) → list_text (pid ∷ pids) ≡ decimal pid ++ flat_map next_text pids
unfolding list_text
list_text-cons pid [] = sym (append-nil (decimal pid))
list_text-cons pid (next ∷ pids) = ap (λ rest. decimal pid ++ (44 ∷ rest)) (list_text-cons next pids)

-- a text that begins with a digit is no word
no-word : (letter : ℕ) → is_ascii_digit letter ≡ false → (xs rest word : List ℕ) → 0 < length xs → list_all is_ascii_digit xs ≡ true
    → bytes_eq (xs ++ rest) (letter ∷ word) ≡ false
no-word letter other [] rest word some digits = absurd (omega arith)
no-word letter other (x ∷ xs) rest word some digits =
    let apart : nat_eq x letter ≡ false = grind (arith, nat_tests) in
    rw apart refl

pub pids_printed : (pids : List ℕ) → AreListed pids → pids_of (list_text pids) ≡ Ok (Listed pids)
unfolding pids_of
pids_printed [] listed = absurd (omega (arith, listed.some))
pids_printed (pid ∷ pids) listed =
    let here : pid < 8192 = All-head (λ pid. pid < 8192) pid pids listed.limits.below in
    let some : 0 < length (decimal pid) = decimal_nonempty pid (omega arith) in
    let digits : list_all is_ascii_digit (decimal pid) ≡ true = list_all-decimal pid (omega arith) in
    let all : bytes_eq (list_text (pid ∷ pids)) (codes "all") ≡ false =
    ap (λ text. bytes_eq text (codes "all")) (list_text-cons pid pids) ∙ no-word 97 refl (decimal pid) _ _ some digits in
    let none : bytes_eq (list_text (pid ∷ pids)) (codes "none") ≡ false =
    ap (λ text. bytes_eq text (codes "none")) (list_text-cons pid pids) ∙ no-word 110 refl (decimal pid) _ _ some digits in
    rw (all, none, pid_list_printed (pid ∷ pids) listed) refl
