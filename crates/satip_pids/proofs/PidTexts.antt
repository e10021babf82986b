-- How PIDs with commas between them are printed one after another, and how long that is.
use Rattle.std.proofs.Common.{◌≡◌, ℕ, ◌+◌, ◌*◌, ◌<◌, ◌≤◌, List, [], ◌∷◌, ◌++◌, length, take, drop, codes, get_or, All, decimal, refl, sym, ap, ◌∙◌, length-append, append-nil, arith}
use Rattle.std.specs.List.{flat_map}
use Rattle.std.proofs.lemmas.Fmt.{length-decimal-le}
use Rattle.std.proofs.lemmas.List.{flat_map_more, take_more}
use Rattle.std.proofs.lemmas.List.Elements.{All-head, All-tail}
use Rattle.satip_pids.specs.Texts.{listed_text, next_text}

-- the first number, and then each other with a comma before it
pub listed_text-cons : (pid : ℕ) (pids : List ℕ) → listed_text (pid ∷ pids) ≡ decimal pid ++ flat_map next_text pids
unfolding listed_text
listed_text-cons pid [] = sym (append-nil (decimal pid))
listed_text-cons pid (next ∷ pids) = ap (λ rest. decimal pid ++ (44 ∷ rest)) (listed_text-cons next pids)

-- a PID has at most four digits
pub length-decimal_pid : (pid : ℕ) → pid < 8192 → length (decimal pid) ≤ 4
length-decimal_pid pid below = length-decimal-le 4 pid (omega arith) (omega arith) (omega arith)

pub length-flat_map_next : (pids : List ℕ) → All (λ pid. pid < 8192) pids → length (flat_map next_text pids) ≤ 5 * length pids
length-flat_map_next [] below = omega arith
length-flat_map_next (pid ∷ pids) below =
    let short = length-decimal_pid pid (All-head (λ pid. pid < 8192) pid pids below) in
    let rest = length-flat_map_next pids (All-tail (λ pid. pid < 8192) pid pids below) in
    let apart : length (next_text pid ++ flat_map next_text pids) ≡ length (next_text pid) + length (flat_map next_text pids) =
    length-append (next_text pid) (flat_map next_text pids) in
    omega (arith, short, rest, apart)

-- at most 256 PIDs take at most 1279 bytes
pub length-listed_text : (pids : List ℕ) → length pids ≤ 256 → All (λ pid. pid < 8192) pids → length (listed_text pids) ≤ 1279
unfolding listed_text
length-listed_text [] few below = omega arith
length-listed_text (pid ∷ pids) few below =
    let short = length-decimal_pid pid (All-head (λ pid. pid < 8192) pid pids below) in
    let rest = length-flat_map_next pids (All-tail (λ pid. pid < 8192) pid pids below) in
    omega (arith, ap length (listed_text-cons pid pids), length-append (decimal pid) (flat_map next_text pids), short, rest, few)

-- the text of no PIDs, and of one and the others
pub listed_text-nil : (pids : List ℕ) → length pids ≡ 0 → listed_text pids ≡ codes "none"
unfolding listed_text
listed_text-nil [] none = refl
listed_text-nil (pid ∷ pids) none = absurd (omega (arith, none))

pub listed_text-parts : (pids : List ℕ) → 0 < length pids → listed_text pids ≡ decimal (get_or pids 0 0) ++ flat_map next_text (drop 1 pids)
listed_text-parts [] some = absurd (omega (arith, some))
listed_text-parts (pid ∷ pids) some = listed_text-cons pid pids

-- one more comma and number
pub next_more : (pids : List ℕ) (i : ℕ) → i < length pids
    → flat_map next_text (take i pids) ++ (44 ∷ decimal (get_or pids i 0)) ≡ flat_map next_text (take (i + 1) pids)
next_more pids i within =
    flat_map_more next_text [] (take i pids) (get_or pids i 0) ∙ ap (flat_map next_text) (sym (take_more pids i 0 within))

pub ruleset steps = (length-decimal_pid)
