-- Reading a list of PIDs, part by part.
use Rattle.std.proofs.Common.{◌≡◌, ℕ, ◌<◌, ◌≤◌, Bool, true, false, ◌&&◌, if◌then◌else◌, nat_le, List, [], ◌∷◌, ◌++◌, length, Option, None, Some, Result, Ok, Err, MatchBool, refl, arith, ap, sym, ◌∙◌, append_assoc, Bor, ◌+◌}
use Rattle.std.specs.List.{list_all, slice_split}
use Rattle.std.proofs.lemmas.Bool.{le-leb, lt-leb}
use Rattle.satip_base.specs.Numbers.{number_of}
use Rattle.satip_tune.specs.Pieces.{is_byte, pieces_left}
use Rattle.satip_tune.specs.declared.faults.ValueFault.{ValueFault}
use Rattle.satip_tune.specs.declared.faults.ValueFault.TheVariants.{Malformed, NotAllowed}
use Rattle.satip_query.specs.Reading.{result_map}
use Rattle.satip_query.specs.Values.{numbers_of, onto_numbers, pid_list_of, pids_within}

-- the PIDs of a list and of the numbers behind it, where the list has all before them
abbrev pub pids_from : List ℕ → Bool → Option (List ℕ) → Result (List ℕ) ValueFault
pids_from list are None = Err Malformed
pids_from list false (Some more) = Err NotAllowed
pids_from list true (Some more) = result_map (λ pids. list ++ pids) (pids_within (Some more))

pub pids_from-start : (more : Option (List ℕ)) → pids_within more ≡ pids_from [] true more
pids_from-start None = refl
pids_from-start (Some more) =
    elim (list_all (λ pid. nat_le pid 8191) more) as (λ b. (if b then Ok more else Err NotAllowed)
    ≡ result_map (λ pids. [] ++ pids) (if b then Ok more else Err NotAllowed)) [ true ↦ refl | false ↦ refl ]

append-step : (list after more : List ℕ) (n : ℕ) (all : Bool) → after ≡ list ++ n ∷ []
    → result_map (λ (pids : List ℕ). list ++ pids) (if all then Ok (n ∷ more) else Err NotAllowed)
    ≡ result_map (λ (pids : List ℕ). after ++ pids) (if all then Ok more else Err NotAllowed)
append-step list after more n true e = ap (λ (l : List ℕ). Ok l) (sym (ap (λ (l : List ℕ). l ++ more) e ∙ append_assoc list (n ∷ []) more))
append-step list after more n false e = refl

pub pids_from-step : (list after : List ℕ) (are kept : Bool) (n : ℕ) (more : Option (List ℕ)) → kept ≡ nat_le n 8191
    → MatchBool kept (after ≡ list ++ n ∷ []) (after ≡ list)
    → pids_from list are (onto_numbers (Some n) more) ≡ pids_from after (kept && are) more
pids_from-step list after are kept n None is pushed = refl
pids_from-step list after false true n (Some more) is pushed = refl
pids_from-step list after false false n (Some more) is pushed = refl
pids_from-step list after true true n (Some more) is pushed =
    rw (← is) (append-step list after more n (list_all (λ pid. nat_le pid 8191) more) pushed)
pids_from-step list after true false n (Some more) is pushed = rw (← is) refl

-- the whole list was read
pub pid_list_of-read : (text list : List ℕ) (are : Bool) → length (slice_split (is_byte 44) text) ≤ 512
    → pids_within (numbers_of (slice_split (is_byte 44) text)) ≡ pids_from list are (Some [])
    → pid_list_of text ≡ pids_from list are (Some [])
unfolding pid_list_of
pid_list_of-read text list are short e = rw (le-leb (length (slice_split (is_byte 44) text)) 512 short) e

-- a part is no number
pub pid_list_of-malformed : (text list : List ℕ) (are : Bool)
    → pids_within (numbers_of (slice_split (is_byte 44) text)) ≡ pids_from list are None
    → pid_list_of text ≡ Err Malformed
unfolding pid_list_of
pid_list_of-malformed text list are e =
    elim (nat_le (length (slice_split (is_byte 44) text)) 512)
    as (λ b. (if b then pids_within (numbers_of (slice_split (is_byte 44) text)) else Err Malformed) ≡ Err Malformed)
    [ true ↦ e | false ↦ refl ]

-- there are too many
pub pid_list_of-long : (text : List ℕ) → 512 < length (slice_split (is_byte 44) text) → pid_list_of text ≡ Err Malformed
unfolding pid_list_of
pid_list_of-long text long = rw (lt-leb (length (slice_split (is_byte 44) text)) 512 long) refl

-- one part more was cut off
cut-left : (part : List ℕ) (rest : Bor (List ℕ)) (left next : Option (Bor (List ℕ))) → left ≡ Some rest
    → slice_split (is_byte 44) rest.now ≡ part ∷ pieces_left 44 next → pieces_left 44 left ≡ part ∷ pieces_left 44 next
cut-left part rest left next at_rest pieces = ap (pieces_left 44) at_rest ∙ pieces

pub count-step : (count all : ℕ) (part : List ℕ) (rest : Bor (List ℕ)) (left next : Option (Bor (List ℕ)))
    → count + length (pieces_left 44 left) ≡ all → left ≡ Some rest
    → slice_split (is_byte 44) rest.now ≡ part ∷ pieces_left 44 next → count + 1 + length (pieces_left 44 next) ≡ all
count-step count all part rest left next counted at_rest pieces =
    let e : length (pieces_left 44 left) ≡ length (part ∷ pieces_left 44 next) = ap length (cut-left part rest left next at_rest pieces) in
    omega (arith, e)

pub list-step : (whole : Result (List ℕ) ValueFault) (list after part : List ℕ) (are kept : Bool) (n : ℕ) (rest : Bor (List ℕ))
    (left next : Option (Bor (List ℕ)))
    → whole ≡ pids_from list are (numbers_of (pieces_left 44 left)) → left ≡ Some rest
    → slice_split (is_byte 44) rest.now ≡ part ∷ pieces_left 44 next → Some n ≡ number_of 18446744073709551615 part
    → kept ≡ nat_le n 8191 → MatchBool kept (after ≡ list ++ n ∷ []) (after ≡ list)
    → whole ≡ pids_from after (kept && are) (numbers_of (pieces_left 44 next))
list-step whole list after part are kept n rest left next so_far at_rest pieces number is pushed =
    so_far ∙ ap (λ parts. pids_from list are (numbers_of parts)) (cut-left part rest left next at_rest pieces)
    ∙ ap (λ found. pids_from list are (onto_numbers found (numbers_of (pieces_left 44 next)))) (sym number)
    ∙ pids_from-step list after are kept n (numbers_of (pieces_left 44 next)) is pushed
