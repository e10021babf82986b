-- Histories: lists of entries, oldest first.
use Rattle.std.specs.Prelude.{◌==◌, ℕ, Bool, true, false, List, [], ◌∷◌}
use Rattle.satip_base.specs.declared.entry.Entry.{Entry}
use Rattle.satip_base.specs.declared.entry.Taken.{Taken}

-- the entry of this caller, with this event, this answer and these contents of the out
abbrev pub entry : {E A O : Type 0} → ℕ → E → A → O → Entry E A O
entry caller event answer out = record { caller = caller; event = event; answer = answer; out = out }

-- x before the others if the test holds, else only the others
abbrev pub kept_if : {T : Type 0} → Bool → T → List T → List T
kept_if true x xs = x ∷ xs
kept_if false x xs = xs

-- the entries of caller n, in order
abbrev pub own_of : {E A O : Type 0} → ℕ → List (Entry E A O) → List (Entry E A O)
own_of n [] = []
own_of n (e ∷ es) = kept_if (e.caller == n) e (own_of n es)

-- an answered event, with its answer and the contents of the out after it
abbrev pub taken : {E A O : Type 0} → E → A → O → Taken E A O
taken event answer out = record { event = event; answer = answer; out = out }

-- answered events as entries of caller n
abbrev pub entries : {E A O : Type 0} → ℕ → List (Taken E A O) → List (Entry E A O)
entries n [] = []
entries n (t ∷ ts) = entry n t.event t.answer t.out ∷ entries n ts
