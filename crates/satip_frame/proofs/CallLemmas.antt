-- What a list of calls of a framer comes to.
use Rattle.std.proofs.Common.{ℕ, List, [], ◌∷◌, ◌++◌, refl, sym, subst, append_assoc, append-nil, IsSomeAnd}
use Rattle.satip_frame.specs.declared.framing.Break.TheVariants.{Bad, TooLong}
use Rattle.satip_frame.specs.Said.{Said}
use Rattle.satip_frame.specs.Stream.{Tail, Unfinished, Broken, Messages, Leads}
use Rattle.satip_frame.specs.Held.{Held, new_framer, step_of, Tells}
use Rattle.satip_frame.specs.Calls.{Call, Took, Found, Told, Does, DoEach, DoAll, fed, handed, HandsOutFirst, MissesNothing}
use Rattle.satip_frame.proofs.FramerLemmas.{leads_on}

told_leads : (tail : Tail) (text : List ℕ) (ms : List Said) (new : Held) → Tells text ms new (step_of tail) → Leads text ms new.bytes
told_leads Unfinished text ms new told = told.1
told_leads (Broken Bad) text ms new told = told.1
told_leads (Broken TooLong) text ms new told = told.1

told_messages : (tail : Tail) (text : List ℕ) (ms : List Said) (new : Held) → Tells text ms new (step_of tail) → Messages text ms tail
told_messages Unfinished text ms new told = told.0
told_messages (Broken Bad) text ms new told = told.0
told_messages (Broken TooLong) text ms new told = told.0

-- a text that was read up to what is held goes on with what the calls took and found
pub leads_by_calls : (old : Held) (calls : List Call) (new : Held) → DoAll old calls new → (text : List ℕ) (ms : List Said)
    → Leads text ms old.bytes → Leads (text ++ fed calls) (ms ++ handed calls) new.bytes
leads_by_calls old [] new same text ms leads =
    subst (λ t. Leads t (ms ++ []) new.bytes) (sym (append-nil text))
    (subst (λ l. Leads text l new.bytes) (sym (append-nil ms)) (subst (λ (h : Held). Leads text ms h.bytes) same leads))
leads_by_calls old (Took bytes ∷ calls) new (next, does, all) text ms leads =
    subst (λ t. Leads t (ms ++ handed calls) new.bytes) (append_assoc text bytes (fed calls))
    (leads_by_calls next calls new all (text ++ bytes) ms (leads_on next.bytes old.bytes bytes does text ms leads))
leads_by_calls old (Found m ∷ calls) new (next, does, all) text ms leads =
    let on : Leads text (ms ++ m ∷ []) next.bytes = subst (λ f. IsSomeAnd f (λ n. Leads text (ms ++ n ∷ []) next.bytes)) does.0 (does.1 text ms leads) in
    subst (λ l. Leads (text ++ fed calls) l new.bytes) (append_assoc ms (m ∷ []) (handed calls))
    (leads_by_calls next calls new all text (ms ++ m ∷ []) on)
leads_by_calls old (Told tail ∷ calls) new (next, does, all) text ms leads =
    leads_by_calls next calls new all text ms (told_leads tail text ms next (does text ms leads))

pub hands_out_first : HandsOutFirst
hands_out_first calls held all = (held.bytes, leads_by_calls new_framer calls held all [] [] refl)

-- what the last of a list of calls did
pub last_does : {Holder : Type 0} (does : Holder → Call → Holder → Type 0) (old : Holder) (calls : List Call) (call : Call) (new : Holder)
    → DoEach does old (calls ++ call ∷ []) new → (before : Holder) × DoEach does old calls before × does before call new
last_does does old [] call new (next, done, same) = (old, refl, subst (does old call) same done)
last_does does old (first ∷ calls) call new (next, done, all) =
    let (before, run, last) = last_does does next calls call new all in (before, (next, done, run), last)

pub misses_nothing : MissesNothing
misses_nothing calls tail held all =
    let (before, run, last) = last_does Does new_framer calls (Told tail) held all in
    told_messages tail (fed calls) (handed calls) held (last (fed calls) (handed calls) (leads_by_calls new_framer calls before run [] [] refl))
