-- What a list of calls of a parter comes to.
use Rattle.std.proofs.Common.{ℕ, List, [], ◌∷◌, ◌++◌, refl, sym, subst, append_assoc, append-nil, IsSomeAnd}
use Rattle.satip_frame.specs.declared.framing.Break.TheVariants.{Bad, TooLong}
use Rattle.satip_frame.specs.Said.{Said}
use Rattle.satip_frame.specs.Stream.{Tail, Unfinished, Broken}
use Rattle.satip_frame.specs.Held.{step_of}
use Rattle.satip_rtsp_interleaved.specs.Frames.{inside}
use Rattle.satip_rtsp_interleaved.specs.Parts.{Parts}
use Rattle.satip_rtsp_interleaved.specs.Held.{Held, new_parter, IsReadUpTo, Tells}
use Rattle.satip_frame.specs.Calls.{Call, Took, Found, Told, fed, handed}
use Rattle.satip_frame.proofs.CallLemmas.{last_does}
use Rattle.satip_rtsp_interleaved.specs.Calls.{Does, DoAll, PartsLaw}
use Rattle.satip_rtsp_interleaved.proofs.ParterLemmas.{feed_follows}

told_read : (tail : Tail) (text : List ℕ) (ms : List Said) (new : Held) → Tells text ms new (step_of tail) → IsReadUpTo text ms new
told_read Unfinished text ms new told = told.1
told_read (Broken Bad) text ms new told = told.1
told_read (Broken TooLong) text ms new told = told.1

told_parts : (tail : Tail) (text : List ℕ) (ms : List Said) (new : Held) → Tells text ms new (step_of tail) → Parts text ms tail
told_parts Unfinished text ms new told = told.0
told_parts (Broken Bad) text ms new told = told.0
told_parts (Broken TooLong) text ms new told = told.0

-- a text that was read up to what is held goes on with what the calls took and found
pub read_by_calls : (old : Held) (calls : List Call) (new : Held) → DoAll old calls new → (text : List ℕ) (ms : List Said)
    → IsReadUpTo text ms old → IsReadUpTo (text ++ fed calls) (ms ++ handed calls) new
read_by_calls old [] new same text ms reads =
    subst (λ t. IsReadUpTo t (ms ++ []) new) (sym (append-nil text))
    (subst (λ l. IsReadUpTo text l new) (sym (append-nil ms)) (subst (λ (h : Held). IsReadUpTo text ms h) same reads))
read_by_calls old (Took bytes ∷ calls) new (next, does, all) text ms reads =
    subst (λ t. IsReadUpTo t (ms ++ handed calls) new) (append_assoc text bytes (fed calls))
    (read_by_calls next calls new all (text ++ bytes) ms
    (feed_follows old.to_come next.to_come old.bytes next.bytes bytes does.1 does.0 text ms reads))
read_by_calls old (Found m ∷ calls) new (next, does, all) text ms reads =
    let on : IsReadUpTo text (ms ++ m ∷ []) next = subst (λ f. IsSomeAnd f (λ n. IsReadUpTo text (ms ++ n ∷ []) next)) does.0 (does.1 text ms reads) in
    subst (λ l. IsReadUpTo (text ++ fed calls) l new) (append_assoc ms (m ∷ []) (handed calls))
    (read_by_calls next calls new all text (ms ++ m ∷ []) on)
read_by_calls old (Told tail ∷ calls) new (next, does, all) text ms reads =
    read_by_calls next calls new all text ms (told_read tail text ms next (does text ms reads))

pub parts_hold : PartsLaw
parts_hold = record {
  first = λ calls held all. (inside held.to_come, held.bytes, read_by_calls new_parter calls held all [] [] (λ more. refl));
  complete = λ calls tail held all.
      let (before, run, last) = last_does Does new_parter calls (Told tail) held all in
      told_parts tail (fed calls) (handed calls) held (last (fed calls) (handed calls) (read_by_calls new_parter calls before run [] [] (λ more. refl)));
}
