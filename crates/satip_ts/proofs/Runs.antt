-- What the calls of a cutter hand out, against the packets of the whole text.
use Rattle.std.proofs.Common.{ℕ, ◌≡◌, ◌<◌, List, [], ◌∷◌, ◌++◌, Option, Some, None, length, refl, sym, ap, subst, ◌∙◌, arith, append_assoc, append-nil}
use Rattle.std.specs.Option.{option_to_list}
use Rattle.satip_ts.specs.Recording.{from_sync, cut_packets}
use Rattle.satip_ts.specs.Calls.{Call, Took, Answered, Does, DoAll, fed, handed, HandsOutFirst, MissesNothing}
use Rattle.satip_ts.proofs.Sync.{length-from_sync}
use Rattle.satip_ts.proofs.Packets.{cut_packets-skip, cut_packets-short, cut_packets-first}

-- from any bytes held before the calls on
cut_packets-calls : (old : List ℕ) (calls : List Call) (new more : List ℕ) → DoAll old calls new
    → cut_packets (old ++ (fed calls ++ more)) ≡ handed calls ++ cut_packets (new ++ more)
cut_packets-calls old [] new more e = ap (λ held. cut_packets (held ++ more)) (sym e)
cut_packets-calls old (Took bytes ∷ calls) new more (held, does, rest) =
    let joined : old ++ ((bytes ++ fed calls) ++ more) ≡ held ++ (fed calls ++ more) =
    ap (λ t. old ++ t) (append_assoc bytes (fed calls) more)
    ∙ sym (append_assoc old bytes (fed calls ++ more))
    ∙ ap (λ t. t ++ (fed calls ++ more)) (sym does) in
    ap (λ t. cut_packets t) joined ∙ cut_packets-calls held calls new more rest
cut_packets-calls old (Answered None ∷ calls) new more (held, does, rest) =
    cut_packets-skip old (fed calls ++ more)
    ∙ ap (λ t. cut_packets (t ++ (fed calls ++ more))) (sym does.0)
    ∙ cut_packets-calls held calls new more rest
cut_packets-calls old (Answered (Some packet) ∷ calls) new more (held, does, rest) =
    cut_packets-first old packet held (fed calls ++ more) does.0 does.1
    ∙ ap (λ packets. packet ∷ packets) (cut_packets-calls held calls new more rest)

-- one answer
pub cut_packets-answer : (old : List ℕ) (answer : Option (List ℕ)) (new more : List ℕ) → Does old (Answered answer) new
    → cut_packets (old ++ more) ≡ option_to_list answer ++ cut_packets (new ++ more)
cut_packets-answer old None new more does = cut_packets-calls old (Answered None ∷ []) new more (new, does, refl)
cut_packets-answer old (Some packet) new more does = cut_packets-calls old (Answered (Some packet) ∷ []) new more (new, does, refl)

-- none is left after an answer None
pub cut_packets-none : (old new : List ℕ) → Does old (Answered None) new → cut_packets new ≡ []
cut_packets-none old new does =
    cut_packets-short new (omega (arith, length-from_sync new, does.1))

pub hands_out_first : HandsOutFirst
hands_out_first calls held more run = cut_packets-calls [] calls held more run

-- what was held before the last call
before_last : (old : List ℕ) (calls : List Call) (call : Call) (new : List ℕ) → DoAll old (calls ++ call ∷ []) new
    → (held : List ℕ) × DoAll old calls held × Does held call new
before_last old [] call new (held, does, same) = (old, refl, subst (λ t. Does old call t) (sym same) does)
before_last old (first ∷ calls) call new (held, does, rest) =
    let (last, runs, ends) = before_last held calls call new rest in (last, (held, does, runs), ends)

pub misses_nothing : MissesNothing
misses_nothing calls held run =
    let (last, runs, ends) = before_last [] calls (Answered None) held run in
    let short : length (from_sync last) < 188 = subst (λ t. length t < 188) ends.0 ends.1 in
    ap (λ t. cut_packets t) (sym (append-nil (fed calls)))
    ∙ hands_out_first calls last [] runs
    ∙ ap (λ t. handed calls ++ cut_packets t) (append-nil last)
    ∙ ap (λ packets. handed calls ++ packets) (cut_packets-short last short)
    ∙ append-nil (handed calls)
