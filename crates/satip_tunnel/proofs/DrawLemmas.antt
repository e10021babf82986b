-- Draws one after another, and the events that take them.
use Rattle.std.proofs.Common.{◌≡◌, ◌∙◌, ℕ, zero, suc, ◌+◌, List, [], ◌∷◌, ◌++◌, length, length-append, arith, refl, sym, ap}
use Rattle.rand_chacha.specs.ChaCha.{ChaCha}
use Rattle.satip_base.specs.declared.network.Peer.{Peer}
use Rattle.satip_base.specs.declared.identity.Draw.{Draw}
use Rattle.satip_plain.specs.declared.events.Event.{Event}
use Rattle.satip_plain.specs.declared.events.Event.TheVariants.{Request as Asks}
use Rattle.satip_rtsp.specs.declared.requests.Request.{Request}
use Rattle.satip_worker.specs.Drawing.{draw_at, before_draw}
use Rattle.satip_tunnel.specs.Requests.{drawn_events, draws_from, TakesDraws}

draws_from-append : (d : ℕ → Draw) (n a b : ℕ) → draws_from d n (a + b) ≡ draws_from d n a ++ draws_from d (n + a) b
draws_from-append d n zero b =
    let none : 0 + b ≡ b = omega arith in
    let same : n ≡ n + 0 = omega arith in
    ap (λ (k : ℕ). draws_from d n k) none ∙ ap (λ (k : ℕ). draws_from d k b) same
draws_from-append d n (suc a) b =
    let one : suc a + b ≡ suc (a + b) = omega arith in
    let same : (n + 1) + a ≡ n + suc a = omega arith in
    ap (λ (k : ℕ). draws_from d n k) one
    ∙ ap (λ (ds : List Draw). d n ∷ ds) (draws_from-append d (n + 1) a b ∙ ap (λ (k : ℕ). draws_from d (n + 1) a ++ draws_from d k b) same)

-- no draw was taken
pub takes_none : (c : ChaCha) → TakesDraws c [] c
takes_none c = λ key stream number are.
    let same : number ≡ number + 0 = omega arith in
    (refl, are ∙ ap (λ (n : ℕ). before_draw key stream n) same)

-- the draws of one list behind those of another
pub takes_then : (a b c : ChaCha) (xs ys : List Draw) → TakesDraws a xs b → TakesDraws b ys c → TakesDraws a (xs ++ ys) c
takes_then a b c xs ys first second = λ key stream number are.
    let d : ℕ → Draw = draw_at key stream in
    let x = first key stream number are in
    let y = second key stream (number + length xs) x.1 in
    let long : length (xs ++ ys) ≡ length xs + length ys = length-append xs ys in
    let far : (number + length xs) + length ys ≡ number + length (xs ++ ys) = omega (arith, long) in (
      ap (λ (ds : List Draw). ds ++ ys) x.0 ∙ ap (λ (ds : List Draw). draws_from d number (length xs) ++ ds) y.0
          ∙ sym (draws_from-append d number (length xs) (length ys)) ∙ ap (λ (n : ℕ). draws_from d number n) (sym long),
      y.1 ∙ ap (λ (n : ℕ). before_draw key stream n) far,
    )

-- one request more takes one draw more
pub drawn_next : (peer : Peer) (draws : List Draw) (draw : Draw) (made : List Request) (request : Request) → length draws ≡ length made
    → drawn_events peer (draws ++ draw ∷ []) (made ++ request ∷ []) ≡ drawn_events peer draws made ++ Asks peer draw request ∷ []
drawn_next peer [] draw [] request as_many = refl
drawn_next peer [] draw (r ∷ made) request as_many = absurd (omega (arith, as_many))
drawn_next peer (d ∷ draws) draw [] request as_many = absurd (omega (arith, as_many))
drawn_next peer (d ∷ draws) draw (r ∷ made) request as_many =
    ap (λ (es : List Event). Asks peer d r ∷ es) (drawn_next peer draws draw made request (omega (arith, as_many)))

-- a further draw makes no event
pub drawn_over : (peer : Peer) (draws : List Draw) (draw : Draw) (made : List Request) → length draws ≡ length made
    → drawn_events peer (draws ++ draw ∷ []) made ≡ drawn_events peer draws made
drawn_over peer [] draw [] as_many = refl
drawn_over peer [] draw (r ∷ made) as_many = absurd (omega (arith, as_many))
drawn_over peer (d ∷ draws) draw [] as_many = absurd (omega (arith, as_many))
drawn_over peer (d ∷ draws) draw (r ∷ made) as_many =
    ap (λ (es : List Event). Asks peer d r ∷ es) (drawn_over peer draws draw made (omega (arith, as_many)))

-- there is one more
pub length_push : {A : Type 0} (xs : List A) (x : A) → length (xs ++ x ∷ []) ≡ length xs + 1
length_push xs x = omega (arith, length-append xs (x ∷ []))

-- one draw was taken
pub takes_one : (before after : ChaCha) (draw : Draw)
    → ((key : List ℕ) (stream number : ℕ) → before ≡ before_draw key stream number → draw ≡ draw_at key stream number)
    → ((key : List ℕ) (stream number : ℕ) → before ≡ before_draw key stream number → after ≡ before_draw key stream (number + 1))
    → TakesDraws before (draw ∷ []) after
takes_one before after draw drawn next = λ key stream number are.
    (ap (λ (d : Draw). d ∷ []) (drawn key stream number are), next key stream number are)
