-- What one request comes to on the course of a connection.
use Rattle.std.proofs.Common.{◌≡◌, ◌≢◌, ◌∙◌, ℕ, ◌+◌, ◌*◌, ◌/◌, ◌%◌, ◌<◌, ◌≤◌, Bool, true, false, List, [], ◌∷◌, ◌++◌, append-nil, length, map, arith, sym, ap, subst, inl, inr, Option, Some, None, IsSomeAnd}
use Rattle.std.proofs.lemmas.List.{map_push}
use Rattle.rand_chacha.specs.ChaCha.{ChaCha}
use Rattle.satip_rtsp_interleaved.specs.Requests.{asked_by_tunnel}
use Rattle.satip_frame.specs.declared.framing.Break.{Break}
use Rattle.satip_frame.specs.declared.framing.Step.TheVariants.{Message}
use Rattle.satip_frame.specs.Said.{Said}
use Rattle.satip_frame.specs.Stream.{Broken as broken_tail}
use Rattle.satip_frame.proofs.StreamLemmas.{begins_some}
use Rattle.satip_rtsp_interleaved.specs.Parts.{Parts}
use Rattle.satip_rtsp_interleaved.specs.Frames.{Between, inside, behind}
use Rattle.satip_rtsp_interleaved.specs.Held.{Held, IsReadUpTo, Tells}
use Rattle.satip_rtsp_interleaved.proofs.FrameLemmas.{behind_shorter}
use Rattle.satip_plain.specs.declared.events.Event.TheVariants.{Request as Asks}
use Rattle.satip_rtsp.specs.declared.requests.Request.{Request}
use Rattle.satip_rtsp.specs.Asked.{broken_request}
use Rattle.satip_plain.specs.Suits.{closes}
use Rattle.satip_world.specs.Lines.{Line}
use Rattle.satip_tunnel.specs.declared.ends.TunnelEnd.TheVariants.{Broken as end_broken}
use Rattle.satip_tunnel.specs.declared.ends.Way.{Way}
use Rattle.satip_tunnel.specs.declared.ends.Way.TheVariants.{On, Broken, Lost, Spent}
use Rattle.satip_tunnel.specs.Walk.{Free, lane_peer}
use Rattle.satip_tunnel.specs.Requests.{AsksInParts}
use Rattle.satip_tunnel.specs.Seats.{Seat, conn_at}
use Rattle.satip_tunnel.specs.Exchanges.{Answers, Exchanges}
use Rattle.satip_tunnel.specs.Hearing.{Course, Stands, HasClosed, MadeFirst, HasLost, HasStopped, talk_at}
use Rattle.satip_tunnel.proofs.SuitLemmas.{broken_closes}
use Rattle.satip_tunnel.proofs.HearingLemmas.{AsksBehind, asks_first, asks_next, asks_all, stands_next, closes_text, breaks, loses, stops_behind, stops_before}

-- the value that is there
some_value : {A : Type 0} (found : Option A) (P : A → Type 0) → IsSomeAnd found P → (x : A) × P x
some_value None P p = absurd p
some_value (Some x) P p = (x, p)

-- what holds of the value that is there
some_both : {A : Type 0} (found : Option A) (P Q : A → Type 0) → IsSomeAnd found P → IsSomeAnd found Q → (x : A) × P x × Q x
some_both None P Q p q = absurd p
some_both (Some x) P Q p q = (x, p, q)

-- what a text asks before a request, which is the next that it asks
record AsksNext (text : List ℕ) (made : List Request) (request : Request) : Type 0 where
  before : AsksBehind text made
  more : before.left ≢ []
  behind : AsksBehind text (made ++ request ∷ [])

asks_message : (text : List ℕ) (messages : List Said) (said : Said) (next : Held) (request : Request) → request ≡ asked_by_tunnel said
    → IsReadUpTo text (messages ++ said ∷ []) next → AsksNext text (map asked_by_tunnel messages) request
asks_message text messages said next request is leads =
    let before = asks_next text messages said next leads in
    let whole : map asked_by_tunnel (messages ++ said ∷ []) ≡ map asked_by_tunnel messages ++ request ∷ [] =
    map_push asked_by_tunnel messages said ∙ ap (λ (r : Request). map asked_by_tunnel messages ++ r ∷ []) (sym is) in
    let P : List Request → Type 0 = λ rs. AsksBehind text rs in
    record { before = before.0; more = before.1; behind = subst P whole (asks_first text (messages ++ said ∷ []) next leads) }

asks_closing : (text : List ℕ) (messages : List Said) (cause : Break) (request : Request) → request ≡ broken_request cause
    → Parts text messages (broken_tail cause) → AsksNext text (map asked_by_tunnel messages) request
asks_closing text messages cause request is read =
    let made : List Request = map asked_by_tunnel messages in
    let all = asks_all text messages (broken_tail cause) read in
    let whole : made ++ broken_request cause ∷ [] ≡ (made ++ request ∷ []) ++ [] =
    ap (λ (r : Request). made ++ r ∷ []) (sym is) ∙ sym (append-nil (made ++ request ∷ [])) in
    let P : List Request → Type 0 = λ rs. AsksInParts text rs in
    record {
      before = record { left = broken_request cause ∷ []; asks = all };
      more = λ e. cc e;
      behind = record { left = []; asks = subst P whole all };
    }

module _ (tells : Type 0) (course : Course) (o n : Seat) (l m : Line) (before after : ChaCha) (received text : List ℕ) (messages : List Said)
    (parter : Held) (lane : ℕ) (request : Request) (same : course.lane ≡ lane)
    (stands : Stands tells course (talk_at o l before) received text messages parter) where
  -- on this course
  exchange_here : (way : Way) → Exchanges tells lane before after (conn_at o l) (conn_at n m) request way → Exchanges tells course.lane before after (conn_at o l) (conn_at n m) request way
  exchange_here way e =
      let P : ℕ → Type 0 = λ x. Exchanges tells x before after (conn_at o l) (conn_at n m) request way in
      subst P (sym same) e

  next_broken : AsksNext text (map asked_by_tunnel messages) request → Exchanges tells lane before after (conn_at o l) (conn_at n m) request Broken
      → MadeFirst tells course (talk_at n m after) received text end_broken
  next_broken asks x =
      let e = exchange_here Broken x in
      breaks tells course o n l m before after received text messages parter stands e.draw e.takes request (closes request.refusal) asks.behind e.comes

  next_lost : AsksNext text (map asked_by_tunnel messages) request → Exchanges tells lane before after (conn_at o l) (conn_at n m) request Lost
      → HasLost tells course (talk_at n m after) received text
  next_lost asks x =
      let e = exchange_here Lost x in
      loses tells course o n l m before after received text messages parter stands e.draw e.takes request asks.behind e.comes

  next_stopped : AsksNext text (map asked_by_tunnel messages) request → Exchanges tells lane before after (conn_at o l) (conn_at n m) request Spent
      → HasStopped tells course (talk_at n m after) received text
  next_stopped asks x =
      let e = exchange_here Spent x in
      elim e.comes [
        | inl unasked ↦ stops_before tells course o n l m before after received text messages parter stands e.draw e.takes request asks.before asks.more unasked
        | inr answered ↦ stops_behind tells course o n l m before after received text messages parter stands e.draw e.takes request (closes request.refusal)
            asks.behind answered
      ]

  -- ---- what is no message

  module _ (cause : Break) (is : request ≡ broken_request cause) (read : Parts text messages (broken_tail cause)) where
    pub closing_on : Exchanges tells lane before after (conn_at o l) (conn_at n m) request On → HasClosed tells course (talk_at n m after) received text
    closing_on x =
        let e = exchange_here On x in
        let B : Bool → Type 0 = λ b. Answers tells course.lane (conn_at o l) (conn_at n m) (Asks (lane_peer course.lane) e.draw request) b Free in
        let over : closes request.refusal ≡ true = ap (λ (r : Request). closes r.refusal) is ∙ broken_closes cause in
        closes_text tells course o n l m before after received text messages parter stands e.draw e.takes request cause is read (subst B over e.comes)

    pub closing_broken : Exchanges tells lane before after (conn_at o l) (conn_at n m) request Broken → MadeFirst tells course (talk_at n m after) received text end_broken
    closing_broken x = next_broken (asks_closing text messages cause request is read) x

    pub closing_lost : Exchanges tells lane before after (conn_at o l) (conn_at n m) request Lost → HasLost tells course (talk_at n m after) received text
    closing_lost x = next_lost (asks_closing text messages cause request is read) x

    pub closing_stopped : Exchanges tells lane before after (conn_at o l) (conn_at n m) request Spent → HasStopped tells course (talk_at n m after) received text
    closing_stopped x = next_stopped (asks_closing text messages cause request is read) x

  -- ---- a message that was found

  module _ (next : Held) (leads : IsSomeAnd next.found (λ said. IsReadUpTo text (messages ++ said ∷ []) next))
      (is : IsSomeAnd next.found (λ said. request ≡ asked_by_tunnel said)) where
    pub message_on : closes request.refusal ≡ false → Exchanges tells lane before after (conn_at o l) (conn_at n m) request On
        → (answered : List Said) × Stands tells course (talk_at n m after) received text answered next
    message_on whole x =
        let e = exchange_here On x in
        let found = some_both next.found _ _ leads is in
        let B : Bool → Type 0 = λ b. Answers tells course.lane (conn_at o l) (conn_at n m) (Asks (lane_peer course.lane) e.draw request) b Free in (
          messages ++ found.0 ∷ [],
          stands_next tells course o n l m before after received text messages parter stands e.draw e.takes request found.0 next found.2 found.1
              (subst B whole e.comes),
        )

    asks_found : AsksNext text (map asked_by_tunnel messages) request
    asks_found =
        let found = some_both next.found _ _ leads is in
        asks_message text messages found.0 next request found.2 found.1

    pub message_broken : Exchanges tells lane before after (conn_at o l) (conn_at n m) request Broken → MadeFirst tells course (talk_at n m after) received text end_broken
    message_broken x = next_broken asks_found x

    pub message_lost : Exchanges tells lane before after (conn_at o l) (conn_at n m) request Lost → HasLost tells course (talk_at n m after) received text
    message_lost x = next_lost asks_found x

    pub message_stopped : Exchanges tells lane before after (conn_at o l) (conn_at n m) request Spent → HasStopped tells course (talk_at n m after) received text
    message_stopped x = next_stopped asks_found x

-- a message takes some of what the parter holds
pub message_takes : (old new : Held) → ((text : List ℕ) (ms : List Said) → IsReadUpTo text ms old → Tells text ms new Message)
    → length (behind (inside new.to_come) new.bytes) < length (behind (inside old.to_come) old.bytes)
message_takes old new told =
    let n : ℕ = old.to_come in
    let text : List ℕ = 36 ∷ 0 ∷ (n / 256) ∷ (n % 256) ∷ old.bytes in
    let sum : n / 256 * 256 + n % 256 ≡ n = omega arith in
    let reads : IsReadUpTo text [] old = λ more. ap (λ (k : ℕ). behind (inside k) (old.bytes ++ more)) sum in
    let here : behind Between text ≡ behind (inside n) old.bytes = ap (λ (k : ℕ). behind (inside k) old.bytes) sum in
    let found = some_value new.found (λ (m : Said). IsReadUpTo text ([] ++ m ∷ []) new) (told text [] reads) in
    let rest : List ℕ = found.1.0 in
    let shorter : length rest < length (behind Between text) = begins_some found.1.1 in
    let on : behind Between rest ≡ behind (inside new.to_come) new.bytes =
    ap (λ (t : List ℕ). behind Between t) (sym (append-nil rest)) ∙ found.1.2 [] ∙ ap (λ (t : List ℕ). behind (inside new.to_come) t) (append-nil new.bytes) in
    let few : length (behind Between rest) ≤ length rest = behind_shorter Between rest in
    let a : length (behind Between rest) ≡ length (behind (inside new.to_come) new.bytes) = ap (λ (t : List ℕ). length t) on in
    let b : length (behind Between text) ≡ length (behind (inside n) old.bytes) = ap (λ (t : List ℕ). length t) here in
    omega (arith, shorter, few, a, b)
