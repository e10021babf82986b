-- Replies one after another, and what was sent of them.
use Rattle.std.proofs.Common.{◌≡◌, ℕ, ◌+◌, List, [], ◌∷◌, ◌++◌, length, append_assoc, append-nil, refl, sym, ◌∙◌, ap, subst, arith, suc}
use Rattle.satip_base.specs.Streams.{Drain, Began, PutAll, FailedToPut}
use Rattle.satip_rtsp.specs.declared.requests.Request.{Request}
use Rattle.satip_rtsp.specs.Asked.{asked, broken_request}
use Rattle.satip_frame.specs.Asking.{AsksFirst, AsksNext, AsksLast, AsksMore}
use Rattle.satip_frame.proofs.TextLemmas.{nothing_asked, more_came, all_with_last, all_is_more, first_is_less}
use Rattle.satip_plain.specs.declared.events.Event.{Event}
use Rattle.satip_plain.specs.State.{State}
use Rattle.satip_plain.specs.Steps.{step}
use Rattle.satip_talk_command.specs.Talk.{talk_config, start, events_from, events_of, event_of, replies, after, replies_to, talk_replies, PartlyAnswered}
use Rattle.satip_talk_command.specs.Talking.{HasAnswered, next_reply}
use Rattle.satip_talk_command.specs.Gathering.{SentBut, GatheredAll}
use Rattle.satip_talk_command.specs.Hearing.{Replied, Stands, Listens, HasFailed, Hears}
use Rattle.satip_talk_command.specs.declared.conversation.Heard.{Heard}
use Rattle.satip_talk_command.specs.declared.conversation.Heard.TheVariants as heards
use Rattle.satip_talk_command.proofs.GatherLemmas.{began_longer, sent_began, sent_more, sent_part_more, sent_flushed, sent_part}
use Rattle.satip_talk_command.specs.declared.talker.Talker.{Talker}

-- the events of one list of requests after another
events_from-append : (k : ℕ) (xs ys : List Request) → events_from k (xs ++ ys) ≡ events_from k xs ++ events_from (k + length xs) ys
events_from-append k [] ys = let e : k ≡ k + 0 = omega arith in ap (λ (n : ℕ). events_from n ys) e
events_from-append k (x ∷ xs) ys =
    let e : (k + 1) + length xs ≡ k + suc (length xs) = omega arith in
    ap (λ (rest : List Event). event_of k x ∷ rest)
    (events_from-append (k + 1) xs ys ∙ ap (λ (n : ℕ). events_from (k + 1) xs ++ events_from n ys) e)

-- the replies to one list of events after another
replies-append : (state : State) (xs ys : List Event) → replies state (xs ++ ys) ≡ replies state xs ++ replies (after state xs) ys
replies-append state [] ys = refl
replies-append state (x ∷ xs) ys =
    ap (λ (rest : List ℕ). (step talk_config state x).reply ++ rest) (replies-append (step talk_config state x).state xs ys)
    ∙ sym (append_assoc (step talk_config state x).reply (replies (step talk_config state x).state xs) (replies (after (step talk_config state x).state xs) ys))

-- the state after one list of events after another
after-append : (state : State) (xs ys : List Event) → after state (xs ++ ys) ≡ after (after state xs) ys
after-append state [] ys = refl
after-append state (x ∷ xs) ys = after-append (step talk_config state x).state xs ys

-- the replies to further requests
replies_more : (xs ys : List Request)
    → replies_to (xs ++ ys) ≡ replies_to xs ++ replies (after start (events_of xs)) (events_from (1 + length xs) ys)
replies_more xs ys =
    ap (λ (events : List Event). replies start events) (events_from-append 1 xs ys)
    ∙ replies-append start (events_of xs) (events_from (1 + length xs) ys)

-- the replies to one more request
replies_push : (xs : List Request) (x : Request) → replies_to (xs ++ x ∷ []) ≡ replies_to xs ++ next_reply xs x
replies_push xs x =
    let e : 1 + length xs ≡ length xs + 1 = omega arith in
    replies_more xs (x ∷ [])
    ∙ ap (λ (rest : List ℕ). replies_to xs ++ rest)
    (append-nil (step talk_config (after start (events_of xs)) (event_of (1 + length xs) x)).reply
    ∙ ap (λ (k : ℕ). (step talk_config (after start (events_of xs)) (event_of k x)).reply) e)

-- the state behind one more request
pub after_push : (xs : List Request) (x : Request)
    → after start (events_of (xs ++ x ∷ [])) ≡ (step talk_config (after start (events_of xs)) (event_of (length xs + 1) x)).state
after_push xs x =
    let e : 1 + length xs ≡ length xs + 1 = omega arith in
    ap (λ (events : List Event). after start events) (events_from-append 1 xs (x ∷ []))
    ∙ after-append start (events_of xs) (event_of (1 + length xs) x ∷ [])
    ∙ ap (λ (k : ℕ). (step talk_config (after start (events_of xs)) (event_of k x)).state) e

-- one more request was answered
sent_one : (tells : Type 0) (o m n : Drain) (old new : List ℕ) (xs : List Request) (x : Request)
    → (tells → SentBut o.sent m.sent old (replies_to xs)) → GatheredAll tells m n old new (next_reply xs x)
    → tells → SentBut o.sent n.sent new (replies_to (xs ++ x ∷ []))
sent_one tells o m n old new xs x before gathered told =
    rw (replies_push xs x) (
    sent_more o.sent m.sent n.sent old new (replies_to xs) (next_reply xs x) (before told) (gathered.content told))

-- one more request was answered in part
sent_one_part : (tells : Type 0) (o m n : Drain) (old : List ℕ) (xs : List Request) (x : Request)
    → (tells → SentBut o.sent m.sent old (replies_to xs)) → FailedToPut tells m n (old ++ next_reply xs x)
    → tells → Began o.sent n.sent (replies_to (xs ++ x ∷ []))
sent_one_part tells o m n old xs x before put told =
    rw (replies_push xs x) (
    sent_part_more o.sent m.sent n.sent old (replies_to xs) (next_reply xs x) (before told) (put.content told))

-- one more request was answered
pub replied_next : (tells : Type 0) (o m n : Drain) (old new : List ℕ) (requests : List Request) (request : Request) (talker later : Talker)
    → Replied tells o m old requests talker → HasAnswered later (requests ++ request ∷ [])
    → GatheredAll tells m n old new (next_reply requests request) → Replied tells o n new (requests ++ request ∷ []) later
replied_next tells o m n old new requests request talker later replied answered gathered = record {
  answered = answered;
  faults = gathered.faults ∙ replied.faults;
  sent = sent_one tells o m n old new requests request replied.sent gathered;
}

-- a beginning of the replies to some of what the text asks is one of the replies to all
part_of_more : (tells : Type 0) (before now text : List ℕ) (requests : List Request) → AsksMore asked broken_request text requests
    → (tells → Began before now (replies_to requests)) → PartlyAnswered tells before now text
part_of_more tells before now text requests more began =
    let behind = replies (after start (events_of requests)) (events_from (1 + length requests) more.others) in
    let all : talk_replies more.asks.messages more.asks.tail ≡ replies_to requests ++ behind =
    ap (λ (rs : List Request). replies_to rs) (sym more.asks.requests ∙ more.longer) ∙ replies_more requests more.others in
    let P : List ℕ → Type 0 = λ rs. Began before now rs in
    record {
      messages = more.asks.messages;
      tail = more.asks.tail;
      read = more.asks.read;
      sent = λ told. subst P (sym all) (began_longer before now (replies_to requests) behind (began told));
    }

-- what was sent is a beginning of the replies
pub part_of_first : (tells : Type 0) (o n : Drain) (waiting text rest : List ℕ) (requests : List Request) (talker : Talker)
    → AsksFirst asked text requests rest → Replied tells o n waiting requests talker → PartlyAnswered tells o.sent n.sent text
part_of_first tells o n waiting text rest requests talker first replied =
    part_of_more tells o.sent n.sent text requests (first_is_less asked broken_request text requests rest first)
    (λ told. sent_began o.sent n.sent waiting (replies_to requests) (replied.sent told))

-- nothing is a beginning
pub part_of_none : (tells : Type 0) (before now : List ℕ) → (tells → Began before now []) → PartlyAnswered tells before now []
part_of_none tells before now began =
    part_of_more tells before now [] [] (first_is_less asked broken_request [] [] [] (nothing_asked asked).first) began

-- the reply to one more request failed
pub reply_failed : (tells : Type 0) (o m n : Drain) (old text : List ℕ) (requests : List Request) (request : Request) (talker : Talker)
    → AsksMore asked broken_request text (requests ++ request ∷ []) → Replied tells o m old requests talker
    → FailedToPut tells m n (old ++ next_reply requests request) → HasFailed tells o n text
reply_failed tells o m n old text requests request talker more replied put = record {
  faults = rw (← replied.faults) put.faults;
  part = part_of_more tells o.sent n.sent text (requests ++ request ∷ []) more (sent_one_part tells o m n old requests request replied.sent put);
}

-- a message's
pub message_failed : (tells : Type 0) (o m n : Drain) (old text rest : List ℕ) (requests : List Request) (request : Request) (talker : Talker)
    → AsksNext asked text requests request rest → Replied tells o m old requests talker
    → FailedToPut tells m n (old ++ next_reply requests request) → HasFailed tells o n text
message_failed tells o m n old text rest requests request talker next =
    reply_failed tells o m n old text requests request talker (first_is_less asked broken_request text (requests ++ request ∷ []) rest next.first)

-- all that a broken text asks
last_more : (text : List ℕ) (before : List Request) (request : Request) → AsksLast asked broken_request text before request
    → AsksMore asked broken_request text (before ++ request ∷ [])
last_more text before request last =
    all_is_more asked broken_request text (before ++ request ∷ []) (all_with_last asked broken_request text before request last)

-- the closing reply failed
pub last_failed : (tells : Type 0) (o m n : Drain) (old text : List ℕ) (requests : List Request) (request : Request) (talker : Talker)
    → AsksLast asked broken_request text requests request → Replied tells o m old requests talker
    → FailedToPut tells m n (old ++ next_reply requests request) → HasFailed tells o n text
last_failed tells o m n old text requests request talker last =
    reply_failed tells o m n old text requests request talker (last_more text requests request last)

-- what waited was sent
replied_sent : (tells : Type 0) (o m n : Drain) (waiting : List ℕ) (requests : List Request) (talker : Talker)
    → Replied tells o m waiting requests talker → PutAll tells m n waiting → Replied tells o n [] requests talker
replied_sent tells o m n waiting requests talker replied put = record {
  answered = replied.answered;
  faults = put.faults ∙ replied.faults;
  sent = λ told. sent_flushed o.sent m.sent n.sent waiting (replies_to requests) (replied.sent told) (put.content told);
}

pub hears_sent : (tells : Type 0) (o m n : Drain) (waiting text held : List ℕ) (talker : Talker) (heard : Heard)
    → (heard ≡ heards.Failed → ⊥) → Hears tells o m waiting text held talker heard → PutAll tells m n waiting
    → Hears tells o n [] text held talker heard
hears_sent tells o m n waiting text held talker heards.All sound hears put = record {
  requests = hears.requests;
  heard = hears.heard;
  replied = replied_sent tells o m n waiting hears.requests talker hears.replied put;
}
hears_sent tells o m n waiting text held talker heards.Closed sound hears put = record {
  before = hears.before;
  request = hears.request;
  last = hears.last;
  replied = replied_sent tells o m n waiting (hears.before ++ hears.request ∷ []) talker hears.replied put;
}
hears_sent tells o m n waiting text held talker heards.Failed sound hears put = absurd (sound refl)

-- what waited was sent in part
sent_in_part : (tells : Type 0) (o m n : Drain) (waiting text : List ℕ) (requests : List Request) (talker : Talker)
    → AsksMore asked broken_request text requests → Replied tells o m waiting requests talker → FailedToPut tells m n waiting → HasFailed tells o n text
sent_in_part tells o m n waiting text requests talker more replied put = record {
  faults = rw (← replied.faults) put.faults;
  part = part_of_more tells o.sent n.sent text requests more
      (λ told. sent_part o.sent m.sent n.sent waiting (replies_to requests) (replied.sent told) (put.content told));
}

pub hears_part : (tells : Type 0) (o m n : Drain) (waiting text held : List ℕ) (talker : Talker) (heard : Heard)
    → (heard ≡ heards.Failed → ⊥) → Hears tells o m waiting text held talker heard → FailedToPut tells m n waiting
    → HasFailed tells o n text
hears_part tells o m n waiting text held talker heards.All sound hears put =
    sent_in_part tells o m n waiting text hears.requests talker
    (first_is_less asked broken_request text hears.requests held hears.heard.first) hears.replied put
hears_part tells o m n waiting text held talker heards.Closed sound hears put =
    sent_in_part tells o m n waiting text (hears.before ++ hears.request ∷ []) talker (last_more text hears.before hears.request hears.last) hears.replied put
hears_part tells o m n waiting text held talker heards.Failed sound hears put = absurd (sound refl)

-- a piece came behind the text
pub stands_got : (tells : Type 0) (o n : Drain) (waiting text held piece : List ℕ) (talker : Talker) → Listens tells o n waiting text held talker
    → Stands tells o n waiting (text ++ piece) (held ++ piece) talker
stands_got tells o n waiting text held piece talker listens = record {
  requests = listens.requests;
  first = more_came asked text piece held piece listens.requests refl listens.heard;
  replied = listens.replied;
}

-- the whole piece waits
pub stands_whole : (tells : Type 0) (o n : Drain) (waiting text held piece given : List ℕ) (talker : Talker) → given ≡ piece
    → Stands tells o n waiting text (held ++ piece) talker → Stands tells o n waiting text (held ++ given) talker
stands_whole tells o n waiting text held piece given talker is stands = rw is stands
