-- A client that awaits a reply, receive by receive.
use Rattle.std.proofs.Common.{◌≡◌, ◌⊎◌, inl, inr, ℕ, ◌+◌, ◌<◌, ◌≤◌, refl, length-append, true, List, [], ◌∷◌, ◌++◌, length, sym, ap, ◌∙◌, subst, arith, append_assoc, append-nil, replicate, Result, Ok, Err}
use Rattle.std.proofs.lemmas.Bool.{cases_lt}
use Rattle.satip_world.specs.Counts.{Rises}
use Rattle.satip_world.specs.Lines.{Line, Grew, SentAll, WasIdle}
use Rattle.satip_client.specs.Heads.{Head, HasReply, print_head}
use Rattle.satip_client.specs.Replies.{NeverHasReply}
use Rattle.satip_client.proofs.Cuts.{cut, inside-shorter}
use Rattle.httparse.specs.declared.spans.HeaderSpan.{HeaderSpan}
use Rattle.satip_client.specs.declared.heads.HeadRead.{HeadRead}
use Rattle.satip_client.specs.Places.{IsHeadAt}
use Rattle.satip_client.proofs.HeadLemmas.{head-more, head-unique, reply-more}
use Rattle.satip_client.specs.Waits.{IsOpen, StaysOpen, IsSettled, IsUpToPiece, WasIdleFor, TookIn, TookPiece, Asked, Asks, Unanswered, AskFailed, idle_limit}
use Rattle.satip_client.specs.declared.ending.RecordEnd.{RecordEnd}
use Rattle.satip_client.specs.declared.ending.RecordEnd.TheVariants.{Done, OutputFault, Refused, BadReply, Silent, PeerFault, Closed, OutOfMemory}
use Rattle.satip_client.proofs.PulseLemmas.{grew_then, grew_none, faults_then}

-- a text that has the room of the longest reply isn't open
reply_within : (text more : List ℕ) (h : Head) (size : ℕ) → HasReply (text ++ more) h size → 12288 ≤ length text → HasReply text h size
reply_within text more h size reply long =
    let head = reply.has_head in
    elim (cut text more (print_head h) head.rest head.text_is) [
      | inl inside ↦ absurd (omega (arith, inside-shorter text (print_head h) inside, head.is_head.short))
      | inr behind ↦ record {
        has_head = record { is_head = head.is_head; rest = behind.over; text_is = behind.is };
        whole = omega (arith, head.is_head.short, head.is_head.body_short);
      }
    ]

pub open_is_short : (text : List ℕ) → IsOpen text → length text < 12288
open_is_short text o =
    elim (cases_lt (length text) 12288) [
      | inl short ↦ short
      | inr long ↦
          let c = o.can_become in
          absurd (o.no_reply c.1 c.2 (reply_within text c.0 c.1 c.2 c.3 long))
    ]

pub settled_bad : (text : List ℕ) → NeverHasReply text → IsSettled text
settled_bad text never o = let c = o.can_become in never c.0 c.1 c.2 c.3

-- ---- how long a text stays open

pub open_still : (text : List ℕ) (needed : ℕ) → StaysOpen text needed → length text < needed → IsOpen text
open_still text needed stays short =
    let same : text ++ [] ≡ text = append-nil text in
    subst IsOpen same (stays [] (subst (λ (t : List ℕ). length t < needed) (sym same) short))

pub stays_more : (text more : List ℕ) (needed : ℕ) → StaysOpen text needed → StaysOpen (text ++ more) needed
stays_more text more needed stays = λ others short.
    let same : (text ++ more) ++ others ≡ text ++ (more ++ others) = append_assoc text more others in
    subst IsOpen (sym same) (stays (more ++ others) (subst (λ (t : List ℕ). length t < needed) same short))

-- up to the next byte
pub stays_as_it_is : (text : List ℕ) → IsOpen text → StaysOpen text (length text + 1)
stays_as_it_is text o = λ more short. by_more more short
  where
    by_more : (more : List ℕ) → length (text ++ more) < length text + 1 → IsOpen (text ++ more)
    by_more [] short = subst IsOpen (sym (append-nil text)) o
    by_more (x ∷ xs) short = absurd (omega (arith, short, length-append text (x ∷ xs)))

-- up to the end of the body
pub stays_for_body : (text : List ℕ) (headers : List HeaderSpan) (read : HeadRead) → ((h : Head) × IsHeadAt text headers read h read.body)
    → StaysOpen text (read.end + read.body)
stays_for_body text headers read found = λ more short.
    let has = head-more more found.1.has in record {
      no_reply = λ k size reply.
          let same = head-unique has reply.has_head in omega (arith, same.0, same.1, found.1.end, reply.whole, short);
      can_become = (replicate read.body 0, found.0, read.body, reply-more has);
    }

-- ---- what is received

-- bytes were received, and no piece after one that settled them
abbrev pub TookUpTo : (tells : Type 0) (o n : Line) (before now : List ℕ) → Type 0
TookUpTo tells o n before now = (took : TookIn tells o n before now) × IsUpToPiece before took.got

-- nothing was received yet
pub took_nothing : (tells : Type 0) (o : Line) (before : List ℕ) → TookUpTo tells o o before before
took_nothing tells o before = (
  record {
    got = [];
    held = sym (append-nil before);
    content = grew_none tells o;
    faults = record { receive_faults = refl; send_faults = refl };
    idles = omega arith;
  },
  inl refl,
)

-- one piece more
pub took_piece : (tells : Type 0) (o m n : Line) (before mid now : List ℕ) → TookIn tells o m before mid → IsOpen mid → TookPiece tells m n mid now
    → TookUpTo tells o n before now
took_piece tells o m n before mid now first was_open second = (
  record {
    got = first.got ++ second.took.got;
    held = second.took.held ∙ ap (λ (t : List ℕ). t ++ second.took.got) first.held ∙ append_assoc before first.got second.took.got;
    content = grew_then tells o m n first.got [] second.took.got [] first.content second.took.content;
    faults = faults_then o m n first.faults second.took.faults;
    idles = omega (arith, first.idles, second.idles);
  },
  inr (record {
    first = first.got;
    piece = second.took.got;
    whole = refl;
    was_open = subst IsOpen first.held was_open;
    short = omega (arith, second.short, ap (λ (t : List ℕ). length t) second.took.held, length-append mid second.took.got);
  }),
)

-- no bytes more
no_more : (tells : Type 0) (o m n : Line) (got : List ℕ) → Grew tells o m got [] → Grew tells m n [] [] → Grew tells o n got []
no_more tells o m n got first second =
    subst (λ (t : List ℕ). Grew tells o n t []) (append-nil got) (grew_then tells o m n got [] [] [] first second)

pub took_idle : (tells : Type 0) (o m n : Line) (before mid now : List ℕ) → TookUpTo tells o m before mid → now ≡ mid × WasIdle tells m n
    → TookUpTo tells o n before now
took_idle tells o m n before mid now first idle = (
  record {
    got = first.0.got;
    held = idle.0 ∙ first.0.held;
    content = no_more tells o m n first.0.got first.0.content idle.1.content;
    faults = faults_then o m n first.0.faults (record { receive_faults = idle.1.receive_faults; send_faults = idle.1.send_faults });
    idles = omega (arith, first.0.idles, idle.1.idles.kept);
  },
  first.1,
)

pub idle_as_before : (k : ℕ) (o m n : Line) → WasIdleFor k o m → n.idles ≡ m.idles → WasIdleFor k o n
idle_as_before k o m n (inl few) same = inl (omega (arith, few, same))
idle_as_before k o m n (inr last) same = inr (omega (arith, last, same))

pub idle_for_one : (k : ℕ) (o m n : Line) → WasIdleFor k o m → Rises m.idles n.idles → WasIdleFor (k + 1) o n
idle_for_one k o m n before rises = rose before rises.rose
  where
    rose : (o.idles + k ≤ m.idles) ⊎ (18446744073709551615 ≤ m.idles) → (m.idles < n.idles) ⊎ (18446744073709551615 ≤ n.idles)
        → (o.idles + (k + 1) ≤ n.idles) ⊎ (18446744073709551615 ≤ n.idles)
    rose (inl a) (inl b) = inl (omega (arith, a, b))
    rose (inl a) (inr b) = inr b
    rose (inr a) b = inr (omega (arith, a, rises.kept))

-- a request was sent before
pub asked_after : (tells : Type 0) (o m n : Line) (request before now : List ℕ) → SentAll tells o m request → Asked tells m n [] before now
    → Asked tells o n request before now
asked_after tells o m n request before now sent a = record {
  got = a.got;
  held = a.held;
  content = subst (λ (t : List ℕ). Grew tells o n a.got t) (append-nil request) (grew_then tells o m n [] request a.got [] sent.content a.content);
  faults = faults_then o m n (record { receive_faults = sent.counts.receive_faults; send_faults = sent.counts.send_faults }) a.faults;
  idles = omega (arith, sent.counts.idles, a.idles);
  settled = a.settled;
  up_to = a.up_to;
}

pub unanswered_after : (tells : Type 0) (o m n : Line) (request before : List ℕ) (first second : Type 0) → (first → second)
    → SentAll tells o m request → Unanswered tells m n [] before first → Unanswered tells o n request before second
unanswered_after tells o m n request before first second follows sent u = record {
  got = u.got;
  content = subst (λ (t : List ℕ). Grew tells o n u.got t) (append-nil request) (grew_then tells o m n [] request u.got [] sent.content u.content);
  faults = faults_then o m n (record { receive_faults = sent.counts.receive_faults; send_faults = sent.counts.send_faults }) u.faults;
  still_open = u.still_open;
  cause_is = follows u.cause_is;
}

-- a receive failed after the request
pub ask_failed_after : (tells : Type 0) (o m n : Line) (request before : List ℕ) → SentAll tells o m request → AskFailed tells m n [] before
    → AskFailed tells o n request before
ask_failed_after tells o m n request before sent (inl a) = inl (record {
  part = request ++ a.part;
  rest = a.rest;
  whole = sym (append-nil request) ∙ ap (λ (t : List ℕ). request ++ t) a.whole ∙ sym (append_assoc request a.part a.rest);
  ended = a.ended ∙ sent.ended;
  idles = a.idles ∙ sent.counts.idles;
  receive_faults = a.receive_faults ∙ sent.counts.receive_faults;
  send_faults = subst (λ (k : ℕ). Rises k n.send_faults) sent.counts.send_faults a.send_faults;
  content = grew_then tells o m n [] request [] a.part sent.content a.content;
})
ask_failed_after tells o m n request before sent (inr a) = inr (record {
  got = a.got;
  content = subst (λ (t : List ℕ). Grew tells o n a.got t) (append-nil request) (grew_then tells o m n [] request a.got [] sent.content a.content);
  send_faults = a.send_faults ∙ sent.counts.send_faults;
  rose = subst (λ (k : ℕ). Rises k n.receive_faults) sent.counts.receive_faults a.rose;
  still_open = a.still_open;
})

idle_from : (o m n : Line) → m.idles ≡ o.idles → WasIdleFor idle_limit m n → WasIdleFor idle_limit o n
idle_from o m n same (inl few) = inl (omega (arith, same, few))
idle_from o m n same (inr last) = inr last

-- a request and its reply
pub asks_after : (tells : Type 0) (o m n : Line) (request before now : List ℕ) (result : Result (Unit {0}) RecordEnd) → SentAll tells o m request
    → Asks tells m n [] before now result → Asks tells o n request before now result
asks_after tells o m n request before now (Ok done) sent a = asked_after tells o m n request before now sent a
asks_after tells o m n request before now (Err Done) sent a = a
asks_after tells o m n request before now (Err OutputFault) sent a = a
asks_after tells o m n request before now (Err (Refused code)) sent a = a
asks_after tells o m n request before now (Err BadReply) sent a = a
asks_after tells o m n request before now (Err Silent) sent a =
    unanswered_after tells o m n request before (WasIdleFor idle_limit m n) (WasIdleFor idle_limit o n) (idle_from o m n sent.counts.idles) sent a
asks_after tells o m n request before now (Err PeerFault) sent a = ask_failed_after tells o m n request before sent a
asks_after tells o m n request before now (Err Closed) sent a =
    unanswered_after tells o m n request before (n.ended ≡ true) (n.ended ≡ true) (λ ended. ended) sent a
asks_after tells o m n request before now (Err OutOfMemory) sent a = a
