-- What a text asks, when one message more was found and when more bytes come.
use Rattle.std.proofs.Common.{◌≡◌, ℕ, ◌+◌, ◌*◌, ◌<◌, ◌≤◌, List, [], ◌∷◌, ◌++◌, length, length-append, map, arith, refl, sym, ap, ◌∙◌, subst, ⊎_elim, Option, Some, None, IsSomeAnd}
use Rattle.std.proofs.lemmas.Bool.{cases_lt}
use Rattle.std.proofs.lemmas.List.{append-nil, map_push}
use Rattle.satip_frame.specs.declared.framing.Break.{Break}
use Rattle.satip_frame.specs.Said.{Said}
use Rattle.satip_frame.specs.Stream.{Unfinished, Broken, Messages, Leads, skip_newlines}
use Rattle.satip_frame.proofs.StreamLemmas.{skip_shorter, begins_some, leads-append, broken_stays, ends_from_rest}
use Rattle.satip_frame.specs.Asking.{AsksFirst, AsksSoFar, AsksNext, AsksLast}

-- messages stand in front of the same rest, but for CR and LF
leads_same : (text : List ℕ) (ms : List Said) (rest later : List ℕ) → Leads text ms rest → skip_newlines rest ≡ skip_newlines later
    → Leads text ms later
leads_same text [] rest later leads same = leads ∙ same
leads_same text (m ∷ ms) rest later leads same = (leads.0, leads.1, leads_same leads.0 ms rest later leads.2 same)

-- one more message behind others
leads_then : (text : List ℕ) (ms : List Said) (rest : List ℕ) (m : Said) (later : List ℕ) → Leads text ms rest → Leads rest (m ∷ []) later
    → Leads text (ms ++ m ∷ []) later
leads_then text [] rest m later leads one = rw leads one
leads_then text (n ∷ ms) rest m later leads one = (leads.0, leads.1, leads_then leads.0 ms rest m later leads.2 one)

-- a message takes some of the bytes
takes_some : (bytes : List ℕ) (m : Said) (later : List ℕ) → Leads bytes (m ∷ []) later
    → length (skip_newlines later) < length (skip_newlines bytes)
takes_some bytes m later one =
    let behind : length one.0 < length (skip_newlines bytes) = begins_some one.1 in
    let same : length (skip_newlines one.0) ≡ length (skip_newlines later) = ap (λ (t : List ℕ). length t) one.2 in
    omega (arith, skip_shorter one.0)

-- so does the message that was found
pub found_takes : (bytes later rest : List ℕ) (found : Option Said) → IsSomeAnd found (λ m. Leads bytes ([] ++ m ∷ []) later)
    → length (skip_newlines (later ++ rest)) < length (skip_newlines (bytes ++ rest))
found_takes bytes later rest None told = absurd told
found_takes bytes later rest (Some m) told = takes_some (bytes ++ rest) m (later ++ rest) (leads-append bytes rest (m ∷ []) later told)

-- the framer dropped line ends
pub still_first : (text : List ℕ) (ms : List Said) (bytes later rest : List ℕ) → Leads text ms (bytes ++ rest) → Leads bytes [] later
    → Leads text ms (later ++ rest)
still_first text ms bytes later rest leads told = leads_same text ms (bytes ++ rest) (later ++ rest) leads (leads-append bytes rest [] later told)

module _ {A : Type 0} (asked : Said → A) (broken : Break → A) (text : List ℕ) (before : List A) (bytes rest : List ℕ)
    (first : AsksFirst asked text before (bytes ++ rest)) where
  -- a message was found
  pub hears_next : (request : A) (later : List ℕ) (found : Option Said) → IsSomeAnd found (λ m. Leads bytes ([] ++ m ∷ []) later)
      → IsSomeAnd found (λ m. request ≡ asked m) → AsksNext asked text before request (later ++ rest)
  hears_next request later None told is = absurd told
  hears_next request later (Some m) told is = record {
    message = m;
    request_is = is;
    first = record {
      messages = first.messages ++ m ∷ [];
      leads = leads_then text first.messages (bytes ++ rest) m (later ++ rest) first.leads (leads-append bytes rest (m ∷ []) later told);
      requests_are = ap (λ (rs : List A). rs ++ request ∷ []) first.requests_are
          ∙ ap (λ (r : A). map asked first.messages ++ r ∷ []) is
          ∙ sym (map_push asked first.messages m);
    };
  }

  -- the text is broken
  pub hears_last : (request : A) (cause : Break) → Messages bytes [] (Broken cause) → request ≡ broken cause
      → AsksLast asked broken text before request
  hears_last request cause read is = record {
    messages = first.messages;
    cause = cause;
    read = ends_from_rest text first.messages (bytes ++ rest) (Broken cause) first.leads (broken_stays bytes rest [] cause read);
    before_are = first.requests_are;
    request_is = is;
  }

  -- nothing is left, and no message stands there
  pub hears_nothing : (later : List ℕ) → Messages bytes [] Unfinished → Leads bytes [] later → rest ≡ []
      → AsksSoFar asked text before later
  hears_nothing later read told none =
      let P : List ℕ → Type 0 = λ r. Leads text first.messages (bytes ++ r) in
      let Q : List ℕ → Type 0 = λ b. Leads text first.messages b in
      let leads = subst Q (append-nil bytes) (subst P none first.leads) in
      record {
        first = record {
          messages = first.messages;
          leads = leads_same text first.messages bytes later leads told;
          requests_are = first.requests_are;
        };
        read = ends_from_rest text first.messages bytes Unfinished leads read;
      }

-- the same bytes wait
pub waits_same : (text : List ℕ) (ms : List Said) (waits same : List ℕ) → same ≡ waits → Leads text ms waits → Leads text ms same
waits_same text ms waits same is leads = rw is leads

-- the messages of each text stay those in front of what waits
abbrev pub StillWait : (waited waits : List ℕ) → Type 0
StillWait waited waits = (text : List ℕ) (ms : List Said) → Leads text ms waited → Leads text ms waits

pub first_waits : {A : Type 0} (asked : Said → A) (text : List ℕ) (before : List A) (waited waits same : List ℕ) → StillWait waited waits
    → same ≡ waits → AsksFirst asked text before waited → AsksFirst asked text before same
first_waits {A} asked text before waited waits same still is first = record {
  messages = first.messages;
  leads = rw is (still text first.messages first.leads);
  requests_are = first.requests_are;
}

-- fewer bytes wait than waited before
pub fewer_wait : (waited waits same later : List ℕ) → StillWait waited waits → same ≡ waits
    → length (skip_newlines later) < length (skip_newlines same) → length (skip_newlines later) < length (skip_newlines waited)
fewer_wait waited waits same later still is fewer =
    let e : skip_newlines waited ≡ skip_newlines same = still waited [] refl ∙ ap (λ (w : List ℕ). skip_newlines w) (sym is) in
    rw e fewer

-- what the framer took of the piece, or the line ends that a full one dropped
pub turn_smaller : (bytes given later piece rest : List ℕ) → given ++ rest ≡ bytes ++ piece → length later ≤ length given → length later < 12288
    → length rest ≤ length piece → (length given < 12288 → length rest < length piece)
    → 2 * length rest + length later < 2 * length piece + length bytes
turn_smaller bytes given later piece rest kept shorter room less fewer =
    let sum : length given + length rest ≡ length bytes + length piece =
    sym (length-append given rest) ∙ ap (λ (w : List ℕ). length w) kept ∙ length-append bytes piece in
    ⊎_elim (λ below. let some = fewer below in omega (arith, sum, shorter, some))
    (λ full. omega (arith, sum, room, less, full)) (cases_lt (length given) 12288)
