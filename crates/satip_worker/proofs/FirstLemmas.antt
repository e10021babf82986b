-- What a text asks first.
use Rattle.std.proofs.Common.{◌≡◌, ℕ, List, [], ◌∷◌, ◌++◌, take, map, sym, ap, ◌∙◌, inl, inr, Some}
use Rattle.satip_frame.specs.Said.{Said}
use Rattle.satip_frame.specs.Stream.{Tail, Unfinished, Broken, Messages, Leads}
use Rattle.satip_frame.proofs.StreamLemmas.{leads_first, leads-append, broken_stays}
use Rattle.satip_frame.proofs.ReadingLemmas.{reading_of}
use Rattle.satip_http.specs.declared.requests.HttpRequest.{HttpRequest}
use Rattle.satip_http.specs.Gets.{asked_get, broken_get}
use Rattle.satip_frame.specs.Asking.{AsksSoFar, AsksNext, AsksLast}
use Rattle.satip_world.specs.Lines.{Line, GotBytes, InputEnded, ReceiveFailed}
use Rattle.satip_worker.specs.Progress.{Carries, SameFaults}
use Rattle.satip_worker.specs.HttpRun.{asked_first}
use Rattle.satip_worker.specs.FirstAsked.{AsksFirst, ReadAsked, ReadNothing, ReadFailed}
use Rattle.satip_worker.proofs.ProgressLemmas.{calm_counts, calm_then, carries_got, carries_on, carries_ended, carries_failed, rises_from}

-- what is asked first stays when more bytes come
pub first_longer : (text more : List ℕ) (request : HttpRequest) → AsksFirst text request → AsksFirst (text ++ more) request
first_longer text more request (inl by) = inl (record {
  message = by.message;
  first = (by.first.0 ++ more, leads-append text more (by.message ∷ []) by.first.0 by.first.1);
  request_is = by.request_is;
})
first_longer text more request (inr by) = inr (record {
  cause = by.cause;
  read = broken_stays text more [] by.cause by.read;
  request_is = by.request_is;
})

-- the whole text, and what it asks first
pub record FirstRead (text : List ℕ) (request : HttpRequest) : Type 0 where
  pub messages : List Said
  pub tail : Tail
  pub read : Messages text messages tail
  pub first : asked_first messages tail ≡ Some request

pub first_read : (text : List ℕ) (request : HttpRequest) → AsksFirst text request → FirstRead text request
first_read text request (inl by) =
    let reading = reading_of text in
    let others = leads_first text (by.message ∷ []) reading.0 by.first.0 reading.1 by.first.1 reading.2 in
    record {
      messages = reading.0;
      tail = reading.1;
      read = reading.2;
      first = ap (λ (ms : List Said). asked_first ms reading.1) others.1 ∙ ap (λ (r : HttpRequest). Some r) (sym by.request_is);
    }
first_read text request (inr by) = record {
  messages = [];
  tail = Broken by.cause;
  read = by.read;
  first = ap (λ (r : HttpRequest). Some r) (sym by.request_is);
}

-- where nothing was asked there is no message
nothing_read_by : (text : List ℕ) (messages : List Said) (tail : Tail) → [] ≡ map asked_get messages → Messages text messages tail → Messages text [] tail
nothing_read_by text [] tail none read = read
nothing_read_by text (m ∷ ms) tail none read = cc none

nothing_read : (text rest : List ℕ) → AsksSoFar asked_get text [] rest → Messages text [] Unfinished
nothing_read text rest heard = nothing_read_by text heard.first.messages Unfinished heard.first.requests_are heard.read

-- the first message was found
next_is_first : (text rest : List ℕ) (messages : List Said) (request : HttpRequest) → Leads text messages rest → request ∷ [] ≡ map asked_get messages
    → AsksFirst text request
next_is_first text rest [] request leads are = cc are
next_is_first text rest (m ∷ []) request leads are = inl (record { message = m; first = (rest, leads); request_is = cc are })
next_is_first text rest (m ∷ n ∷ ms) request leads are = cc are

pub first_found : (text rest : List ℕ) (request : HttpRequest) → AsksNext asked_get text [] request rest → AsksFirst text request
first_found text rest request next = next_is_first text rest next.first.messages request next.first.leads next.first.requests_are

-- what stands first is no message
pub first_broken : (text : List ℕ) (request : HttpRequest) → AsksLast asked_get broken_get text [] request → AsksFirst text request
first_broken text request last = inr (record {
  cause = last.cause;
  read = nothing_read_by text last.messages (Broken last.cause) last.before_are last.read;
  request_is = last.request_is;
})

-- something was asked
pub read_asked : (ct : Type 0) (l m m' : Line) (text buf : List ℕ) (count : ℕ) (request : HttpRequest) → Carries ct l m text []
    → SameFaults l m → GotBytes ct m m' buf count → AsksFirst (text ++ take count buf) request → ReadAsked ct l m' request
read_asked ct l m m' text buf count request before calm got first = record {
  received = text ++ take count buf;
  first = first;
  goes_on = got.after;
  carries = carries_got ct l m m' text [] buf count before got;
  calm = calm_then l m m' calm (calm_counts m m' got.counts);
}

module _ (ct : Type 0) (l m m' : Line) (text rest : List ℕ) (heard : AsksSoFar asked_get text [] rest) (before : Carries ct l m text [])
    (calm : SameFaults l m) where
  -- the input ended
  pub read_nothing : InputEnded ct m m' → ReadNothing ct l m'
  read_nothing ended = record {
    received = text;
    nothing = nothing_read text rest heard;
    ended = ended.after;
    carries = carries_on ct l m m' text [] before (carries_ended ct m m' ended);
    calm = calm_then l m m' calm (calm_counts m m' ended.counts);
  }

  -- a receive failed
  pub read_failed : ReceiveFailed ct m m' → ReadFailed ct l m'
  read_failed failed = record {
    received = text;
    nothing = nothing_read text rest heard;
    goes_on = failed.after;
    carries = carries_on ct l m m' text [] before (carries_failed ct m m' failed);
    faults = rises_from l.receive_faults m.receive_faults m'.receive_faults before.receive_faults failed.receive_faults;
    sends = failed.send_faults ∙ calm.send_faults;
  }
