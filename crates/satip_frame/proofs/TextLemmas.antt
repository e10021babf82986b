-- What a text asks, for whoever answers it.
use Rattle.std.proofs.Common.{◌≡◌, ℕ, zero, suc, List, [], ◌∷◌, ◌++◌, map, append_assoc, arith, refl, sym, ap, ◌∙◌, inl, lit<}
use Rattle.std.proofs.lemmas.List.{append-nil, map-append}
use Rattle.satip_frame.specs.declared.framing.Break.{Break}
use Rattle.satip_frame.specs.Head.{HasNoEmptyLine}
use Rattle.satip_frame.specs.Said.{Said}
use Rattle.satip_frame.specs.Stream.{Unfinished, Broken}
use Rattle.satip_frame.proofs.StreamLemmas.{leads-append, leads_first}
use Rattle.satip_frame.proofs.ReadingLemmas.{reading_of}
use Rattle.satip_frame.specs.Asking.{AsksAll, AsksFirst, AsksSoFar, AsksLast, AsksMore, asked_by_tail}

no_empty_line : HasNoEmptyLine 0 []
no_empty_line zero within ends = cc ends
no_empty_line (suc k) within ends = absurd (omega arith)

-- no text asks nothing
pub nothing_asked : {A : Type 0} (asked : Said → A) → AsksSoFar asked [] [] []
nothing_asked asked = record {
  first = record { messages = []; leads = refl; requests_are = refl };
  read = inl (lit< tt, no_empty_line);
}

-- more bytes came
pub more_came : {A : Type 0} (asked : Said → A) (text piece rest given : List ℕ) (requests : List A) → given ≡ piece
    → AsksSoFar asked text requests rest → AsksFirst asked (text ++ piece) requests (rest ++ given)
more_came asked text piece rest given requests is heard = record {
  messages = heard.first.messages;
  leads = rw is (leads-append text piece heard.first.messages rest heard.first.leads);
  requests_are = heard.first.requests_are;
}

module _ {A : Type 0} (asked : Said → A) (broken : Break → A) (text : List ℕ) (requests : List A) where
  -- no more came
  pub all_so_far : (rest : List ℕ) → AsksSoFar asked text requests rest → AsksAll asked broken text requests
  all_so_far rest heard = record {
    messages = heard.first.messages;
    tail = Unfinished;
    read = heard.read;
    requests = heard.first.requests_are ∙ sym (append-nil (map asked heard.first.messages));
  }

  -- what is no message is the last
  pub all_with_last : (request : A) → AsksLast asked broken text requests request → AsksAll asked broken text (requests ++ request ∷ [])
  all_with_last request last = record {
    messages = last.messages;
    tail = Broken last.cause;
    read = last.read;
    requests = ap (λ (rs : List A). rs ++ request ∷ []) last.before_are
        ∙ ap (λ (r : A). map asked last.messages ++ r ∷ []) last.request_is;
  }

  -- all is no less than all
  pub all_is_more : AsksAll asked broken text requests → AsksMore asked broken text requests
  all_is_more all = record { all = requests; asks = all; others = []; longer = sym (append-nil requests) }

  -- what is asked first is a beginning
  pub first_is_less : (rest : List ℕ) → AsksFirst asked text requests rest → AsksMore asked broken text requests
  first_is_less rest first =
      let reading = reading_of text in
      let others = leads_first text first.messages reading.0 rest reading.1 first.leads reading.2 in
      let behind : List A = map asked others.0 ++ asked_by_tail broken reading.1 in
      record {
        all = map asked reading.0 ++ asked_by_tail broken reading.1;
        asks = record { messages = reading.0; tail = reading.1; read = reading.2; requests = refl };
        others = behind;
        longer = ap (λ (ms : List Said). map asked ms ++ asked_by_tail broken reading.1) others.1
            ∙ ap (λ (rs : List A). rs ++ asked_by_tail broken reading.1) (map-append asked first.messages others.0)
            ∙ append_assoc (map asked first.messages) (map asked others.0) (asked_by_tail broken reading.1)
            ∙ ap (λ (rs : List A). rs ++ behind) (sym first.requests_are);
      }
