-- The turns of a talk: what was read so far was answered.
use Rattle.std.proofs.Common.{◌≡◌, ℕ, ◌+◌, ◌<◌, ◌≤◌, List, [], ◌∷◌, ◌++◌, length, map, take, append_assoc, append-nil, length-append, length-take, refl, sym, ◌∙◌, ap, subst, inl, inr, arith}
use Rattle.satip_base.specs.Streams.{Feed, Drain, TookBytes, MetEnd, FailedToTake}
use Rattle.satip_frame.specs.Held.{Held, new_framer}
use Rattle.satip_frame.specs.Stream.{Broken}
use Rattle.satip_frame.proofs.StreamLemmas.{broken_stays}
use Rattle.satip_rtsp.specs.declared.requests.Request.{Request}
use Rattle.satip_rtsp.specs.Asked.{asked, broken_request}
use Rattle.satip_frame.proofs.TextLemmas.{nothing_asked, more_came, all_so_far}
use Rattle.satip_talk_command.specs.Talk.{replies_to, talk_replies, Answered}
use Rattle.satip_talk_command.specs.Talking.{HasAnswered}
use Rattle.satip_talk_command.specs.declared.talker.Talker.{Talker}
use Rattle.satip_talk_command.specs.Hearing.{Listens, HasClosed, HasFailed}
use Rattle.satip_talk_command.specs.Runs.{EndsWell, EndsByInput, EndsByOutput, EndsByLength, input_limit}
use Rattle.satip_config.specs.Reading.{Read}
use Rattle.satip_talk_command.proofs.TalkLemmas.{part_of_first}
use Rattle.satip_talk_command.proofs.GatherLemmas.{sent_nothing, sent_all}

-- what was taken so far was answered
pub record Goes (in_tells out_tells : Type 0) (i j : Feed) (o n : Drain) (count : ℕ) (held : List ℕ) (talker : Talker) : Type 0 where
  pub text : List ℕ
  pub read : Read in_tells i j text
  pub counted : length text ≡ count
  pub short : count ≤ input_limit
  pub in_faults : j.faults ≡ i.faults
  pub listens : Listens out_tells o n [] text held talker

-- nothing was taken yet
pub goes_from : (in_tells out_tells : Type 0) (i : Feed) (o : Drain) (framer : Held) (talker : Talker) → framer ≡ new_framer → HasAnswered talker []
    → Goes in_tells out_tells i i o o 0 framer.bytes talker
goes_from in_tells out_tells i o framer talker new_one begins = record {
  text = [];
  read = record { taken = omega arith; content = λ _. refl };
  counted = refl;
  short = omega arith;
  in_faults = refl;
  listens = record {
    requests = [];
    heard = rw new_one (nothing_asked asked);
    replied = record { answered = begins; faults = refl; sent = λ _. sent_nothing o.sent };
  };
}

-- a piece was taken behind the text
read_more : (in_tells : Type 0) (i j k : Feed) (text buf : List ℕ) (count : ℕ) → Read in_tells i j text → TookBytes in_tells j k buf count
    → Read in_tells i k (text ++ take count buf)
read_more in_tells i j k text buf count read took = record {
  taken = omega (arith, read.taken, took.taken, took.within, length-append text (take count buf), length-take count buf);
  content = λ told.
      read.content told ∙ ap (λ (left : List ℕ). text ++ left) (took.content told) ∙ sym (append_assoc text (take count buf) k.left);
}

-- how long the text is then
length-more : (text buf : List ℕ) (count : ℕ) → count ≤ length buf → length (text ++ take count buf) ≡ length text + count
length-more text buf count within = omega (arith, length-append text (take count buf), length-take count buf)

-- the piece was answered too
pub goes_more : (in_tells out_tells : Type 0) (i j k : Feed) (o m n : Drain) (taken count : ℕ) (held next : List ℕ) (talker later : Talker) (buf : List ℕ)
    → (goes : Goes in_tells out_tells i j o m taken held talker) → TookBytes in_tells j k buf count → taken + count ≤ input_limit
    → Listens out_tells o n [] (goes.text ++ take count buf) next later
    → Goes in_tells out_tells i k o n (taken + count) next later
goes_more in_tells out_tells i j k o m n taken count held next talker later buf goes took short listens = record {
  text = goes.text ++ take count buf;
  read = read_more in_tells i j k goes.text buf count goes.read took;
  counted = length-more goes.text buf count took.within ∙ ap (λ (c : ℕ). c + count) goes.counted;
  short = short;
  in_faults = took.faults ∙ goes.in_faults;
  listens = listens;
}

-- all messages of the text were answered
answered_all : (tells : Type 0) (o n : Drain) (text held : List ℕ) (talker : Talker) → Listens tells o n [] text held talker
    → Answered tells o.sent n.sent text
answered_all tells o n text held talker listens =
    let all = all_so_far asked broken_request text listens.requests held listens.heard in
    record {
      messages = all.messages;
      tail = all.tail;
      read = all.read;
      sent = λ told. sent_all o.sent n.sent (replies_to listens.requests) (listens.replied.sent told)
          ∙ ap (λ (rs : List Request). o.sent ++ replies_to rs) all.requests;
    }

-- the input came to its end
pub ends_at_end : (in_tells out_tells : Type 0) (i j k : Feed) (o n : Drain) (taken : ℕ) (held : List ℕ) (talker : Talker)
    → Goes in_tells out_tells i j o n taken held talker → MetEnd in_tells j k → EndsWell in_tells out_tells i k o n
ends_at_end in_tells out_tells i j k o n taken held talker goes met =
    let answered = answered_all out_tells o n goes.text held talker goes.listens in
    let P : List ℕ → Type 0 = λ text. Answered out_tells o.sent n.sent text in
    record {
      text = goes.text;
      read = record {
        taken = met.taken ∙ goes.read.taken;
        content = λ told. goes.read.content told ∙ ap (λ (left : List ℕ). goes.text ++ left) (met.nothing_left told ∙ sym (met.content told));
      };
      short = omega (arith, goes.counted, goes.short);
      in_faults = met.faults ∙ goes.in_faults;
      out_faults = goes.listens.replied.faults;
      answered = answered;
      whole = λ told.
          subst P (sym (goes.read.content told ∙ ap (λ (left : List ℕ). goes.text ++ left) (met.nothing_left told) ∙ append-nil goes.text)) answered;
      ending = inl met.after;
      in_time = record {
        earlier = goes.text;
        piece = [];
        whole = sym (append-nil goes.text);
        short = omega arith;
        messages = goes.listens.heard.first.messages;
        unbroken = goes.listens.heard.read;
      };
    }

-- the last reply was a closing one
pub ends_closed : (in_tells out_tells : Type 0) (i j k : Feed) (o m n : Drain) (taken count : ℕ) (held : List ℕ) (talker later : Talker) (buf : List ℕ)
    → (goes : Goes in_tells out_tells i j o m taken held talker) → TookBytes in_tells j k buf count → taken + count ≤ input_limit → count ≤ 4096
    → HasClosed out_tells o n [] (goes.text ++ take count buf) later → EndsWell in_tells out_tells i k o n
ends_closed in_tells out_tells i j k o m n taken count held talker later buf goes took short small closed =
    let text = goes.text ++ take count buf in
    let read = read_more in_tells i j k goes.text buf count goes.read took in
    let last = closed.last in
    let all : closed.before ++ closed.request ∷ [] ≡ map asked last.messages ++ broken_request last.cause ∷ [] =
    ap (λ (rs : List Request). rs ++ closed.request ∷ []) last.before_are
    ∙ ap (λ (r : Request). map asked last.messages ++ r ∷ []) last.request_is in
    let sent : out_tells → n.sent ≡ o.sent ++ talk_replies last.messages (Broken last.cause) = λ told.
    sent_all o.sent n.sent (replies_to (closed.before ++ closed.request ∷ [])) (closed.replied.sent told)
    ∙ ap (λ (rs : List Request). o.sent ++ replies_to rs) all in
    let answered : Answered out_tells o.sent n.sent text =
    record { messages = last.messages; tail = Broken last.cause; read = last.read; sent = sent } in
    let longer : Answered out_tells o.sent n.sent (text ++ k.left) = record {
      messages = last.messages;
      tail = Broken last.cause;
      read = broken_stays text k.left last.messages last.cause last.read;
      sent = sent;
    } in
    let P : List ℕ → Type 0 = λ t. Answered out_tells o.sent n.sent t in
    record {
      text = text;
      read = read;
      short = omega (arith, goes.counted, length-more goes.text buf count took.within);
      in_faults = took.faults ∙ goes.in_faults;
      out_faults = closed.replied.faults;
      answered = answered;
      whole = λ told. subst P (sym (read.content told)) longer;
      ending = inr (record { messages = last.messages; cause = last.cause; read = last.read });
      in_time = record {
        earlier = goes.text;
        piece = take count buf;
        whole = refl;
        short = omega (arith, length-take count buf, took.within);
        messages = goes.listens.heard.first.messages;
        unbroken = goes.listens.heard.read;
      };
    }

-- the output failed
pub ends_by_output : (in_tells out_tells : Type 0) (i j k : Feed) (o m n : Drain) (taken count : ℕ) (held : List ℕ) (talker : Talker) (buf : List ℕ)
    → (goes : Goes in_tells out_tells i j o m taken held talker) → TookBytes in_tells j k buf count → taken + count ≤ input_limit
    → HasFailed out_tells o n (goes.text ++ take count buf) → EndsByOutput in_tells out_tells i k o n
ends_by_output in_tells out_tells i j k o m n taken count held talker buf goes took short failed = record {
  early = record {
    text = goes.text ++ take count buf;
    read = read_more in_tells i j k goes.text buf count goes.read took;
    part = failed.part;
  };
  short = omega (arith, goes.counted, length-more goes.text buf count took.within);
  in_faults = took.faults ∙ goes.in_faults;
  rose = failed.faults;
}

-- the input failed
pub ends_by_input : (in_tells out_tells : Type 0) (i j k : Feed) (o n : Drain) (taken : ℕ) (held : List ℕ) (talker : Talker)
    → Goes in_tells out_tells i j o n taken held talker → FailedToTake in_tells j k → EndsByInput in_tells out_tells i k o n
ends_by_input in_tells out_tells i j k o n taken held talker goes failed = record {
  early = record {
    text = goes.text;
    read = record {
      taken = failed.taken ∙ goes.read.taken;
      content = λ told. goes.read.content told ∙ ap (λ (left : List ℕ). goes.text ++ left) (sym (failed.content told));
    };
    part = part_of_first out_tells o n [] goes.text held goes.listens.requests talker goes.listens.heard.first goes.listens.replied;
  };
  short = omega (arith, goes.counted, goes.short);
  rose = rw (← goes.in_faults) failed.faults;
  out_faults = goes.listens.replied.faults;
}

-- one byte too many was taken
pub ends_by_length : (in_tells out_tells : Type 0) (i j k : Feed) (o n : Drain) (taken count : ℕ) (held : List ℕ) (talker : Talker) (buf : List ℕ)
    → Goes in_tells out_tells i j o n taken held talker → TookBytes in_tells j k buf count → taken ≡ input_limit → taken + count ≡ input_limit + 1
    → EndsByLength in_tells out_tells i k o n
ends_by_length in_tells out_tells i j k o n taken count held talker buf goes took full long = record {
  early = record {
    text = goes.text ++ take count buf;
    read = read_more in_tells i j k goes.text buf count goes.read took;
    part = part_of_first out_tells o n [] (goes.text ++ take count buf) _ goes.listens.requests talker
        (more_came asked goes.text (take count buf) held (take count buf) goes.listens.requests refl goes.listens.heard) goes.listens.replied;
  };
  long = length-more goes.text buf count took.within ∙ ap (λ (c : ℕ). c + count) goes.counted ∙ long;
  in_time = record {
    earlier = goes.text;
    piece = take count buf;
    whole = refl;
    short = omega (arith, length-take count buf, took.within, full, long);
    messages = goes.listens.heard.first.messages;
    unbroken = goes.listens.heard.read;
  };
  last = omega (arith, length-take count buf, took.within, full, long);
  in_faults = took.faults ∙ goes.in_faults;
  out_faults = goes.listens.replied.faults;
}

-- a take can pass the limit only where all bytes before it were taken
pub at_limit : (taken room count : ℕ) → taken ≤ input_limit → (taken < input_limit → taken + room ≤ input_limit) → count ≤ room → input_limit < taken + count
    → taken ≡ input_limit
at_limit taken room count short below within over =
    let all : taken < input_limit → ⊥ = λ less. omega (arith, below less, within, over) in
    omega (arith, short, all)
