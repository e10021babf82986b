-- The service of the tests.
use Rattle.std.proofs.Common.{◌≡◌, ℕ, ◌-◌, Bool, true, false, List, [], ◌∷◌, ◌++◌, length, ap, sym, ◌∙◌, arith, refl, inl, lit≤, Option, Some, None, Ok, Err, is_some}
use Rattle.std.proofs.lemmas.List.{append-nil}
use Rattle.satip_base.specs.Output.{Output, Wrote}
use Rattle.satip_base.specs.History.{entry}
use Rattle.satip_plain.specs.declared.answers.Answer.{Answer}
use Rattle.satip_plain.specs.declared.events.Event.{Event}
use Rattle.satip_plain.specs.Histories.{Item}
use Rattle.satip_plain.specs.Known.{AddsNone}
use Rattle.satip_base.specs.declared.entry.Taken.{Taken}
use Rattle.satip_plain.proofs.Growing.{adds_nothing}
use Rattle.satip_plain.specs.declared.fault.ServiceFault.TheVariants.{Want}
use Rattle.satip_plain.specs.Calls.{Made, Bursts}
use Rattle.satip_plain.specs.Suits.{Suits}
use Rattle.satip_worker_tests.specs.WorkerScripts.{known_of, begun, out_of, reply_text}

pub made_next : (h i : List Item) (event : Event) (answer : Answer) (out : Output) → i ≡ h ++ entry 0 event answer out ∷ [] → Suits event answer
    → Made (known_of h) (known_of i) event answer out
made_next h i event answer out is suits = record {
  caller = 0;
  adds = record {
    between = [];
    seen = is ∙ ap (λ (s : List Item). s ++ entry 0 event answer out ∷ []) (sym (append-nil h));
    own = is;
  };
  suits = suits;
}

pub adds_same : (h i : List Item) → i ≡ h → AddsNone (known_of h) (known_of i)
adds_same h i is = record { more = []; seen = is ∙ sym (append-nil h); own = is }

-- a reply behind datagrams
pub wrote_out : (sends : Bool) (code : ℕ) (o : Output) → Wrote (begun sends) (reply_text code) o → o ≡ out_of code sends
wrote_out false code o wrote =
    let spare : o.reply_spare ≡ 131072 - length (reply_text code) = omega (arith, wrote.reply_spare) in
    λ i. record {
      reply = wrote.reply i;
      datagrams = wrote.datagrams i;
      reply_spare = spare i;
      datagram_spare = wrote.datagram_spare i;
      count_spare = wrote.count_spare i;
    }
wrote_out true code o wrote =
    let spare : o.reply_spare ≡ 131072 - length (reply_text code) = omega (arith, wrote.reply_spare) in
    λ i. record {
      reply = wrote.reply i;
      datagrams = wrote.datagrams i;
      reply_spare = spare i;
      datagram_spare = wrote.datagram_spare i;
      count_spare = wrote.count_spare i;
    }

-- a burst of which no event was made
pub refused_burst : (h : List Item) (ended : Bool) (given : Option Event) (event : Event) (has : List (Taken Event Answer Output) → Type 0)
    → has [] → given ≡ Some event → Bursts true (known_of h) (known_of h) ended given has (Err Want)
refused_burst h ended given event has none is = record {
  caller = 0;
  taken = [];
  has = none;
  most = lit≤ tt;
  suit = tt;
  adds = adds_nothing (known_of h);
  ends = (ap (λ (e : Option Event). is_some e) is, refl);
}

-- a burst without events
pub ended_burst : (h : List Item) (ended : Bool) (given : Option Event) (has : List (Taken Event Answer Output) → Type 0) (done : Unit {0})
    → has [] → given ≡ None → ended ≡ true → Bursts true (known_of h) (known_of h) ended given has (Ok done)
ended_burst h ended given has done none is over = record {
  caller = 0;
  taken = [];
  has = none;
  most = lit≤ tt;
  suit = tt;
  adds = adds_nothing (known_of h);
  ends = (is, inl over);
}
