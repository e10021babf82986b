-- What a service, an outlet and a connection do one after another.
use Rattle.std.proofs.Common.{◌≡◌, ℕ, suc, ◌≤◌, ◌⊎◌, inl, inr, Bool, List, [], ◌∷◌, ◌++◌, append_assoc, arith, sym, ap, ◌∙◌, subst, take, refl, Result, Ok, Err}
use Rattle.std.proofs.lemmas.List.{append-nil}
use Rattle.std.proofs.lemmas.List.Concat.{flat_map-append}
use Rattle.satip_base.specs.Output.{Datagram, Output}
use Rattle.satip_base.specs.History.{entry}
use Rattle.satip_plain.specs.Histories.{Item}
use Rattle.satip_plain.specs.declared.answers.Answer.{Answer}
use Rattle.satip_plain.specs.declared.events.Event.{Event}
use Rattle.satip_world.specs.Counts.{Rises}
use Rattle.satip_world.specs.Lines.{Line, SameCounts, GotBytes, WasIdle, InputEnded, ReceiveFailed}
use Rattle.satip_world.specs.Outboxes.{Outbox, locked, unlocked}
use Rattle.satip_world.specs.Deliveries.{Delivers}
use Rattle.satip_world.proofs.DeliveryLemmas.{delivers_none, delivers_then, delivers_within}
use Rattle.satip_plain.specs.Known.{Known}
use Rattle.satip_plain.specs.Calls.{Made, Unmade}
use Rattle.satip_plain.specs.declared.fault.ServiceFault.{ServiceFault}
use Rattle.satip_plain.proofs.Growing.{adds_nothing, adds_then, adds_one, adds_no_more}
use Rattle.satip_worker.specs.Answers.{datagrams_of}
use Rattle.satip_worker.specs.Progress.{Stage, Makes, Carries, SameFaults}
use Rattle.satip_worker.specs.Making.{MadeEvent, UnmadeEvent, MakesEvent}

-- nothing was made yet
pub makes_nothing : (tells : Type 0) (o : Stage) → Makes tells o o []
makes_nothing tells o = record { may_want = refl; adds = adds_nothing o.known; delivers = delivers_none tells o.outbox }

-- some entries behind others
pub makes_then : (tells : Type 0) (o m n : Stage) (xs ys : List Item) → Makes tells o m xs → Makes tells m n ys → Makes tells o n (xs ++ ys)
makes_then tells o m n xs ys first second =
    let P : List Datagram → Type 0 = λ ds. Delivers tells o.outbox n.outbox ds in
    record {
      may_want = second.may_want ∙ first.may_want;
      adds = adds_then o.known m.known n.known xs ys first.adds second.adds;
      delivers = subst P (sym (flat_map-append (λ (e : Item). e.out.datagrams) xs ys))
          (delivers_then tells o.outbox m.outbox n.outbox (datagrams_of xs) (datagrams_of ys) first.delivers second.delivers);
    }

-- one entry
pub made_event : (tells : Type 0) (may_want may_want' : Bool) (k l : Known) (before after : Outbox) (event : Event) (answer : Answer) (out : Output)
    → may_want' ≡ may_want → Made k l event answer out → Delivers tells before after out.datagrams
    → MadeEvent tells (record { may_want = may_want; known = k; outbox = before })
    (record { may_want = may_want'; known = l; outbox = after }) event answer out
made_event tells may_want may_want' k l before after event answer out same made delivers =
    let P : List Datagram → Type 0 = λ ds. Delivers tells before after ds in
    record {
      caller = made.caller;
      suits = made.suits;
      makes = record {
        may_want = same;
        adds = adds_one k l (entry made.caller event answer out) made.adds;
        delivers = subst P (sym (append-nil out.datagrams)) delivers;
      };
    }

-- no entry
pub unmade_event : (tells : Type 0) (may_want may_want' : Bool) (k l : Known) (before : Outbox) (fault : ServiceFault)
    → may_want' ≡ may_want → Unmade may_want k l fault
    → UnmadeEvent tells (record { may_want = may_want; known = k; outbox = before })
    (record { may_want = may_want'; known = l; outbox = before }) fault
unmade_event tells may_want may_want' k l before fault same unmade = record {
  makes = record { may_want = same; adds = adds_no_more k l unmade.adds; delivers = delivers_none tells before };
  cause = unmade.cause;
}

-- what was made between a lock and an unlock
makes_within : (tells : Type 0) (may_want may_want' : Bool) (k l : Known) (o p m n : Outbox) (entries : List Item) → p ≡ locked o → n ≡ unlocked m
    → Makes tells (record { may_want = may_want; known = k; outbox = p }) (record { may_want = may_want'; known = l; outbox = m }) entries
    → Makes tells (record { may_want = may_want; known = k; outbox = o }) (record { may_want = may_want'; known = l; outbox = n }) entries
makes_within tells may_want may_want' k l o p m n entries into out makes = record {
  may_want = makes.may_want;
  adds = makes.adds;
  delivers = delivers_within tells o p m n (datagrams_of entries) into out makes.delivers;
}

pub event_locked : (tells : Type 0) (may_want may_want' : Bool) (k l : Known) (o p m n : Outbox) (event : Event) (out : Output)
    (result : Result Answer ServiceFault)
    → p ≡ locked o → n ≡ unlocked m
    → MakesEvent tells (record { may_want = may_want; known = k; outbox = p }) (record { may_want = may_want'; known = l; outbox = m }) event out result
    → MakesEvent tells (record { may_want = may_want; known = k; outbox = o }) (record { may_want = may_want'; known = l; outbox = n }) event out result
event_locked tells may_want may_want' k l o p m n event out (Ok answer) into freed made = record {
  caller = made.caller;
  suits = made.suits;
  makes = makes_within tells may_want may_want' k l o p m n (entry made.caller event answer out ∷ []) into freed made.makes;
}
event_locked tells may_want may_want' k l o p m n event out (Err fault) into freed unmade = record {
  makes = makes_within tells may_want may_want' k l o p m n [] into freed unmade.makes;
  cause = unmade.cause;
}

-- no receive and no send failed yet
pub calm_from : (l : Line) → SameFaults l l
calm_from l = record { receive_faults = refl; send_faults = refl }

-- and none later
pub calm_then : (l m n : Line) → SameFaults l m → SameFaults m n → SameFaults l n
calm_then l m n first second = record {
  receive_faults = second.receive_faults ∙ first.receive_faults;
  send_faults = second.send_faults ∙ first.send_faults;
}

-- no count rose
pub calm_counts : (m n : Line) → SameCounts m n → SameFaults m n
calm_counts m n counts = record { receive_faults = counts.receive_faults; send_faults = counts.send_faults }

-- nothing came in
pub calm_idle : (tells : Type 0) (m n : Line) → WasIdle tells m n → SameFaults m n
calm_idle tells m n idle = record { receive_faults = idle.receive_faults; send_faults = idle.send_faults }

-- nothing was received or sent yet
pub carries_nothing : (tells : Type 0) (l : Line) → Carries tells l l [] []
carries_nothing tells l = record {
  content = record { received = λ _. sym (append-nil l.received); sent = λ _. sym (append-nil l.sent) };
  idles = omega arith;
  receive_faults = omega arith;
  send_faults = omega arith;
}

-- some bytes behind others
pub carries_then : (tells : Type 0) (l m n : Line) (a b c d : List ℕ) → Carries tells l m a b → Carries tells m n c d
    → Carries tells l n (a ++ c) (b ++ d)
carries_then tells l m n a b c d first second = record {
  content = record {
    received = λ told. second.content.received told ∙ ap (λ (t : List ℕ). t ++ c) (first.content.received told)
        ∙ append_assoc l.received a c;
    sent = λ told. second.content.sent told ∙ ap (λ (t : List ℕ). t ++ d) (first.content.sent told) ∙ append_assoc l.sent b d;
  };
  idles = omega (arith, first.idles, second.idles);
  receive_faults = omega (arith, first.receive_faults, second.receive_faults);
  send_faults = omega (arith, first.send_faults, second.send_faults);
}

rose_from : (a b c : ℕ) → a ≤ b → (suc b ≤ c) ⊎ (18446744073709551615 ≤ c) → (suc a ≤ c) ⊎ (18446744073709551615 ≤ c)
rose_from a b c before (inl more) = inl (omega arith)
rose_from a b c before (inr last) = inr last

-- a count that rose later rose
pub rises_from : (a b c : ℕ) → a ≤ b → Rises b c → Rises a c
rises_from a b c before rises = record { rose = rose_from a b c before rises.rose; kept = omega (arith, before, rises.kept) }

-- more was sent
pub carries_sent : (tells : Type 0) (l m n : Line) (a b d : List ℕ) → Carries tells l m a b → Carries tells m n [] d → Carries tells l n a (b ++ d)
carries_sent tells l m n a b d first second =
    let P : List ℕ → Type 0 = λ r. Carries tells l n r (b ++ d) in
    subst P (append-nil a) (carries_then tells l m n a b [] d first second)

-- more was received
pub carries_received : (tells : Type 0) (l m n : Line) (a b c : List ℕ) → Carries tells l m a b → Carries tells m n c [] → Carries tells l n (a ++ c) b
carries_received tells l m n a b c first second =
    let P : List ℕ → Type 0 = λ s. Carries tells l n (a ++ c) s in
    subst P (append-nil b) (carries_then tells l m n a b c [] first second)

-- nothing more was received or sent
pub carries_on : (tells : Type 0) (l m n : Line) (a b : List ℕ) → Carries tells l m a b → Carries tells m n [] [] → Carries tells l n a b
carries_on tells l m n a b first second =
    let P : List ℕ → Type 0 = λ s. Carries tells l n a s in
    subst P (append-nil b) (carries_sent tells l m n a b [] first second)

-- some bytes came in
pub carries_got : (tells : Type 0) (l m n : Line) (text sent buf : List ℕ) (count : ℕ) → Carries tells l m text sent → GotBytes tells m n buf count
    → Carries tells l n (text ++ take count buf) sent
carries_got tells l m n text sent buf count before got =
    carries_received tells l m n text sent (take count buf) before (record {
      content = got.content;
      idles = omega (arith, got.counts.idles);
      receive_faults = omega (arith, got.counts.receive_faults);
      send_faults = omega (arith, got.counts.send_faults);
    })

-- nothing came in
pub carries_idle : (tells : Type 0) (m n : Line) → WasIdle tells m n → Carries tells m n [] []
carries_idle tells m n idle = record {
  content = idle.content;
  idles = idle.idles.kept;
  receive_faults = omega (arith, idle.receive_faults);
  send_faults = omega (arith, idle.send_faults);
}

-- the input ended
pub carries_ended : (tells : Type 0) (m n : Line) → InputEnded tells m n → Carries tells m n [] []
carries_ended tells m n ended = record {
  content = ended.content;
  idles = omega (arith, ended.counts.idles);
  receive_faults = omega (arith, ended.counts.receive_faults);
  send_faults = omega (arith, ended.counts.send_faults);
}

-- a receive failed
pub carries_failed : (tells : Type 0) (m n : Line) → ReceiveFailed tells m n → Carries tells m n [] []
carries_failed tells m n failed = record {
  content = failed.content;
  idles = omega (arith, failed.idles);
  receive_faults = failed.receive_faults.kept;
  send_faults = omega (arith, failed.send_faults);
}
