-- What a burst gave.
use Rattle.std.proofs.Common.{◌≡◌, ℕ, ◌≤◌, Bool, true, false, ◌&&◌, List, [], ◌∷◌, ◌++◌, length, flat_map, not, IsSome, Result, Ok, Err, refl, sym, ap, ◌∙◌, subst, arith}
use Rattle.std.proofs.lemmas.Bool.{and_parts}
use Rattle.satip_base.specs.Output.{Datagram, Output}
use Rattle.satip_base.specs.declared.entry.Taken.{Taken}
use Rattle.satip_base.specs.History.{entries}
use Rattle.satip_base.specs.Lists.{Each}
use Rattle.satip_plain.specs.declared.answers.Answer.{Answer}
use Rattle.satip_plain.specs.declared.answers.Work.{Work}
use Rattle.satip_plain.specs.declared.events.Event.{Event}
use Rattle.satip_plain.specs.declared.fault.ServiceFault.{ServiceFault}
use Rattle.satip_plain.specs.Known.{Known, AddsAll}
use Rattle.satip_plain.specs.Suits.{Suits}
use Rattle.satip_world.specs.Deliveries.{Delivers}
use Rattle.satip_world.specs.Outboxes.{Outbox, locked, unlocked}
use Rattle.satip_world.proofs.DeliveryLemmas.{delivers_within, unsent_within}
use Rattle.satip_pump.specs.Buffers.{Buffered}
use Rattle.satip_base.specs.Bundles.{Bundle}
use Rattle.satip_pump.specs.Bundles.{has_room}
use Rattle.satip_pump.specs.Events.{Makes}
use Rattle.satip_pump.specs.Loads.{Loaded, datagrams_left, is_of, may_give, given_event, Gives, Took}
use Rattle.satip_plain.specs.Pumping.{work_told}
use Rattle.satip_pump.specs.Works.{Gave, GaveEnds}
use Rattle.satip_pump.proofs.LoadLemmas.{not_left}

-- no more packets are left than there were
pub gives_fewer : (front tune : ℕ) (packets : List (List ℕ)) (work : Work) (ts : List (Taken Event Answer Output)) (left : List (List ℕ)) (last : Work)
    → Gives front tune packets work ts left last → length left ≤ length packets
gives_fewer front tune packets work [] left last gives =
    let same : length left ≡ length packets = ap length gives.0 in
    omega arith
gives_fewer front tune packets work (t ∷ ts) left last gives =
    let rest = gives_fewer front tune gives.1 (work_told t.answer) ts left last gives.5 in
    let size : length packets ≡ length (gives.0 ∷ gives.1) = ap length gives.2 in
    omega (arith, rest, size)

-- an event was given only if it might be
given_allows : (flag may : Bool) (front tune : ℕ) (packets : List (List ℕ)) → IsSome (given_event flag may front tune packets) → may ≡ true
given_allows true true front tune packets some = refl
given_allows true false front tune packets some = absurd (cc some)
given_allows false may front tune packets some = absurd (cc some)

-- an event that was given is of the load's tuning
pub given_is_of : (flag : Bool) (front tune : ℕ) (work : Work) (bundle : Bundle) (none_left : Bool) (packets : List (List ℕ))
    → IsSome (given_event flag (may_give tune work bundle none_left) front tune packets) → is_of tune work ≡ true
given_is_of flag front tune work bundle none_left packets some =
    (and_parts (is_of tune work) (has_room bundle && none_left) (given_allows flag (may_give tune work bundle none_left) front tune packets some)).0

-- and no datagrams were left in an output, so those of this one are as good
pub given_left_in : (flag : Bool) (front tune : ℕ) (work : Work) (bundle : Bundle) (left : Bool) (packets : List (List ℕ)) (last out : Output)
    → IsSome (given_event flag (may_give tune work bundle (not left)) front tune packets) → datagrams_left left out ≡ datagrams_left left last
given_left_in flag front tune work bundle left packets last out some =
    let may = may_give tune work bundle (not left) in
    let both = and_parts (is_of tune work) (has_room bundle && not left) (given_allows flag may front tune packets some) in
    let P : Bool → Type 0 = λ b. datagrams_left b out ≡ datagrams_left b last in
    subst P (sym (not_left left (and_parts (has_room bundle) (not left) both.1).1)) refl

pub gave_fewer : (may_want : Bool) (front tune : ℕ) (work : Work) (k l : Known) (tells : Type 0) (o n : Outbox) (q r : Buffered)
    (result : Result Work ServiceFault)
    → Gave may_want tells front tune work (record { known = k; outbox = o; buffered = q }) (record { known = l; outbox = n; buffered = r }) result
    → length r.packets ≤ length q.packets
gave_fewer may_want front tune work k l tells o n q r result gave = gives_fewer front tune q.packets work gave.taken r.packets gave.last gave.gives

pub record Burst (may_want : Bool) (k l : Known) (tells : Type 0) (o n : Outbox) (f g : Loaded) (result : Result Work ServiceFault) : Type 0 where
  pub caller : ℕ
  pub taken : List (Taken Event Answer Output)
  pub took : Took f g taken
  pub suit : Each (λ t. Suits t.event t.answer) taken
  pub adds : AddsAll k l (entries caller taken)
  pub delivers : Delivers tells o n g.datagrams
  pub ends : GaveEnds may_want l f.tune g.work result

pub gave_by : (may_want : Bool) (k l : Known) (tells : Type 0) (o n : Outbox) (f g : Loaded) (q r : Buffered) (result : Result Work ServiceFault)
    → r ≡ g.buffered → f.buffered ≡ q → f.datagrams ≡ [] → Burst may_want k l tells o n f g result
    → Gave may_want tells f.front f.tune f.work (record { known = k; outbox = o; buffered = q }) (record { known = l; outbox = n; buffered = r }) result
gave_by may_want k l tells o n f g q r result is first none burst =
    let P : List Datagram → Type 0 = λ ds. Delivers tells o n ds in
    let sent : g.datagrams ≡ flat_map (λ (t : Taken Event Answer Output). t.out.datagrams) burst.taken =
    burst.took.datagrams ∙ ap (λ (ds : List Datagram). ds ++ flat_map (λ (t : Taken Event Answer Output). t.out.datagrams) burst.taken) none in
    record {
      caller = burst.caller;
      taken = burst.taken;
      last = g.work;
      gives = rw (is, ← first) burst.took.gives;
      rest = rw (is, ← first) burst.took.rest;
      suit = burst.suit;
      adds = burst.adds;
      delivers = subst P sent burst.delivers;
      ends = burst.ends;
    }

pub none_waits : (packets : List (List ℕ)) → length packets ≡ 0 → packets ≡ []
none_waits [] none = refl
none_waits (p ∷ ps) none = absurd (omega arith)

-- an event that was made between a lock and an unlock
pub makes_locked : (may_want : Bool) (k l : Known) (tells : Type 0) (o p m n : Outbox) (event : Event) (result : Result Answer ServiceFault)
    → o.held ≡ false → p ≡ locked o → n ≡ unlocked m → Makes may_want k l tells p m event result → Makes may_want k l tells o n event result
makes_locked may_want k l tells o p m n event (Ok answer) free into out made = record {
  caller = made.caller;
  out = made.out;
  adds = made.adds;
  suits = made.suits;
  delivers = delivers_within tells o p m n made.out.datagrams into out made.delivers;
}
makes_locked may_want k l tells o p m n event (Err fault) free into out none = record {
  unmade = none.unmade;
  unsent = unsent_within o p m n free into out none.unsent;
}
