-- A ticker's run, tick by tick.
use Rattle.std.proofs.Common.{◌≡◌, ℕ, Bool, true, List, [], ◌∷◌, ◌++◌, map, Some, None, append_assoc, append-nil, refl, sym, ap, ◌∙◌, subst}
use Rattle.std.proofs.lemmas.List.{map-append}
use Rattle.std.proofs.lemmas.List.Concat.{flat_map-append}
use Rattle.satip_base.specs.Output.{Datagram}
use Rattle.satip_base.specs.History.{entry}
use Rattle.satip_base.specs.Lists.{Each}
use Rattle.satip_plain.specs.declared.answers.Answer.{Answer}
use Rattle.satip_plain.specs.declared.answers.Answer.TheVariants.{Beat}
use Rattle.satip_plain.specs.declared.answers.Beat.TheVariants.{Going, Stopping}
use Rattle.satip_plain.specs.declared.events.Event.{Event}
use Rattle.satip_plain.specs.declared.events.Event.TheVariants.{Tick}
use Rattle.satip_plain.specs.Histories.{Item}
use Rattle.satip_plain.specs.declared.fault.ServiceFault.{ServiceFault}
use Rattle.satip_plain.specs.Known.{Known, AddsAll}
use Rattle.satip_plain.proofs.Growing.{adds_nothing, adds_then, adds_one, adds_no_more}
use Rattle.satip_world.specs.Deliveries.{Delivers}
use Rattle.satip_world.specs.Dials.{Dial, Reads}
use Rattle.satip_world.specs.Outboxes.{Outbox}
use Rattle.satip_world.proofs.DeliveryLemmas.{delivers_none, delivers_then}
use Rattle.satip_pump.specs.declared.ends.JobEnd.{JobEnd}
use Rattle.satip_pump.specs.declared.ends.JobEnd.TheVariants.{Stopped, Spent, Want}
use Rattle.satip_pump.specs.Events.{MakesOne, MakesNone, datagrams_of}
use Rattle.satip_pump.specs.TickRuns.{IsGoing, TickRun, Ticked}

-- the ticks so far, after each of which the service goes on
pub record Ticks (k l : Known) (c d : Dial) (tells : Type 0) (o n : Outbox) : Type 0 where
  pub entries : List Item
  pub moments : List ℕ
  pub adds : AddsAll k l entries
  pub events : map (λ (e : Item). e.event) entries ≡ map Tick moments
  pub told : d.told ≡ true → c.told ≡ true
  pub readings : d.told ≡ true → d.readings ≡ c.readings ++ moments
  pub going : Each IsGoing entries
  pub delivers : Delivers tells o n (datagrams_of entries)

-- no tick was made yet
pub ticks_none : (k : Known) (c : Dial) (tells : Type 0) (o : Outbox) → Ticks k k c c tells o o
ticks_none k c tells o = record {
  entries = [];
  moments = [];
  adds = adds_nothing k;
  events = refl;
  told = λ still. still;
  readings = λ _. sym (append-nil c.readings);
  going = tt;
  delivers = delivers_none tells o;
}

pub each-append : (es fs : List Item) → Each IsGoing es → Each IsGoing fs → Each IsGoing (es ++ fs)
each-append [] fs a b = b
each-append (e ∷ es) fs a b = (a.0, each-append es fs a.1 b)

-- the datagrams of an entry behind others
pub datagrams-append : (es fs : List Item) → datagrams_of (es ++ fs) ≡ datagrams_of es ++ datagrams_of fs
datagrams-append es fs = flat_map-append (λ (e : Item). e.out.datagrams) es fs

pub delivers_both : (tells : Type 0) (o m n : Outbox) (es fs : List Item) → Delivers tells o m (datagrams_of es) → Delivers tells m n (datagrams_of fs)
    → Delivers tells o n (datagrams_of (es ++ fs))
delivers_both tells o m n es fs first second =
    let P : List Datagram → Type 0 = λ ds. Delivers tells o n ds in
    subst P (sym (datagrams-append es fs)) (delivers_then tells o m n (datagrams_of es) (datagrams_of fs) first second)

pub delivers_entry : (tells : Type 0) (o n : Outbox) (e : Item) → Delivers tells o n e.out.datagrams → Delivers tells o n (datagrams_of (e ∷ []))
delivers_entry tells o n e delivers =
    let P : List Datagram → Type 0 = λ ds. Delivers tells o n ds in
    subst P (sym (append-nil e.out.datagrams)) delivers

read_behind : (c d e : Dial) (moments : List ℕ) (now : ℕ) → (d.told ≡ true → d.readings ≡ c.readings ++ moments) → Reads d e now
    → e.told ≡ true → e.readings ≡ c.readings ++ (moments ++ now ∷ [])
read_behind c d e moments now before reads told =
    reads.readings told ∙ ap (λ (rs : List ℕ). rs ++ now ∷ []) (before (reads.told told)) ∙ append_assoc c.readings moments (now ∷ [])

-- a tick more
pub record TickedOnce (k l m : Known) (c d e : Dial) (tells : Type 0) (o n p : Outbox) (answer : Answer) (entries : List Item) (moments : List ℕ) : Type 0 where
  pub last : Item
  pub answered : last.answer ≡ answer
  pub adds : AddsAll k m (entries ++ last ∷ [])
  pub events : map (λ (x : Item). x.event) (entries ++ last ∷ []) ≡ map Tick moments
  pub readings : e.told ≡ true → e.readings ≡ c.readings ++ moments
  pub delivers : Delivers tells o p (datagrams_of (entries ++ last ∷ []))

tick_once : (k l m : Known) (c d e : Dial) (tells : Type 0) (o n p : Outbox) (now : ℕ) (answer : Answer) (before : Ticks k l c d tells o n)
    → Reads d e now → MakesOne l m tells n p (Tick now) answer
    → TickedOnce k l m c d e tells o n p answer before.entries (before.moments ++ now ∷ [])
tick_once k l m c d e tells o n p now answer before reads makes =
    let last : Item = entry makes.caller (Tick now) answer makes.out in
    record {
      last = last;
      answered = refl;
      adds = adds_then k l m before.entries (last ∷ []) before.adds (adds_one l m last makes.adds);
      events = map-append (λ (x : Item). x.event) before.entries (last ∷ [])
          ∙ ap (λ (xs : List Event). xs ++ Tick now ∷ []) before.events
          ∙ sym (map-append Tick before.moments (now ∷ []));
      readings = read_behind c d e before.moments now before.readings reads;
      delivers = delivers_both tells o n p before.entries (last ∷ []) before.delivers (delivers_entry tells n p last makes.delivers);
    }

pub ticks_more : (may_want : Bool) (k l m : Known) (c d e : Dial) (tells : Type 0) (o n p : Outbox) (now : ℕ) → Ticks k l c d tells o n
    → Reads d e now → Ticked may_want l m tells n p now None → Ticks k m c e tells o p
ticks_more may_want k l m c d e tells o n p now before reads makes =
    let once = tick_once k l m c d e tells o n p now (Beat Going) before reads makes in
    record {
      entries = before.entries ++ once.last ∷ [];
      moments = before.moments ++ now ∷ [];
      adds = once.adds;
      events = once.events;
      told = λ still. before.told (reads.told still);
      readings = once.readings;
      going = each-append before.entries (once.last ∷ []) before.going (once.answered, tt);
      delivers = once.delivers;
    }

pub record TicksEndSo (k m : Known) (c e : Dial) (tells : Type 0) (o p : Outbox) (entries : List Item) (moments : List ℕ) (now : ℕ) : Type 0 where
  pub adds : AddsAll k m entries
  pub readings : e.told ≡ true → e.readings ≡ c.readings ++ (moments ++ now ∷ [])
  pub delivers : Delivers tells o p (datagrams_of entries)

-- a tick that has no entry
unmade_ends : (may_want : Bool) (fault : ServiceFault) (end : JobEnd) (k l m : Known) (c d e : Dial) (tells : Type 0) (o n p : Outbox) (now : ℕ)
    → (before : Ticks k l c d tells o n) → Reads d e now → MakesNone may_want l m n p fault
    → TicksEndSo k m c e tells o p before.entries before.moments now
unmade_ends may_want fault end k l m c d e tells o n p now before reads makes =
    let P : Outbox → Type 0 = λ q. Delivers tells o q (datagrams_of before.entries) in
    let Q : List Item → Type 0 = λ es. AddsAll k m es in
    record {
      adds = subst Q (append-nil before.entries) (adds_then k l m before.entries [] before.adds (adds_no_more l m makes.unmade.adds));
      readings = read_behind c d e before.moments now before.readings reads;
      delivers = subst P (sym makes.unsent) before.delivers;
    }

pub ends_run : (may_want : Bool) (end : JobEnd) (k l m : Known) (c d e : Dial) (tells : Type 0) (o n p : Outbox) (now : ℕ)
    → Ticks k l c d tells o n → Reads d e now → Ticked may_want l m tells n p now (Some end) → TickRun k m c e tells o p end
ends_run may_want Stopped k l m c d e tells o n p now before reads makes =
    let once = tick_once k l m c d e tells o n p now (Beat Stopping) before reads makes in
    record {
      entries = before.entries ++ once.last ∷ [];
      moments = before.moments ++ now ∷ [];
      unmade = [];
      adds = once.adds;
      events = once.events;
      told = λ still. before.told (reads.told still);
      readings = λ told. once.readings told ∙ ap (λ (ms : List ℕ). c.readings ++ ms) (sym (append-nil (before.moments ++ now ∷ [])));
      ends = (record { before = before.entries; last = once.last; are = refl; going = before.going; stopping = once.answered }, refl);
      delivers = once.delivers;
    }
ends_run may_want Spent k l m c d e tells o n p now before reads makes =
    let ended = unmade_ends may_want _ Spent k l m c d e tells o n p now before reads makes in
    record {
      entries = before.entries;
      moments = before.moments;
      unmade = now ∷ [];
      adds = ended.adds;
      events = before.events;
      told = λ still. before.told (reads.told still);
      readings = ended.readings;
      ends = (before.going, (now, refl));
      delivers = ended.delivers;
    }
ends_run may_want Want k l m c d e tells o n p now before reads makes =
    let ended = unmade_ends may_want _ Want k l m c d e tells o n p now before reads makes in
    record {
      entries = before.entries;
      moments = before.moments;
      unmade = now ∷ [];
      adds = ended.adds;
      events = before.events;
      told = λ still. before.told (reads.told still);
      readings = ended.readings;
      ends = (before.going, (now, refl));
      delivers = ended.delivers;
    }

-- why a job ended so
pub spent_cause : (may_want : Bool) (end : JobEnd) (l m : Known) (tells : Type 0) (n p : Outbox) (now : ℕ) → Ticked may_want l m tells n p now (Some end)
    → end ≡ Spent → m.length ≡ 18446744073709551615
spent_cause may_want Stopped l m tells n p now makes is = absurd (cc is)
spent_cause may_want Spent l m tells n p now makes is = makes.unmade.cause
spent_cause may_want Want l m tells n p now makes is = absurd (cc is)

pub want_cause : (may_want : Bool) (end : JobEnd) (l m : Known) (tells : Type 0) (n p : Outbox) (now : ℕ) → Ticked may_want l m tells n p now (Some end)
    → end ≡ Want → may_want ≡ true
want_cause may_want Stopped l m tells n p now makes is = absurd (cc is)
want_cause may_want Spent l m tells n p now makes is = absurd (cc is)
want_cause may_want Want l m tells n p now makes is = makes.unmade.cause
