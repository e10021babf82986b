-- The pauses of jobs, entry by entry.
use Rattle.std.proofs.Common.{◌≡◌, ℕ, suc, ◌+◌, ◌≤◌, Bool, true, List, [], ◌∷◌, ◌++◌, length, length-append, Some, Result, Ok, Err, refl, sym, ap, ◌∙◌, subst, append-nil, append_assoc, arith}
use Rattle.satip_base.specs.Output.{Output}
use Rattle.satip_base.specs.declared.entry.Taken.{Taken}
use Rattle.satip_base.specs.History.{entry, entries}
use Rattle.satip_plain.specs.declared.answers.Answer.{Answer}
use Rattle.satip_plain.specs.declared.answers.Answer.TheVariants.{Beat, Work as WorkIs}
use Rattle.satip_plain.specs.declared.answers.Beat.TheVariants.{Stopping as BeatStopping}
use Rattle.satip_plain.specs.declared.answers.Work.{Work}
use Rattle.satip_plain.specs.declared.answers.Work.TheVariants.{Tune, Nothing, Stopping}
use Rattle.satip_plain.specs.declared.events.Event.{Event}
use Rattle.satip_plain.specs.declared.events.Event.TheVariants.{Tick}
use Rattle.satip_plain.specs.Histories.{Item}
use Rattle.satip_plain.specs.Pumping.{work_told}
use Rattle.satip_plain.specs.declared.fault.ServiceFault.{ServiceFault}
use Rattle.satip_plain.specs.Known.{Known}
use Rattle.satip_world.specs.Counts.{Rises}
use Rattle.satip_world.specs.Pausing.{RisesBy}
use Rattle.satip_world.specs.Outboxes.{Outbox}
use Rattle.satip_pump.specs.declared.ends.JobEnd.{JobEnd}
use Rattle.satip_pump.specs.declared.ends.JobEnd.TheVariants.{Stopped, Spent, Want}
use Rattle.satip_pump.specs.Buffers.{Buffered}
use Rattle.satip_pump.specs.Loads.{is_of, Gives}
use Rattle.satip_pump.specs.Works.{Works, Gave}
use Rattle.satip_pump.specs.TickRuns.{Ticked}
use Rattle.satip_world.proofs.PausingLemmas.{rises_none, rises_once, rises_same}
use Rattle.satip_pump.specs.Pauses.{Paced, TickPauses, idle_in, one_if_nothing, one_if_packet, owed_by, packets_in}

packets-append : (es fs : List Item) → packets_in (es ++ fs) ≡ packets_in es + packets_in fs
packets-append [] fs = omega arith
packets-append (e ∷ es) fs =
    let rest = packets-append es fs in
    omega (arith, rest)

idle-append : (es fs : List Item) → idle_in (es ++ fs) ≡ idle_in es + idle_in fs
idle-append [] fs = omega arith
idle-append (e ∷ es) fs =
    let rest = idle-append es fs in
    omega (arith, rest)

-- nothing was made yet
pub paced_none : (own : List Item) (p : ℕ) → Paced own own p p 0 0
paced_none own p = record {
  entries = [];
  made = sym (append-nil own);
  full = 0;
  idles = 0;
  packets = refl;
  idle = refl;
  rose = rises_none p;
}

-- some entries more
pub paced_then : (own own' own'' es : List Item) (p q since n owed : ℕ) → Paced own own' p q since 0 → own'' ≡ own' ++ es → packets_in es ≡ n
    → idle_in es ≡ owed
    → Paced own own'' p q (since + n) owed
paced_then own own' own'' es p q since n owed paced made packets idle =
    let before = paced.packets in
    let idle_before = paced.idle in
    record {
      entries = paced.entries ++ es;
      made = made ∙ ap (λ (h : List Item). h ++ es) paced.made ∙ append_assoc own paced.entries es;
      full = paced.full;
      idles = paced.idles;
      packets = omega (arith, packets-append paced.entries es, before, packets);
      idle = omega (arith, idle-append paced.entries es, idle_before, idle);
      rose = paced.rose;
    }

-- a pause after 64 packets
pub paced_full : (own own' : List Item) (p q r since owed : ℕ) → since ≡ 64 → Paced own own' p q since owed → Rises q r → r ≤ suc q → Paced own own' p r 0 owed
paced_full own own' p q r since owed is paced rises once =
    let packets = paced.packets in
    record {
      entries = paced.entries;
      made = paced.made;
      full = paced.full + 1;
      idles = paced.idles;
      packets = omega (arith, packets, is);
      idle = paced.idle;
      rose = rises_same (paced.full + paced.idles + 1) (paced.full + 1 + paced.idles) p r (omega arith)
          (rises_once (paced.full + paced.idles) p q r paced.rose rises once);
    }

-- the pause that was owed
pub paced_idle : (own own' : List Item) (p q r since : ℕ) → Paced own own' p q since 1 → Rises q r → r ≤ suc q → Paced own own' p r since 0
paced_idle own own' p q r since paced rises once =
    let idle = paced.idle in
    record {
      entries = paced.entries;
      made = paced.made;
      full = paced.full;
      idles = paced.idles + 1;
      packets = paced.packets;
      idle = omega (arith, idle);
      rose = rises_same (paced.full + paced.idles + 1) (paced.full + (paced.idles + 1)) p r (omega arith)
          (rises_once (paced.full + paced.idles) p q r paced.rose rises once);
    }

-- an answer that there is nothing to do owes a pause
pub paced_owed : (own own' : List Item) (p q since : ℕ) (work : Work) → work ≡ Nothing → Paced own own' p q since (one_if_nothing work)
    → Paced own own' p q since 1
paced_owed own own' p q since work is paced =
    let P : Work → Type 0 = λ w. Paced own own' p q since (one_if_nothing w) in
    subst P is paced

-- work that is read for is something to do
none_owed : (tune : ℕ) (work : Work) → is_of tune work ≡ true → one_if_nothing work ≡ 0
none_owed tune (Tune mux number) is = refl
none_owed tune Nothing is = absurd (cc is)
none_owed tune Stopping is = refl

-- packets that were given, and what the last answer owes
pub record Counted (caller : ℕ) (packets left : List (List ℕ)) (ts : List (Taken Event Answer Output)) (last : Work) : Type 0 where
  pub given : length packets ≡ packets_in (entries caller ts) + length left
  pub idle : idle_in (entries caller ts) ≡ one_if_nothing last

counted : (caller front tune : ℕ) (packets : List (List ℕ)) (work : Work) (ts : List (Taken Event Answer Output)) (left : List (List ℕ)) (last : Work)
    → Gives front tune packets work ts left last → is_of tune work ≡ true → Counted caller packets left ts last
counted caller front tune packets work [] left last gives is =
    let same : length left ≡ length packets = ap length gives.0 in
    record { given = omega (arith, same); idle = sym (ap one_if_nothing gives.1 ∙ none_owed tune work is) }
counted caller front tune packets work (t ∷ []) left last gives is =
    let size : length packets ≡ length (gives.0 ∷ gives.1) = ap length gives.2 in
    let rest : length left ≡ length gives.1 = ap length gives.5.0 in
    let one : one_if_packet t.event ≡ 1 = ap one_if_packet gives.3 in
    let idle : one_if_nothing last ≡ one_if_nothing (work_told t.answer) = ap one_if_nothing gives.5.1 in
    record { given = omega (arith, size, rest, one); idle = omega (arith, idle) }
counted caller front tune packets work (t ∷ u ∷ us) left last gives is =
    let next = counted caller front tune gives.1 (work_told t.answer) (u ∷ us) left last gives.5 gives.5.4 in
    let size : length packets ≡ length (gives.0 ∷ gives.1) = ap length gives.2 in
    let one : one_if_packet t.event ≡ 1 = ap one_if_packet gives.3 in
    let none : one_if_nothing (work_told t.answer) ≡ 0 = none_owed tune (work_told t.answer) gives.5.4 in
    record { given = omega (arith, size, one, next.given); idle = omega (arith, none, next.idle) }

-- a burst of packets
pub gave_paces : (may_want : Bool) (front tune : ℕ) (work : Work) (k l : Known) (tells : Type 0) (o n : Outbox) (q r : Buffered)
    (result : Result Work ServiceFault)
    (own : List Item) (p now since more : ℕ)
    → Gave may_want tells front tune work (record { known = k; outbox = o; buffered = q }) (record { known = l; outbox = n; buffered = r }) result
    → is_of tune work ≡ true
    → length q.packets ≡ more + length r.packets
    → Paced own k.own p now since 0 → Paced own l.own p now (since + more) (owed_by result)
gave_paces may_want front tune work k l tells o n q r (Ok next) own p now since more gave is size paced =
    let count = counted gave.caller front tune q.packets work gave.taken r.packets gave.last gave.gives is in
    let given = count.given in
    paced_then own k.own l.own (entries gave.caller gave.taken) p now since more (one_if_nothing next) paced gave.adds.own (omega (arith, given, size))
    (count.idle ∙ ap one_if_nothing (sym gave.ends))
gave_paces may_want front tune work k l tells o n q r (Err fault) own p now since more gave is size paced =
    let count = counted gave.caller front tune q.packets work gave.taken r.packets gave.last gave.gives is in
    let given = count.given in
    paced_then own k.own l.own (entries gave.caller gave.taken) p now since more 0 paced gave.adds.own (omega (arith, given, size))
    (count.idle ∙ none_owed tune gave.last gave.ends.0)

-- an event that is no packet
pub works_pace : (may_want : Bool) (k l : Known) (tells : Type 0) (o n : Outbox) (event : Event) (result : Result Work ServiceFault) (own : List Item)
    (p now since : ℕ)
    → Works may_want k l tells o n event result → one_if_packet event ≡ 0 → Paced own k.own p now since 0 → Paced own l.own p now since (owed_by result)
works_pace may_want k l tells o n event (Ok work) own p now since made is paced =
    let e : Item = entry made.caller event (WorkIs work) made.out in
    let P : ℕ → Type 0 = λ s. Paced own l.own p now s (one_if_nothing work) in
    let same : since + 0 ≡ since = omega arith in
    subst P same (paced_then own k.own l.own (e ∷ []) p now since 0 (one_if_nothing work) paced made.adds.own (omega (arith, is)) (omega arith))
works_pace may_want k l tells o n event (Err fault) own p now since none is paced =
    let P : List Item → Type 0 = λ h. Paced own h p now since 0 in
    subst P (sym none.unmade.adds.own) paced

-- ticks with a pause before each
pub record TicksPaced (own own' : List Item) (before now : ℕ) : Type 0 where
  pub entries : List Item
  pub made : own' ≡ own ++ entries
  pub pauses : RisesBy (length entries) before now

pub ticks_paced_none : (own : List Item) (p : ℕ) → TicksPaced own own p p
ticks_paced_none own p = record { entries = []; made = sym (append-nil own); pauses = rises_none p }

pub ticks_paced_more : (own own' own'' : List Item) (e : Item) (p q r : ℕ) → TicksPaced own own' p q → Rises q r → r ≤ suc q → own'' ≡ own' ++ e ∷ []
    → TicksPaced own own'' p r
ticks_paced_more own own' own'' e p q r paced rises once made = record {
  entries = paced.entries ++ e ∷ [];
  made = made ∙ ap (λ (h : List Item). h ++ e ∷ []) paced.made ∙ append_assoc own paced.entries (e ∷ []);
  pauses = rises_same (length paced.entries + 1) (length (paced.entries ++ e ∷ [])) p r (omega (arith, length-append paced.entries (e ∷ [])))
      (rises_once (length paced.entries) p q r paced.pauses rises once);
}

-- the last tick
pub ticks_pause : (may_want : Bool) (end : JobEnd) (own : List Item) (l m : Known) (tells : Type 0) (n o : Outbox) (now p q r : ℕ)
    → TicksPaced own l.own p q → Rises q r → r ≤ suc q
    → Ticked may_want l m tells n o now (Some end) → TickPauses own m.own p r end
ticks_pause may_want Stopped own l m tells n o now p q r paced rises once made =
    let e : Item = entry made.caller (Tick now) (Beat BeatStopping) made.out in
    let all = ticks_paced_more own l.own m.own e p q r paced rises once made.adds.own in
    record {
      entries = all.entries;
      made = all.made;
      pauses = rises_same (length all.entries) (length all.entries + 0) p r (omega arith) all.pauses;
    }
ticks_pause may_want Spent own l m tells n o now p q r paced rises once none = record {
  entries = paced.entries;
  made = none.unmade.adds.own ∙ paced.made;
  pauses = rises_once (length paced.entries) p q r paced.pauses rises once;
}
ticks_pause may_want Want own l m tells n o now p q r paced rises once none = record {
  entries = paced.entries;
  made = none.unmade.adds.own ∙ paced.made;
  pauses = rises_once (length paced.entries) p q r paced.pauses rises once;
}
