-- What a job did to a fresh kit is what it has done.
use Rattle.std.proofs.Common.{◌≡◌, ◌≢◌, ℕ, ◌+◌, ◌<◌, ◌≤◌, max, ◌⊎◌, inl, inr, Bool, true, false, List, [], ◌∷◌, ◌++◌, map, Option, None, arith, refl, sym, ap}
use Rattle.std.proofs.Common.{◌∙◌, subst, ⊎_elim}
use Rattle.std.proofs.lemmas.Bool.{false≢true}
use Rattle.satip_base.specs.Lists.{Each}
use Rattle.satip_base.proofs.Elements.{Each-append, each_follows}
use Rattle.satip_plain.specs.declared.events.Event.TheVariants.{Tick}
use Rattle.satip_plain.specs.Histories.{Item}
use Rattle.satip_plain.specs.Pumping.{Asking, Pumps}
use Rattle.satip_plain.specs.Known.{Known, AddsAll}
use Rattle.satip_turn.specs.Views.{row}
use Rattle.satip_world.specs.declared.doors.ConnEnd.TheVariants.{Spent as ConnSpent}
use Rattle.satip_world.specs.Counts.{Rises}
use Rattle.satip_world.specs.Deliveries.{Delivers}
use Rattle.satip_world.specs.Halls.{Hall, Return, fresh_hall}
use Rattle.satip_world.specs.Outboxes.{Outbox, fresh_outbox}
use Rattle.satip_pump.specs.declared.ends.JobEnd.{JobEnd}
use Rattle.satip_pump.specs.declared.ends.JobEnd.TheVariants.{Stopped, Spent as JobSpent, Want as JobWant}
use Rattle.satip_pump.specs.Events.{datagrams_of}
use Rattle.satip_pump.specs.PumpRuns.{RoseBy, last_from}
use Rattle.satip_pump.specs.TickRuns.{TicksEnd}
use Rattle.satip_worker.specs.declared.worker.WorkerEnd.{WorkerEnd}
use Rattle.satip_worker.specs.declared.worker.WorkerEnd.TheVariants.{Closed, DoorsFault, Spent, Want}
use Rattle.satip_worker.specs.Drawing.{draw_at}
use Rattle.satip_worker.specs.Ends.{is_unmade}
use Rattle.satip_worker.specs.WorkerRun.{ServesAll, WorkerEnds}
use Rattle.satip_jobs.specs.declared.end.ServeEnd.{ServeEnd}
use Rattle.satip_jobs.specs.declared.end.ServeEnd.TheVariants.{HistoryFull}
use Rattle.satip_desk.specs.Views.{WorkerView, PumpView, TickView}
use Rattle.satip_serve.specs.Deeds.{JobState, WorkerDid, PumpDid, TickerDid}
use Rattle.satip_serve.specs.Ends.{end_of_job, end_of_worker}
use Rattle.satip_serve.specs.Done.{EndsInTime, WorkerDone, PumpDone, TicksStop, TickerDone}
use Rattle.satip_desk.specs.Fresh.{FreshPump, FreshWorker, ReadOnce}

-- what a caller without entries has after it made some
own_after : (k l : Known) (entries : List Item) → AddsAll k l entries → k.own ≡ [] → entries ≡ l.own
own_after k l entries adds none = sym (adds.own ∙ ap (λ (es : List Item). es ++ entries) none)

made_in_time : (full : Type 0) (r : Return) → is_unmade r.end ≡ false → EndsInTime full r
made_in_time full r made = (
  λ want. absurd (false≢true (sym made ∙ ap is_unmade want)),
  λ spent. absurd (false≢true (sym made ∙ ap is_unmade spent)),
)

spent_in_time : (full : Type 0) (r : Return) → r.end ≡ ConnSpent → full → EndsInTime full r
spent_in_time full r is then = (λ want. absurd (cc (is, want)), λ _. then)

pub not_zero : (n : ℕ) → Rises 0 n → n ≢ 0
not_zero n rises is = ⊎_elim (λ (less : 0 < n). absurd (omega (arith, less, is)))
    (λ (last : 18446744073709551615 ≤ n). absurd (omega (arith, last, is))) rises.rose

record EndedInTime (full : Type 0) (hall : Hall) (returns : List Return) : Type 0 where
  ended : (hall.ended ≡ true) ⊎ ((hall.faults ≢ 0) ⊎ full)
  in_time : Each (EndsInTime full) returns

all_made : (full : Type 0) (returns : List Return) → Each (λ r. is_unmade r.end ≡ false) returns → Each (EndsInTime full) returns
all_made full returns made = each_follows (λ (r : Return). is_unmade r.end ≡ false) (EndsInTime full) (made_in_time full) returns made

worker_ended : (full : Type 0) (end : WorkerEnd) (accepts : ℕ) (told : Bool) (hall : Hall) (l : Known) (returns : List Return)
    → WorkerEnds end (fresh_hall accepts told) hall false l returns → (end ≡ Spent → l.length ≡ 18446744073709551615 → full) → EndedInTime full hall returns
worker_ended full Closed accepts told hall l returns ends fills = record { ended = inl ends.ended; in_time = all_made full returns ends.made }
worker_ended full DoorsFault accepts told hall l returns ends fills =
    record { ended = inr (inl (not_zero hall.faults ends.faults)); in_time = all_made full returns ends.made }
worker_ended full Spent accepts told hall l returns ends fills =
    let then = fills refl ends.full in
    let last = ends.last in
    let all : Each (EndsInTime full) (last.before ++ last.last ∷ []) =
    Each-append (EndsInTime full) last.before (last.last ∷ []) (all_made full last.before last.made) (spent_in_time full last.last last.end_is then, tt) in
    record { ended = inr (inr then); in_time = subst (λ (rs : List Return). Each (EndsInTime full) rs) (sym last.returns_are) all }
worker_ended full Want accepts told hall l returns ends fills = absurd (false≢true ends.may)

-- a worker with fresh doors and a fresh outlet
pub worker_done : (conn_tells outlet_tells by_limit full : Type 0) (accepts number caller : ℕ) (o n : JobState WorkerView) (end : ServeEnd)
    → WorkerDid conn_tells outlet_tells by_limit number o n end → FreshWorker accepts o.kit → o.known.own ≡ []
    → (end ≡ HistoryFull → n.known.length ≡ 18446744073709551615 → full)
    → WorkerDone conn_tells outlet_tells full accepts number n.kit (row caller n.known.own)
worker_done conn_tells outlet_tells by_limit full accepts number caller o n end did fresh none fills =
    let run = did.serves in
    let hall = fresh.hall in
    let own : run.entries ≡ n.known.own = own_after o.known n.known run.entries run.makes.adds none in
    let ends = worker_ended full did.ended accepts fresh.told n.kit.hall n.known run.returns
    (subst (λ (h : Hall). WorkerEnds did.ended h n.kit.hall false n.known run.returns) hall run.ends)
    (λ spent. fills (did.end_is ∙ ap end_of_worker spent)) in
    let served : ServesAll conn_tells (draw_at n.kit.key number) 0 run.draws run.returns run.entries =
    subst (λ (key : List ℕ). ServesAll conn_tells (draw_at key number) 0 run.draws run.returns run.entries) (sym did.key) run.serves in
    record {
      limit = run.limit ∙ ap (λ (h : Hall). h.limit) hall;
      ended = ends.ended;
      connections = run.returns;
      draws = run.draws;
      came = λ still. run.moved.given still ∙ ap (λ (h : Hall). h.given ++ map (λ (r : Return). record { kind = r.kind; peer = r.peer }) run.returns) hall;
      handed_back = λ still. run.moved.returned still ∙ ap (λ (h : Hall). h.returned ++ run.returns) hall;
      served = subst (λ (es : List Item). ServesAll conn_tells (draw_at n.kit.key number) 0 run.draws run.returns es) own served;
      in_time = ends.in_time;
      sent = subst (λ (es : List Item). Delivers outlet_tells fresh_outbox n.kit.outbox (datagrams_of es)) own
          (subst (λ (b : Outbox). Delivers outlet_tells b n.kit.outbox (datagrams_of run.entries)) fresh.outbox run.makes.delivers);
    }

job_stopped : (full stops : Type 0) (end : JobEnd) → (end ≡ Stopped → stops) → (end ≡ JobSpent → full) → (end ≡ JobWant → ⊥) → stops ⊎ full
job_stopped full stops Stopped stopped spent want = inl (stopped refl)
job_stopped full stops JobSpent stopped spent want = inr (spent refl)
job_stopped full stops JobWant stopped spent want = absurd (want refl)

-- a count that is at most the larger of 0 and one more than none
at_most_one : (first lent peak : ℕ) → peak ≤ max first (lent + 1) → first ≡ 0 → lent ≡ 0 → peak ≤ 1
at_most_one first lent peak few none_first none_lent =
    subst (λ (l : ℕ). peak ≤ max 0 (l + 1)) none_lent (subst (λ (f : ℕ). peak ≤ max f (lent + 1)) none_first few)

-- a pump with a fresh store and a fresh outlet
pub pump_done : (outlet_tells full : Type 0) (front caller : ℕ) (o n : JobState PumpView) (end : ServeEnd)
    → PumpDid outlet_tells front o n end → FreshPump o.kit → o.known.own ≡ []
    → (end ≡ HistoryFull → n.known.length ≡ 18446744073709551615 → full) → PumpDone outlet_tells full front n.kit (row caller n.known.own)
pump_done outlet_tells full front caller o n end did fresh none fills =
    let run = did.run in
    let own : run.entries ≡ n.known.own = own_after o.known n.known run.entries run.adds none in
    let pumps : Pumps front n.kit.recording (Asking None) run.entries run.due run.early =
    subst (λ (recording : ℕ → Option (List ℕ)). Pumps front recording (Asking None) run.entries run.due run.early) (sym run.recordings) run.pumps in
    record {
      due = run.due;
      early = run.early;
      pumps = subst (λ (es : List Item). Pumps front n.kit.recording (Asking None) es run.due run.early) own pumps;
      few = subst (λ (f : ℕ). RoseBy run.early f n.kit.faults) fresh.faults run.few;
      stopped = job_stopped full _ did.ended
          (λ is. ap (λ (es : List Item). last_from None es) (sym own) ∙ run.stopped.0 is)
          (λ is. fills (did.end_is ∙ ap end_of_job is) (did.spent is)) did.memory;
      lent = did.lent ∙ fresh.lent;
      one_at_a_time = at_most_one o.kit.peak o.kit.lent n.kit.peak did.one_at_a_time fresh.peak fresh.lent;
      sent = subst (λ (es : List Item). Delivers outlet_tells fresh_outbox n.kit.outbox (datagrams_of es)) own
          (subst (λ (b : Outbox). Delivers outlet_tells b n.kit.outbox (datagrams_of run.entries)) fresh.outbox run.delivers);
    }

ticks_stop : (full : Type 0) (end : JobEnd) (entries : List Item) (unmade : List ℕ) → TicksEnd end entries unmade → (end ≡ JobSpent → full)
    → (end ≡ JobWant → ⊥)
    → TicksStop full entries unmade
ticks_stop full Stopped entries unmade ends spent want = inl ends
ticks_stop full JobSpent entries unmade ends spent want = inr (spent refl, ends.0, ends.1)
ticks_stop full JobWant entries unmade ends spent want = absurd (want refl)

-- the ticker with a clock that was read once, and a fresh outlet
pub ticker_done : (outlet_tells full : Type 0) (start caller : ℕ) (o n : JobState TickView) (end : ServeEnd)
    → TickerDid outlet_tells o n end → ReadOnce start o.kit → o.known.own ≡ []
    → (end ≡ HistoryFull → n.known.length ≡ 18446744073709551615 → full) → TickerDone outlet_tells full start n.kit (row caller n.known.own)
ticker_done outlet_tells full start caller o n end did fresh none fills =
    let run = did.run in
    let own : run.entries ≡ n.known.own = own_after o.known n.known run.entries run.adds none in
    record {
      moments = run.moments;
      unmade = run.unmade;
      events = subst (λ (es : List Item). map (λ (e : Item). e.event) es ≡ map Tick run.moments) own run.events;
      readings = λ still. run.readings still ∙ ap (λ (rs : List ℕ). rs ++ (run.moments ++ run.unmade)) (fresh.reads.readings (run.told still));
      ends = subst (λ (es : List Item). TicksStop full es run.unmade) own
          (ticks_stop full did.ended run.entries run.unmade run.ends (λ is. fills (did.end_is ∙ ap end_of_job is) (did.spent is)) did.memory);
      sent = subst (λ (es : List Item). Delivers outlet_tells fresh_outbox n.kit.outbox (datagrams_of es)) own
          (subst (λ (b : Outbox). Delivers outlet_tells b n.kit.outbox (datagrams_of run.entries)) fresh.outbox run.delivers);
    }
