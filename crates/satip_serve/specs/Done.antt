-- The work of each job of a serve run when all have ended.
use Rattle.std.specs.Prelude.{◌≡◌, ◌≢◌, ℕ, ◌≤◌, ◌⊎◌, true, List, [], ◌∷◌, ◌++◌, map, length, Some, None}
use Rattle.satip_base.specs.declared.limits.TheConstants.{LONGEST_HISTORY}
use Rattle.satip_base.specs.Output.{Output}
use Rattle.satip_base.specs.Lists.{Each}
use Rattle.satip_plain.specs.declared.answers.Answer.{Answer}
use Rattle.satip_plain.specs.declared.answers.Answer.TheVariants.{Work as WorkIs}
use Rattle.satip_plain.specs.declared.answers.Work.TheVariants.{Stopping}
use Rattle.satip_plain.specs.declared.events.Event.{Event}
use Rattle.satip_plain.specs.declared.events.Event.TheVariants.{Tick}
use Rattle.satip_plain.specs.Histories.{Item}
use Rattle.satip_plain.specs.Pumping.{Due, Asking, Pumps}
use Rattle.satip_turn.specs.declared.view.Row.{Row}
use Rattle.satip_world.specs.declared.doors.ConnEnd.TheVariants.{Spent, Want}
use Rattle.satip_world.specs.Deliveries.{Delivers}
use Rattle.satip_world.specs.Halls.{Return}
use Rattle.satip_world.specs.Outboxes.{fresh_outbox}
use Rattle.satip_pump.specs.PumpRuns.{RoseBy, last_from}
use Rattle.satip_pump.specs.TickRuns.{IsGoing, StopsLast}
use Rattle.satip_pump.specs.Events.{datagrams_of}
use Rattle.satip_worker.specs.Drawing.{draw_at}
use Rattle.satip_worker.specs.WorkerRun.{ServesAll, arrival_of}
use Rattle.satip_desk.specs.Views.{WorkerView, PumpView, TickView}

-- a caller of the server: its number and its entries
abbrev pub Caller : Type 0
Caller = Row Event Answer Output

-- the history is full: it has the largest number of entries
abbrev pub IsFull : List Item → Type 0
IsFull h = length h ≡ LONGEST_HISTORY

-- the connection didn't end by out of memory, and by a full history only if it is full
abbrev pub EndsInTime : (full : Type 0) → Return → Type 0
EndsInTime full r = (r.end ≢ Want) × (r.end ≡ Spent → full)

-- a worker: its doors have this limit, and they ended or failed, or the history is full. Each connection that arrived was handed back, in order. The worker's
-- entries are those of these connections, with the draws of its key and its number, and its outlet was given their datagrams
pub record WorkerDone (conn_tells outlet_tells full : Type 0) (accepts number : ℕ) (worker : WorkerView) (caller : Caller) : Type 0 where
  pub limit : worker.hall.limit ≡ accepts
  pub ended : (worker.hall.ended ≡ true) ⊎ ((worker.hall.faults ≢ 0) ⊎ full)
  pub connections : List Return
  pub draws : ℕ
  pub came : worker.hall.told ≡ true → worker.hall.given ≡ map arrival_of connections
  pub handed_back : worker.hall.told ≡ true → worker.hall.returned ≡ connections
  pub served : ServesAll conn_tells (draw_at worker.key number) 0 draws connections caller.own
  pub in_time : Each (EndsInTime full) connections
  pub sent : Delivers outlet_tells fresh_outbox worker.outbox (datagrams_of caller.own)

-- the pump of a front end: its entries ask, and give packets of its store's recordings. The last answer says that the service stops, or the history is full. At
-- most as many recordings ended early as its store failed. Each source that the store lent was handed back, and at most one was out at a time
pub record PumpDone (outlet_tells full : Type 0) (front : ℕ) (pump : PumpView) (caller : Caller) : Type 0 where
  pub due : Due
  pub early : ℕ
  pub pumps : Pumps front pump.recording (Asking None) caller.own due early
  pub few : RoseBy early 0 pump.faults
  pub stopped : (last_from None caller.own ≡ Some (WorkIs Stopping)) ⊎ full
  pub lent : pump.lent ≡ 0
  pub one_at_a_time : pump.peak ≤ 1
  pub sent : Delivers outlet_tells fresh_outbox pump.outbox (datagrams_of caller.own)

-- the ticks stopped with the service. Or the history is full, and the last reading has no tick
abbrev pub TicksStop : (full : Type 0) → List Item → List ℕ → Type 0
TicksStop full entries unmade = (StopsLast entries × (unmade ≡ [])) ⊎ (full × Each IsGoing entries × ((moment : ℕ) × (unmade ≡ moment ∷ [])))

-- the ticker: its clock was read once at the start, and then once for each tick; its entries are ticks at these moments
pub record TickerDone (outlet_tells full : Type 0) (start : ℕ) (ticker : TickView) (caller : Caller) : Type 0 where
  pub moments : List ℕ
  pub unmade : List ℕ
  pub events : map (λ e. e.event) caller.own ≡ map Tick moments
  pub readings : ticker.dial.told ≡ true → ticker.dial.readings ≡ start ∷ (moments ++ unmade)
  pub ends : TicksStop full caller.own unmade
  pub sent : Delivers outlet_tells fresh_outbox ticker.outbox (datagrams_of caller.own)
