-- Worked runs of one worker and the ticker, without front ends or with one.
use Rattle.std.specs.Prelude.{◌≡◌, ℕ, ◌+◌, Bool, true, false, List, [], ◌∷◌, None}
use Rattle.satip_base.specs.Output.{empty}
use Rattle.satip_base.specs.History.{entry}
use Rattle.satip_plain.specs.declared.answers.Answer.TheVariants.{Beat as BeatIs, Closed, Work as WorkIs}
use Rattle.satip_plain.specs.declared.answers.Beat.{Beat}
use Rattle.satip_plain.specs.declared.answers.Beat.TheVariants.{Going, Stopping}
use Rattle.satip_plain.specs.declared.answers.Closed.TheVariants.{Gone}
use Rattle.satip_plain.specs.declared.answers.Work.TheVariants.{Stopping as NoMoreWork}
use Rattle.satip_plain.specs.declared.events.Event.TheVariants.{Ask, Close, Stop, Tick}
use Rattle.satip_plain.specs.declared.setting.Setting.{Setting}
use Rattle.satip_plain.specs.Examples.{front_end}
use Rattle.satip_plain.specs.Histories.{Item}
use Rattle.satip_plain.specs.Types.{Config}
use Rattle.satip_turn.specs.Views.{row}
use Rattle.satip_shared.specs.Calling.{ServerPass}
use Rattle.satip_world.specs.Outboxes.{fresh_outbox}
use Rattle.satip_serve.specs.Done.{Caller, IsFull}
use Rattle.satip_serve.specs.ServeRuns.{ServeRun}
use Rattle.satip_desk.specs.Views.{WorkerView, PumpView, TickView}

-- entries of a caller: the stop, a tick at a moment, and the end of a connection whose session is gone
abbrev pub stop_by : ℕ → Item
stop_by caller = entry caller Stop (BeatIs Stopping) empty

abbrev pub tick_by : ℕ → ℕ → Beat → Item
tick_by caller moment beat = entry caller (Tick moment) (BeatIs beat) empty

abbrev pub close_by : ℕ → Item
close_by caller = entry caller (Close (record { count = 1; word = 10 })) (Closed Gone) empty

abbrev pub caller_of : ℕ → List Item → Caller
caller_of number own = row number own

-- the worker as caller 1, with this entry or with none
abbrev pub busy_worker : List Caller
busy_worker = caller_of 1 (close_by 1 ∷ []) ∷ []

abbrev pub idle_worker : List Caller
idle_worker = caller_of 1 [] ∷ []

-- the worker's entry stands before the stop, and the ticker's on both sides of it
abbrev pub stopped_well : List Item
stopped_well = close_by 1 ∷ tick_by 2 1020 Going ∷ stop_by 0 ∷ tick_by 2 1040 Stopping ∷ []

-- two numbers with the number of their place between them
abbrev pub IsApart : ℕ → ℕ → ℕ → Type 0
IsApart place x y = y ≡ x + place

-- a worker whose doors ended, or didn't, and failed so often
abbrev pub worker_with : (ended : Bool) (limit faults : ℕ) → WorkerView
worker_with ended limit faults = record {
  hall = record { limit = limit; count = 0; ended = ended; idles = 0; faults = faults; told = true; given = []; returned = [] };
  outbox = fresh_outbox;
  key = [];
}

-- one worker and no front end
abbrev pub small_config : Config
small_config = record {
  address = 3232235786;
  rtsp_port = 554;
  http_port = 8875;
  timeout = 60;
  workers = 1;
  fronts = [];
  muxes = [];
  files = [];
}

abbrev pub small_setting : Setting
small_setting = record { config = small_config; start = 1000 }

-- the stop, and a tick of each side of it
abbrev pub small_history : List Item
small_history = tick_by 2 1020 Going ∷ stop_by 0 ∷ tick_by 2 1040 Stopping ∷ []

abbrev pub small_ticker : Caller
small_ticker = caller_of 2 (tick_by 2 1020 Going ∷ tick_by 2 1040 Stopping ∷ [])

-- a ticker whose clock was read at these moments
abbrev pub ticker_at : List ℕ → TickView
ticker_at moments = record { dial = record { readings = moments; told = true }; outbox = fresh_outbox }

-- a pass of caller 0 that has seen this history, and into which these callers were joined
abbrev pub pass_of : List Item → List Caller → ServerPass
pass_of seen kept = record {
  cell = record { words = 2; slots = 1; views_name = 0; atom = 0; block = 0; offset = 0; slot_names = [] };
  setting = None;
  turn = false;
  number = 0;
  seen = seen;
  own = [];
  kept = kept;
  made = [];
  met = 0;
  looks = 0;
  looked = [];
}

-- the small run, with this limit of connections, this history, these callers, workers and readings of the clock
abbrev pub SmallRun : ℕ → List Item → List Caller → List WorkerView → List ℕ → Type 0
SmallRun accepts seen kept workers moments =
    ServeRun (Unit {0}) (Unit {0}) (IsFull seen) small_setting accepts (pass_of seen kept)
    (record { workers = workers; pumps = []; ticker = ticker_at moments })

-- one worker and one front end
abbrev pub front_setting : Setting
front_setting = record { config = record small_config { fronts = front_end 1 ∷ [] }; start = 1000 }

-- the question of a pump that is told to stop
abbrev pub ask_by : ℕ → Item
ask_by caller = entry caller (Ask 1) (WorkIs NoMoreWork) empty

-- a pump whose store tells no recording; so many sources of it are out, and so many were at most
abbrev pub pump_with : (lent peak : ℕ) → PumpView
pump_with lent peak = record { recording = λ mux. None; faults = 0; lent = lent; peak = peak; outbox = fresh_outbox }

-- the stop, and then the pump and the ticker are told of it
abbrev pub asked_history : List Item
asked_history = stop_by 0 ∷ ask_by 2 ∷ tick_by 3 1020 Stopping ∷ []

abbrev pub asking_pump : Caller
asking_pump = caller_of 2 (ask_by 2 ∷ [])

abbrev pub told_ticker : Caller
told_ticker = caller_of 3 (tick_by 3 1020 Stopping ∷ [])

-- the run with the front end, whose pump shows this when it has ended
abbrev pub AskedRun : PumpView → Type 0
AskedRun pump = ServeRun (Unit {0}) (Unit {0}) (IsFull asked_history) front_setting 1
    (pass_of asked_history (caller_of 1 [] ∷ asking_pump ∷ told_ticker ∷ []))
    (record { workers = worker_with true 1 0 ∷ []; pumps = pump ∷ []; ticker = ticker_at (1000 ∷ 1020 ∷ []) })
