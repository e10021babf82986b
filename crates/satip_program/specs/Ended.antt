-- The end of a run, as contracts see it.
use Rattle.std.specs.Prelude.{ℕ, List, [], Option, None, option_map}
use Rattle.satip_base.specs.Streams.{Feed}
use Rattle.satip_desk.specs.Journals.{JournalView}
use Rattle.satip_desk.specs.Views.{JobsView}
use Rattle.satip_desk.specs.declared.kits.JobKits.{JobKits}
use Rattle.satip_journal_serve.specs.Ends.{JournalLeft}
use Rattle.satip_recorder.specs.Ends.{Left}
use Rattle.satip_tunnel_serve.specs.Serve.CommandEnds.{ServingLeft}
use Rattle.satip_tunnel_serve.specs.Serve.CommandRan.{LastView, last_view}
use Rattle.satip_tunnel_serve.specs.Ends.{TunnelLastView, tunnel_last_view}
use Rattle.satip_program.specs.declared.top.Ended.{Ended}

-- the parts of the end of a run. `source` is the configuration. `last` is what the jobs of a service left, without a tunnel, and `tunnel` with one. `unused` are
-- the kits with which no job began. `left` are a client's connection, clock and inlet
pub record EndedView : Type 0 where
  pub source : Option Feed
  pub last : Option LastView
  pub tunnel : Option TunnelLastView
  pub unused : Option JobsView
  pub left : Left
  pub journals : List JournalView
  pub status : ℕ

-- the end of a run, by the views of a configuration, of kits, of a client's devices, and of journals. The types are those of the desk, its configurations,
-- wires, inlets, moments and journals, and the devices of its jobs
abbrev pub ended_view : {K F W I T J D O P M C N S : Type 0} → (F → Feed) → (view : JobKits D O P M C → JobsView)
    → (Option W → Option T → Option I → Left) → (List J → List JournalView) → Ended K F W I T J D O P M C N S → EndedView
ended_view feed view client journals e = record {
  source = option_map feed e.config;
  last = option_map (last_view view) e.last;
  tunnel = option_map (tunnel_last_view view) e.tunnel;
  unused = option_map view e.unused;
  left = client e.wire e.moment e.inlet;
  journals = journals e.journals.items;
  status = e.status;
}

-- no device came back of a client
abbrev pub nothing_left : Left
nothing_left = record { wire = None; clock = None; inlet = None }

-- the end of a command without jobs and without a client
abbrev pub ended_alone : Option Feed → ℕ → EndedView
ended_alone source status = record {
  source = source;
  last = None;
  tunnel = None;
  unused = None;
  left = nothing_left;
  journals = [];
  status = status;
}

-- the end of a recording
abbrev pub ended_recording : Left → ℕ → EndedView
ended_recording left status = record {
  source = None;
  last = None;
  tunnel = None;
  unused = None;
  left = left;
  journals = [];
  status = status;
}

-- the parts of a serve's end
abbrev pub served : EndedView → ServingLeft LastView
served e = record { source = e.source; last = e.last; unused = e.unused; status = e.status }

-- the parts of a tunnel's end
abbrev pub tunneled : EndedView → ServingLeft TunnelLastView
tunneled e = record { source = e.source; last = e.tunnel; unused = e.unused; status = e.status }

-- the parts of the end of a serve with journals
abbrev pub journaled : EndedView → JournalLeft
journaled e = record { serving = served e; journals = e.journals }
