-- The view of a stream, computed from the parts.
use Rattle.std.specs.Prelude.{ℕ, ◌==◌, ◌&&◌, Bool, unwrap_or, is_some, option_and_then}
use Rattle.std.specs.List.{list_any}
use Rattle.satip_table.specs.declared.session.Seat.{Seat}
use Rattle.satip_table.specs.declared.stream.Stream.{Stream as StreamRow}
use Rattle.satip_fronts.specs.FrontEnds.{mux_at}
use Rattle.satip_rtcp.specs.declared.views.StreamView.{StreamView}
use Rattle.satip_state.specs.Kept.{Kept}

-- whether a session of the stream plays
abbrev pub plays_in : ℕ → Seat → Bool
plays_in number seat = seat.session.stream == number && seat.session.playing

abbrev pub kept_view : Kept → StreamRow → StreamView
kept_view v t = record {
  number = t.number;
  tuning = t.tuning;
  front = unwrap_or t.front 0;
  locked = is_some (option_and_then (mux_at v.fronts.rows) t.front);
  pids = t.pids;
  playing = list_any (plays_in t.number) v.table.seats;
}
