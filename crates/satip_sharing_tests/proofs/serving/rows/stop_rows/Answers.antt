use Rattle.satip_sharing_tests.proofs.StopRows.{stops_once, stops_alone, never_stops, stops_twice, another_stops, ticks_and_stops, ticks_only, worker_behind}
use Rattle.satip_sharing_tests.proofs.serving.rows.stop_rows.Goals as goal

pub returns : goal.returns
returns c = record {
  once = stops_once;
  alone = stops_alone;
  none = never_stops;
  twice = stops_twice;
  of_another = another_stops;
  with_a_tick = ticks_and_stops;
  another_event = ticks_only;
  worker_behind = worker_behind;
}
