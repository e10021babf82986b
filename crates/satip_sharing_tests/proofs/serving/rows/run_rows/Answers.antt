use Rattle.satip_sharing_tests.proofs.RunRows.{small_run, ticker_is_left_out, limit_is_another, doors_go_on, workers_are_two, start_is_another, entry_is_lost, caller_is_another, answer_is_another}
use Rattle.satip_sharing_tests.proofs.serving.rows.run_rows.Goals as goal

pub returns : goal.returns
returns c = record {
  small = small_run;
  no_ticker = ticker_is_left_out;
  another_limit = limit_is_another;
  doors_go_on = doors_go_on;
  two_workers = workers_are_two;
  another_start = start_is_another;
  entry_is_lost = entry_is_lost;
  another_caller = caller_is_another;
  unlawful = answer_is_another;
}
