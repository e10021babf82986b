use Rattle.std.proofs.Common.{◌≡◌, ◌≤◌, ◌+◌, length}
use Rattle.std.specs.List.{slice_split}
use Rattle.satip_tune.specs.Pieces.{is_byte, pieces_left}
use Rattle.satip_query.specs.Values.{numbers_of, pids_within}
use Rattle.satip_query.proofs.Measures.{bytes_left}
use Rattle.satip_query.proofs.PidLists.{pids_from}
use Rattle.satip_query.proofs.values.read_pid_list.Given as goal

abbrev pub invariant-loop-left : goal.invariant-loop-left
invariant-loop-left l = record {
  counted : l.count + length (pieces_left 44 l.left) ≡ length (slice_split (is_byte 44) l.text);
  room : l.count ≤ 512;
  listed : length l.list ≤ l.count;
  rest : pids_within (numbers_of (slice_split (is_byte 44) l.text)) ≡ pids_from l.list l.are_pids (numbers_of (pieces_left 44 l.left));
}

abbrev pub decreases-loop-left : goal.decreases-loop-left
decreases-loop-left l = bytes_left l.left
