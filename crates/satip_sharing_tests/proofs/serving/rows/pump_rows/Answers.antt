use Rattle.satip_sharing_tests.proofs.PumpRows.{never_lent, lent_one, one_is_out, two_at_once, is_fresh, lent_before, out_before}
use Rattle.satip_sharing_tests.proofs.serving.rows.pump_rows.Goals as goal

pub returns : goal.returns
returns c = record {
  never_lent = never_lent;
  handed_back = lent_one;
  one_is_out = one_is_out;
  two_at_once = two_at_once;
  fresh = is_fresh;
  lent_before = lent_before;
  out_before = out_before;
}
