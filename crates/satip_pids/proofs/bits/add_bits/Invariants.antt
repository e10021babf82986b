use Rattle.std.proofs.Common.{◌≡◌, take}
use Rattle.satip_pids.specs.Rising.{put_all}
use Rattle.satip_pids.specs.Bits.{members, IsListed}
use Rattle.satip_pids.proofs.bits.add_bits.Given as goal

abbrev pub invariant-loop-pid : goal.invariant-loop-pid
invariant-loop-pid l = record {
  added : members l.words ≡ put_all (members l.fn.words) (take l.pid-index l.list);
  listed : IsListed l.words l.total;
}
