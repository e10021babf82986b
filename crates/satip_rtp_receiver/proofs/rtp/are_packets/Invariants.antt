use Rattle.std.proofs.Common.{◌≡◌, ℕ, ◌*◌, ◌<◌, get_or}
use Rattle.satip_rtp_receiver.proofs.rtp.are_packets.Given as goal

-- the first packets begin with the sync byte
abbrev pub invariant-loop-number : goal.invariant-loop-number
invariant-loop-number l = (k : ℕ) → k < l.number → get_or l.bytes (188 * k) 0 ≡ 71
