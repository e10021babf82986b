use Rattle.std.proofs.Common.{◌≡◌, ◌+◌, drop}
use Rattle.satip_frame.specs.Origins.{host_size}
use Rattle.satip_frame.proofs.origins.host_length.Given as goal

-- no byte so far ends the host
abbrev pub invariant-loop-byte : goal.invariant-loop-byte
invariant-loop-byte l = (l.count ≡ l.byte-index) × (host_size l.text ≡ l.count + host_size (drop l.byte-index l.text))
