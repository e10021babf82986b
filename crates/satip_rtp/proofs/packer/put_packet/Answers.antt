use Rattle.std.proofs.Common.{◌∙◌, ap, ◌++◌, ◌∷◌, [], arith}
use Rattle.satip_rtp.specs.Held.{packets_in}
use Rattle.satip_rtp.proofs.HeldLemmas.{packets_put}
use Rattle.satip_rtp.proofs.packer.put_packet.Goals as goal

-- the packet stands in its place, and those before it as they were
pub returns : goal.returns
returns c =
    let written = c.copy_from_slice.new.self in
    let put = packets_put c.args.bytes.now written c.args.place _ (omega arith) (omega arith) in
    record { put = put ∙ ap (λ t. packets_in c.args.bytes.now c.args.place ++ t ∷ []) c.copy_from_slice.ensures.after }
