use Rattle.std.proofs.Common.{◌≡◌, ◌-◌, ◌≤◌, drop, arith, ◌∙◌}
use Rattle.std.proofs.lemmas.List.{take-take}
use Rattle.satip_pump.specs.BufferFields.{packet_at}
use Rattle.satip_pump.proofs.BufferLemmas.{packet_of}
use Rattle.satip_pump.proofs.buffer.packet_from.Goals as goal

pub returns : goal.returns
returns c =
    let all : 188 ≤ 12220 - c.args.start = omega (arith, c.requires.within) in
    let same : c.in-Some.bytes.now ≡ packet_at c.args.bytes.now c.args.start =
    c.in-Some.ensures.cases.same ∙ take-take 188 (12220 - c.args.start) (drop c.args.start c.args.bytes.now) all in
    record { packet = packet_of _ c.of.result c.requires.packet (rw same at c.of.ensures.none) (rw same at c.of.ensures.bytes) }
