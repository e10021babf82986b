use Rattle.std.proofs.Common.{◌≡◌, arith, ◌∙◌, sym, ap, List, ℕ, length, length-take}
use Rattle.std.proofs.lemmas.List.{take_all}
use Rattle.satip_entry_reader.proofs.Loops.{packet_behind, packet_in_front}
use Rattle.satip_entry_reader.proofs.events.read_packet.Goals as goal

pub returns-clause-read : goal.returns-clause-read
returns-clause-read c =
    let whole : c.in-Some-first_chunk.packet.now ≡ c.in-Some.taken.now =
    c.in-Some-first_chunk.ensures.cases.same ∙ take_all 188 c.in-Some.taken.now (omega (arith, c.in-Some.ensures.count)) in
    packet_in_front c.of.result c.args.bytes.now c.in-Some.taken.now c.read_bytes.new.self c.in-Some.ensures.front c.in-Some.ensures.count
    (rw whole at c.of.ensures.none) (rw whole at c.of.ensures.bytes)

pub returns-clause-front : goal.returns-clause-front
returns-clause-front c =
    let whole : c.in-Some-first_chunk.packet.now ≡ c.in-Some.taken.now =
    c.in-Some-first_chunk.ensures.cases.same ∙ take_all 188 c.in-Some.taken.now (omega (arith, c.in-Some.ensures.count)) in
    packet_behind c.of.result c.args.bytes.now c.in-Some.taken.now c.read_bytes.new.self c.in-Some.ensures.front (rw whole at c.of.ensures.bytes)
