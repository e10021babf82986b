use Rattle.std.proofs.Common.{not, ◌&&◌, ◌==◌, true}
use Rattle.satip_plain.specs.Sending.{each_of, let_go}
use Rattle.satip_state.proofs.RequestRetune.{retuned_moves}
use Rattle.satip_state.proofs.parts.Parts.retune.Goals as goal

pub returns-clause-moved : goal.returns-clause-moved
returns-clause-moved c = λ g st s lives.
    let flushed = c.flush_stream.ensures.moved g st s in
    retuned_moves g c.flush_stream.new.self c.place.new.self c.args.out.now c.flush_stream.new.out st c.args.number c.args.tuning.now flushed
    (c.place.ensures.placed g (each_of (λ x. x.stream == c.args.number && not x.http) (let_go true st.clock) st).state flushed.stands lives)
