use Rattle.std.proofs.Common.{length, sym, ap, subst, ◌∙◌}
use Rattle.std.specs.List.{concat}
use Rattle.satip_base.specs.Output.{Wrote}
use Rattle.satip_interleave.specs.Frames.{first_frames, later_frames}
use Rattle.satip_interleave.specs.Framed.{frames_of, IsFramed}
use Rattle.satip_interleave.proofs.FrameLemmas.{without_first}
use Rattle.satip_interleave.proofs.queue.Queue.drain.Goals as goal

pub invariant_of-self : goal.invariant_of-self
invariant_of-self c =
    let gone = without_first 65536 c.self.inside.ring c.first_bytes-count.result c.self.invariant c.first_bytes-count.ensures.count in
    subst IsFramed (sym c.pop.ensures.rest) gone.framed

pub returns-clause-count : goal.returns-clause-count
returns-clause-count c =
    c.first_bytes-count.ensures.count ∙ ap (λ fs. length (concat (first_frames 65536 fs))) c.self.view_is

pub returns-clause-later : goal.returns-clause-later
returns-clause-later c =
    let gone = without_first 65536 c.self.inside.ring c.first_bytes-count.result c.self.invariant c.first_bytes-count.ensures.count in
    ap frames_of c.pop.ensures.rest ∙ gone.later ∙ ap (later_frames 65536) c.self.view_is

pub returns-clause-wrote : goal.returns-clause-wrote
returns-clause-wrote c =
    let gone = without_first 65536 c.self.inside.ring c.first_bytes-count.result c.self.invariant c.first_bytes-count.ensures.count in
    subst (λ bytes. Wrote c.args.out.now bytes c.pop.new.out)
    (gone.first ∙ ap (λ fs. concat (first_frames 65536 fs)) c.self.view_is) c.pop.ensures.wrote
