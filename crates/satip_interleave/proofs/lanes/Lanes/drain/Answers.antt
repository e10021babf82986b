use Rattle.std.proofs.Common.{◌≡◌, refl, sym, ap, subst, ◌∙◌}
use Rattle.std.specs.List.{concat}
use Rattle.satip_base.specs.Output.{Wrote}
use Rattle.satip_interleave.specs.Lanes.{PlainLanes, lane_of, taken_frames, drain_answer, drained, drained_lane}
use Rattle.satip_interleave.proofs.LaneLemmas.{nobody, sound_changed}
use Rattle.satip_interleave.proofs.lanes.Lanes.drain.Goals as goal

pub invariant_of-self : goal.invariant_of-self
invariant_of-self c =
    sound_changed c.self.inside (record { given = c.self.inside.given; held = c.drain_at.new.lanes; spare = c.self.inside.spare })
    c.in-Some.at _ (c.drain_at.ensures.changed nobody) c.drain_at.ensures.capacity refl c.self.invariant

pub returns-clause-answer : goal.returns-clause-answer
returns-clause-answer c =
    let stands = rw c.deref.ensures.value at c.in-Some.ensures.found in
    subst (λ lanes. c.drain_at.result ≡ drain_answer (lane_of c.args.lane lanes.held)) c.self.view_is
    (c.drain_at.ensures.answer nobody ∙ sym (ap drain_answer (stands.found nobody)))

pub returns-clause-drained : goal.returns-clause-drained
returns-clause-drained c =
    let stands = rw c.deref.ensures.value at c.in-Some.ensures.found in
    let changed = c.drain_at.ensures.changed nobody ∙ sym (stands.changed drained_lane nobody) in
    subst (λ (lanes : PlainLanes). record { given = c.self.inside.given; held = c.drain_at.new.lanes.items } ≡ drained c.args.lane lanes) c.self.view_is
    (let P = ap (λ held. (let l : PlainLanes = record { given = c.self.inside.given; held = held } in l)) changed in P)

pub returns-clause-wrote : goal.returns-clause-wrote
returns-clause-wrote c =
    let stands = rw c.deref.ensures.value at c.in-Some.ensures.found in
    subst (λ lanes. Wrote c.args.out.now (concat (taken_frames (lane_of c.args.lane lanes.held))) c.drain_at.new.out) c.self.view_is
    (subst (λ lane. Wrote c.args.out.now (concat (taken_frames lane)) c.drain_at.new.out) (sym (stands.found nobody)) (c.drain_at.ensures.wrote nobody))
