use Rattle.std.proofs.Common.{◌≡◌, refl, sym, ap, subst, ◌∙◌}
use Rattle.satip_interleave.specs.Lanes.{PlainLanes, put_in, put_to}
use Rattle.satip_interleave.proofs.LaneLemmas.{nobody, sound_changed}
use Rattle.satip_interleave.proofs.lanes.Lanes.put.Goals as goal

pub invariant_of-self : goal.invariant_of-self
invariant_of-self c =
    sound_changed c.self.inside (record { given = c.self.inside.given; held = c.put_at.new.lanes; spare = c.self.inside.spare })
    c.in-Some.at _ (c.put_at.ensures.changed nobody) c.put_at.ensures.capacity refl c.self.invariant

pub returns : goal.returns
returns c =
    let stands = rw c.deref.ensures.value at c.in-Some.ensures.found in
    let changed = c.put_at.ensures.changed nobody ∙ sym (stands.changed (put_in c.args.to.port c.args.datagram.now) nobody) in
    record {
      put = subst (λ (lanes : PlainLanes). record { given = c.self.inside.given; held = c.put_at.new.lanes.items } ≡ put_to c.args.to c.args.datagram.now lanes)
          c.self.view_is
          (ap (λ held. (let l : PlainLanes = record { given = c.self.inside.given; held = held } in l)) changed);
    }
