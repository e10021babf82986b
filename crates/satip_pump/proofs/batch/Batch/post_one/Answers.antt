use Rattle.std.proofs.Common.{◌∙◌}
use Rattle.satip_world.proofs.DeliveryLemmas.{delivers_one, posts_held}
use Rattle.satip_pump.proofs.batch.Batch.post_one.Goals as goal

pub returns : goal.returns
returns g c = record {
  held = posts_held _ _ _ _ _ _ c.send.ensures.posts ∙ c.requires.held;
  delivers = rw (← c.self.view_is, ← c.in-Some.ensures.datagram) (delivers_one _ _ _ _ _ _ c.send.ensures.posts);
}
