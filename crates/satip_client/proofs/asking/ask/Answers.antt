use Rattle.satip_client.proofs.WaitLemmas.{asks_after}
use Rattle.satip_client.proofs.asking.ask.Goals as goal

pub returns-in-Whole : goal.returns-in-Whole
returns-in-Whole g c = record {
  asks = asks_after _ _ _ _ _ _ _ c.await_reply.result c.in-Whole.ensures.sends c.await_reply.ensures.awaits;
}
