use Rattle.std.proofs.Common.{◌∙◌}
use Rattle.satip_client.proofs.ExchangeLemmas.{no_set_up_by}
use Rattle.satip_client.proofs.opening.set_up.Goals as goal

pub returns-in-Err-clause-sets_up : goal.returns-in-Err-clause-sets_up
returns-in-Err-clause-sets_up g c =
    no_set_up_by _ _ _ _ _ _ _ _ _ (c.bytes.ensures.bytes ∙ c.write_setup.ensures.request)
    c.in_ok-ask.ensures.asks c.bytes-2.ensures.bytes c.in-Err.ensures.grants
