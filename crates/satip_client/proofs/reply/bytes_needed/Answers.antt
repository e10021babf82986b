use Rattle.satip_client.proofs.WaitLemmas.{stays_as_it_is, stays_for_body}
use Rattle.satip_client.proofs.reply.bytes_needed.Goals as goal

pub returns-in-Some : goal.returns-in-Some
returns-in-Some c = record { stays = stays_for_body c.args.text.now c.read_head.new.headers c.in-Some.head c.in-Some.ensures.found }

pub returns-in-None : goal.returns-in-None
returns-in-None c = record { stays = stays_as_it_is c.args.text.now c.requires.is_open }
