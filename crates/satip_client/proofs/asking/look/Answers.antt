use Rattle.satip_client.proofs.WaitLemmas.{open_is_short, open_still, settled_bad}
use Rattle.satip_client.proofs.asking.look.Goals as goal

pub returns-then-text-needed : goal.returns-then-text-needed
returns-then-text-needed c =
    let still = open_still c.args.text.now c.args.needed c.requires.waits c.if-text-needed.true in
    record { settled = tt; is_open = still; short = open_is_short c.args.text.now still; stays = c.requires.waits }

pub returns-in-More-clause-short : goal.returns-in-More-clause-short
returns-in-More-clause-short c =
    open_is_short c.args.text.now (record { no_reply = c.in-More.ensures.read.0; can_become = c.in-More.ensures.read.1 })

pub returns-in-Bad-clause-settled : goal.returns-in-Bad-clause-settled
returns-in-Bad-clause-settled c = settled_bad c.args.text.now c.in-Bad.ensures.read
