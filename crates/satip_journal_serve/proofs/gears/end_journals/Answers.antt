-- All sinks come back in order, and with them whether a put failed.
use Rattle.satip_journal_serve.proofs.Gearing.{all_back, all_failed}
use Rattle.satip_journal_serve.proofs.gears.end_journals.Goals as goal

pub returns-clause-sinks : goal.returns-clause-sinks
returns-clause-sinks g c =
    all_back _ _ _ _ _ c.args.gears.root c.args.gears.ticker c.args.gears.workers.items c.args.gears.pumps.items c.requires.none c.give_one-first.ensures.sinks
    c.give_back-second.ensures.sinks c.give_back-third.ensures.sinks c.give_one-last.ensures.sinks

pub returns-clause-failed : goal.returns-clause-failed
returns-clause-failed g c =
    all_failed c.args.gears.root c.args.gears.ticker c.args.gears.workers.items c.args.gears.pumps.items _ _ _ _ _ _ _ c.either.ensures.either
    c.either-2.ensures.either c.either-3.ensures.either c.give_one-first.ensures.failed c.give_back-second.ensures.failed c.give_back-third.ensures.failed
    c.give_one-last.ensures.failed
