use Rattle.std.proofs.Common.{sym}
use Rattle.satip_memory_desk.proofs.DrawerLemmas.{text_started}
use Rattle.satip_memory_desk.proofs.desk.open.Goals as goal

pub returns-in-Ok-clause-started : goal.returns-in-Ok-clause-started
returns-in-Ok-clause-started c =
    text_started c.args.name.now c.args.drawers.now c.in-Some.drawer.now c.in-Ok.source _ (sym c.in-Some.ensures.found) c.deref.ensures.value
    c.in-Ok.ensures.ok
