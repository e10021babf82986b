use Rattle.std.proofs.Common.{sym, ◌∙◌}
use Rattle.satip_audit.proofs.SameLemmas.{same_more}
use Rattle.satip_audit.proofs.comparing.same_datagrams.Goals as goal

pub datagrams-preserved : goal.datagrams-preserved
datagrams-preserved c =
    same_more c.datagrams.place c.args.a.now.datagrams c.args.b.now.datagrams
    (sym c.datagram.ensures.datagram ∙ c.if-not-same_datagram.ensures.same ∙ c.datagram-in-datagrams.ensures.datagram) c.datagrams.invariant
