use Rattle.satip_base.specs.Output.{Datagram}
use Rattle.satip_script.proofs.AppendLemmas.{lines_added}
use Rattle.satip_script.proofs.printing.append_datagrams.Goals as goal

pub datagrams-preserved : goal.datagrams-preserved
datagrams-preserved c =
    let d : Datagram = record { to = c.in-Some.to; bytes = c.in-Some.bytes.now } in
    lines_added c.args.text.now.items c.datagrams.text.items c.append_datagram.new.text.items c.args.out.now.datagrams c.datagrams.place d
    c.datagrams.invariant c.in_ok-append_datagram-in-Some.ensures.appended c.in-Some.ensures.datagram
