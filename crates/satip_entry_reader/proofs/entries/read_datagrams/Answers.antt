use Rattle.std.proofs.Common.{arith}
use Rattle.satip_entry_reader.proofs.TakingSteps.{all_taken, one_taken, taking_fails}
use Rattle.satip_entry_reader.proofs.entries.read_datagrams.Goals as goal

pub returns-then-not-read_datagram : goal.returns-then-not-read_datagram
returns-then-not-read_datagram c = record {
  read =
      taking_fails c.args.count c.datagrams.place c.args.bytes.now c.datagrams.bytes c.datagrams-test.true c.if-not-read_datagram.ensures.read
      c.datagrams.invariant;
}

pub datagrams-preserved : goal.datagrams-preserved
datagrams-preserved c =
    one_taken c.args.count c.datagrams.place c.args.bytes.now c.datagrams.bytes c.read_datagram.new.bytes c.datagrams-test.true
    c.if-not-read_datagram.ensures.read c.datagrams.invariant

pub returns : goal.returns
returns c = record {
  read =
      all_taken c.args.count c.datagrams.place c.args.bytes.now c.datagrams.bytes (omega (arith, c.datagrams-test.false, c.datagrams.auto.place-end))
      c.datagrams.invariant;
}
