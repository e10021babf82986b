use Rattle.std.proofs.Common.{◌≤◌, List, Option, length, subst, sym, arith}
use Rattle.std.specs.Prelude.{IfSome}
use Rattle.std.proofs.lemmas.List.{take_all}
use Rattle.satip_base.specs.Lists.{Each}
use Rattle.satip_base.specs.Output.{Datagram}
use Rattle.satip_entry_writer.specs.Entries.{IsOfBytes, IsTarget}
use Rattle.satip_entry_writer.specs.Records.{datagram_text}
use Rattle.satip_entry_writer.proofs.EachLemmas.{each_take_more}
use Rattle.satip_entry_writer.proofs.Lists.{is_there, room_more, within_datagrams, wrote_more}
use Rattle.satip_entry_writer.proofs.records.encode_datagrams.Goals as goal

pub encode_datagram-requires-clause-short : goal.encode_datagram-requires-clause-short
encode_datagram-requires-clause-short c =
    let d : Datagram = record { to = c.in-Some.to; bytes = c.in-Some.bytes.now } in
    omega (arith, within_datagrams c.args.out.now.datagrams c.datagrams.place d (sym c.in-Some.ensures.datagram), c.count-place-end.ensures.room.bytes)

pub encode_datagram-requires-clause-room : goal.encode_datagram-requires-clause-room
encode_datagram-requires-clause-room c =
    let d : Datagram = record { to = c.in-Some.to; bytes = c.in-Some.bytes.now } in
    room_more datagram_text c.args.out.now.datagrams c.datagrams.place d (sym c.in-Some.ensures.datagram) c.datagrams.invariant.0 c.requires.room

pub unreachable-requires : goal.unreachable-requires
unreachable-requires c =
    is_there c.args.out.now.datagrams c.datagrams.place c.in-None.ensures.datagram
    (omega (arith, c.datagrams-test.true, c.count-place-end.ensures.count))

pub datagrams-preserved : goal.datagrams-preserved
datagrams-preserved c =
    let d : Datagram = record { to = c.in-Some.to; bytes = c.in-Some.bytes.now } in
    let ds = c.args.out.now.datagrams in
    let place = c.datagrams.place in (
      wrote_more datagram_text ds place d (sym c.in-Some.ensures.datagram) c.datagrams.invariant.0 c.encode_datagram.ensures.wrote,
      each_take_more IsTarget ds place
          (subst (λ (o : Option Datagram). IfSome o IsTarget) c.in-Some.ensures.datagram c.encode_datagram.ensures.target) c.datagrams.invariant.1,
      each_take_more IsOfBytes ds place
          (subst (λ (o : Option Datagram). IfSome o IsOfBytes) c.in-Some.ensures.datagram c.encode_datagram.ensures.bytes) c.datagrams.invariant.2,
    )

pub returns-clause-targets : goal.returns-clause-targets
returns-clause-targets c =
    let far : length c.args.out.now.datagrams ≤ c.datagrams.place = omega (arith, c.datagrams-test.false, c.count-place-end.ensures.count) in
    subst (λ (ds : List Datagram). Each IsTarget ds) (take_all c.datagrams.place c.args.out.now.datagrams far) c.datagrams.invariant.1

pub returns-clause-bytes : goal.returns-clause-bytes
returns-clause-bytes c =
    let far : length c.args.out.now.datagrams ≤ c.datagrams.place = omega (arith, c.datagrams-test.false, c.count-place-end.ensures.count) in
    subst (λ (ds : List Datagram). Each IsOfBytes ds) (take_all c.datagrams.place c.args.out.now.datagrams far) c.datagrams.invariant.2
