-- Why a connection ended, by each end.
use Rattle.std.proofs.Common.{◌≡◌, true, subst}
use Rattle.satip_base.specs.declared.network.Peer.{Peer}
use Rattle.satip_world.specs.declared.doors.ConnEnd.{ConnEnd}
use Rattle.satip_world.specs.declared.doors.ConnEnd.TheVariants.{Done, ReadFault, WriteFault, Spent, Want}
use Rattle.satip_world.specs.declared.doors.DoorKind.{DoorKind}
use Rattle.satip_world.specs.Counts.{Rises}
use Rattle.satip_worker.specs.Answers.{ends_with_last}
use Rattle.satip_worker.specs.Drawing.{DrawRange}
use Rattle.satip_worker.specs.Ends.{LineEnds, ServiceEnds}
use Rattle.satip_worker.specs.Progress.{ConnState, SameFaults}
use Rattle.satip_worker.specs.Served.{ServesConn}

module _ (ct ot : Type 0) (kind : DoorKind) (peer : Peer) (draws : DrawRange) (o n : ConnState) (end : ConnEnd)
    (serves : ServesConn ct ot kind peer draws o n end) where
  pub calm_of_done : end ≡ Done → SameFaults o.line n.line
  calm_of_done is =
      let P : ConnEnd → Type 0 = λ e. LineEnds e o.line n.line (ends_with_last serves.entries) in
      (subst P is serves.line_ends).calm

  pub cause_of_read_fault : end ≡ ReadFault → Rises o.line.receive_faults n.line.receive_faults
  cause_of_read_fault is =
      let P : ConnEnd → Type 0 = λ e. LineEnds e o.line n.line (ends_with_last serves.entries) in
      (subst P is serves.line_ends).faults

  pub cause_of_write_fault : end ≡ WriteFault → Rises o.line.send_faults n.line.send_faults
  cause_of_write_fault is =
      let P : ConnEnd → Type 0 = λ e. LineEnds e o.line n.line (ends_with_last serves.entries) in
      (subst P is serves.line_ends).faults

  pub cause_of_spent : end ≡ Spent → n.stage.known.length ≡ 18446744073709551615
  cause_of_spent is =
      let P : ConnEnd → Type 0 = λ e. ServiceEnds e o.stage.may_want n.stage.known in
      subst P is serves.service_ends

  pub cause_of_want : end ≡ Want → o.stage.may_want ≡ true
  cause_of_want is =
      let P : ConnEnd → Type 0 = λ e. ServiceEnds e o.stage.may_want n.stage.known in
      subst P is serves.service_ends
