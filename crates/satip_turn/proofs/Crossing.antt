-- A cell may be shared among threads, and a cell and a pass may go to another, where the served value may.
use denote.RattleType.{RattleType}
use denote.Param.Send.{IsSend, IsSync, sendable}
use denote.Param.SendFields.{declared_sync, declared_send, as_row_sync, as_row_send}
use denote.Struct.Field.{Field}
use Rattle.atomic_table.specs.contracts.owned.Table as Table
use Rattle.std.proofs.Crossing as heap
use Rattle.std.specs.contracts.snapshot.Snapshot as Snapshot
use Rattle.std.specs.contracts.boxed.Box as Box
use Rattle.atomic_table.proofs.shared.Seat.TheSendSync as seat
use Rattle.atomic_table.proofs.owned.Table.TheSendSync as table
use Rattle.satip_base.specs.declared.served.Served.{Ghosts}
use Rattle.satip_turn.specs.contracts.cell.Pass as Pass
use Rattle.satip_turn.specs.contracts.cell.TurnCell as Cell
use Rattle.satip_turn.specs.contracts.cell.TurnCell.TheInside as inside
use Rattle.satip_turn.specs.contracts.view.Content as Content
use Rattle.satip_turn.specs.contracts.view.View as View
use Rattle.satip_turn.specs.contracts.rule.Turns as Turns
use Rattle.satip_turn.specs.contracts.rule.TurnsTableRuleSlotSightSnapshot.TheImpl as rule
use Rattle.atomic_table.specs.declared.shared.TableRule as TableRule
use Rattle.std.specs.contracts.alloc.Global as Heap
use Rattle.std.specs.contracts.impls.GlobalAllocator.TheImpl.{ghosts}

snapshot_send : (T : RattleType) → IsSend (Snapshot.the_row T)
snapshot_send T = record { owned = λ d vs. ((λ vss. (tt, ((λ uss. (tt, tt)), tt))), tt); leaving = λ k f vs. tt }

-- the served value in its box
abbrev boxed : RattleType → RattleType
boxed S = Box.the_row S Heap.the_row ghosts

content_send : (S E A O : RattleType) → IsSend S → IsSend (Content.the_row (boxed S) E A O)
content_send S E A O s = search (sendable, snapshot_send, heap.Box-send) depth 20

pub pass_send : (S E O A C : RattleType) (g : Ghosts S.Denot E.Denot O.Denot A.Denot C.Denot) → IsSend S → IsSend (Pass.the_row S E O A C g)
pass_send S E O A C g s = search (sendable, seat.the_send, content_send) depth 20

-- what the cell's rule stands for at the served type
abbrev rule_of : (S E O A C : RattleType) (g : Ghosts S.Denot E.Denot O.Denot A.Denot C.Denot)
    → TableRule.Ghosts (Turns.the_row).Denot (Content.the_row (boxed S) E A O).Denot (View.the_row E A O C).Denot (Snapshot.the_row S).Denot
rule_of S E O A C g = rule.ghosts S E O A C g rule.no_dict rule.no_dict rule.no_dict rule.no_dict

abbrev table_field : (S E O A C : RattleType) (g : Ghosts S.Denot E.Denot O.Denot A.Denot C.Denot) → Field
table_field S E O A C g = Table.the_field (Content.the_row (boxed S) E A O) (View.the_row E A O C) (Snapshot.the_row S) Turns.the_row Heap.the_row
    (rule_of S E O A C g) ghosts

inside_sync : (S E O A C : RattleType) (g : Ghosts S.Denot E.Denot O.Denot A.Denot C.Denot) → IsSend S → IsSync (inside.the_row S E O A C g)
inside_sync S E O A C g s = declared_sync (inside.the_type S E O A C g) (
  as_row_sync (table_field S E O A C g)
      (table.the_field_sync (Content.the_row (boxed S) E A O) (View.the_row E A O C) (Snapshot.the_row S) Turns.the_row Heap.the_row (rule_of S E O A C g) ghosts
      (content_send S E A O s) heap.send heap.sync heap.frees),
  tt,
)

inside_send : (S E O A C : RattleType) (g : Ghosts S.Denot E.Denot O.Denot A.Denot C.Denot) → IsSend S → IsSend (inside.the_row S E O A C g)
inside_send S E O A C g s = declared_send (inside.the_type S E O A C g) (
  as_row_send (table_field S E O A C g)
      (table.the_field_send (Content.the_row (boxed S) E A O) (View.the_row E A O C) (Snapshot.the_row S) Turns.the_row Heap.the_row (rule_of S E O A C g) ghosts
      (content_send S E A O s) heap.send heap.frees),
  tt,
)

pub cell_sync : (S E O A C : RattleType) (g : Ghosts S.Denot E.Denot O.Denot A.Denot C.Denot) → IsSend S → IsSync (Cell.the_row S E O A C g)
cell_sync S E O A C g s = search (sendable, inside_sync) depth 20

pub cell_send : (S E O A C : RattleType) (g : Ghosts S.Denot E.Denot O.Denot A.Denot C.Denot) → IsSend S → IsSend (Cell.the_row S E O A C g)
cell_send S E O A C g s = search (sendable, inside_send) depth 20
