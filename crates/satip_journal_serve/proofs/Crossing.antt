-- A journal may go to another thread, where its runtime may be shared and its sink may go.
use denote.RattleType.{RattleType}
use denote.Ref.{NamedLft}
use denote.Param.Send.{IsSend, IsSync, sendable}
use Rattle.satip_desk.specs.declared.journals.JobSink.{Ghosts}
use Rattle.satip_entry_writer.proofs.room.LineRoom.TheSendSync.{the_send as line_send}
use Rattle.satip_shared.proofs.Crossing.{crossing as caller_crossing}
use Rattle.satip_journal.specs.contracts.journal.Journal as Journal

pub journal_send : (ℓ : NamedLft) (R K : RattleType) (g : Ghosts K.Denot) → IsSync R → IsSend K → IsSend (Journal.the_row ℓ R K g)
journal_send ℓ R K g s k = search (sendable, caller_crossing, line_send) depth 14

-- what a search for `Send` of what holds journals takes
pub ruleset crossing = (sendable, caller_crossing, line_send, journal_send)
