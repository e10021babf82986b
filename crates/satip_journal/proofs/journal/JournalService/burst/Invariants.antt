-- The events so far, each a call with its line.
use Rattle.std.proofs.Common.{◌≡◌, false, None}
use Rattle.satip_plain.proofs.Bursting.{UnderWay}
use Rattle.satip_shared.specs.Calling.{known_by}
use Rattle.satip_journal.specs.Keeping.{kept, SameJournal}
use Rattle.satip_journal.proofs.journal.JournalService.burst.Given as goal

abbrev pub invariant-loop-made : goal.invariant-loop-made
invariant-loop-made g l =
    UnderWay l.fn.self.caller.pass.number (known_by l.fn.self.caller.pass) (known_by l.self.caller.pass) (g.L.Lot.has_taken l.fn.lot l.lot) l.made
    × SameJournal g.K.JobSink.tells
    (kept l.fn.self.caller.server.now l.fn.self.caller.pass l.fn.self.number (g.K.JobSink.job l.fn.self.sink)
    (g.K.JobSink.drain l.fn.self.sink) l.fn.self.failed)
    (kept l.self.caller.server.now l.self.caller.pass l.self.number (g.K.JobSink.job l.self.sink) (g.K.JobSink.drain l.self.sink) l.self.failed)
    × (g.L.Lot.ended l.lot ≡ false) × (g.L.Lot.given l.lot ≡ None)
    × (g.L.Lot.took_last l.fn.lot l.fn.out → g.L.Lot.took_last l.lot l.out)
