-- The line of the entry was put, with its place, unless a put had failed.
use Rattle.std.proofs.Common.{ℕ, ◌-◌, Bool, List, length, refl, sym, ap, subst}
use Rattle.satip_entry_writer.specs.Lines.{entry_line}
use Rattle.satip_shared.proofs.Calling.{made_by}
use Rattle.satip_journal.specs.Logs.{Logs}
use Rattle.satip_journal.specs.Continuing.{logs_none}
use Rattle.satip_journal.proofs.KeepLemmas.{entered, not_entered}
use Rattle.satip_journal.proofs.journal.JournalService.call.Goals as goal

pub returns-then-self-clause-same : goal.returns-then-self-clause-same
returns-then-self-clause-same g c =
    let drain = g.K.JobSink.drain c.args.self.now.sink in
    let place = length c.call.new.pass.seen - 1 in
    let out = c.call.new.out in
    let text = entry_line place c.args.self.now.number c.args.event.now c.in-Ok.answer out.reply out.datagrams in
    let P : Bool → Type 0 = λ failed. Logs g.K.JobSink.tells drain drain failed failed text in
    entered g.K.JobSink.tells _ _ place c.args.event.now c.in-Ok.answer out (record { server = refl; pass = c.call.ensures.keeps }) refl refl
    c.args.self.now.own c.call.ensures.knows.own_is c.in-Ok.ensures.history refl (subst P (sym c.if-self.true) refl)
    (c.write_entry.ensures.typed c.args.self.now.caller.pass.number)

pub returns-then-self-clause-called : goal.returns-then-self-clause-called
returns-then-self-clause-called g c =
    made_by c.args.self.now.caller.server.now.setting c.args.self.now.caller.pass c.call.new.pass c.args.event.now c.in-Ok.answer c.call.new.out
    c.call.ensures.knows.lawful c.in-Ok.ensures.history

pub returns-else-self-clause-same : goal.returns-else-self-clause-same
returns-else-self-clause-same g c =
    let before = g.K.JobSink.drain c.args.self.now.sink in
    let after = g.K.JobSink.drain c.fails_to_put-self.new.sink in
    let failed = c.fails_to_put-self.result in
    let place = c.place-place.result - 1 in
    let out = c.call.new.out in
    let text = entry_line place c.args.self.now.number c.args.event.now c.in-Ok.answer out.reply out.datagrams in
    let P : List ℕ → Type 0 = λ t. Logs g.K.JobSink.tells before after c.args.self.now.failed failed t in
    let Q : Bool → Type 0 = λ b. Logs g.K.JobSink.tells before after b failed c.bytes.result.now in
    entered g.K.JobSink.tells _ _ place c.args.event.now c.in-Ok.answer out (record { server = refl; pass = c.call.ensures.keeps }) refl
    c.fails_to_put-self.ensures.job c.args.self.now.own c.call.ensures.knows.own_is c.in-Ok.ensures.history (ap (λ (n : ℕ). n - 1) c.place-place.ensures)
    (subst P c.write_entry.ensures.line (subst P c.bytes.ensures.bytes (subst Q (sym c.if-self.false) c.fails_to_put-self.ensures.logs)))
    (c.write_entry.ensures.typed c.args.self.now.caller.pass.number)

pub returns-else-self-clause-called : goal.returns-else-self-clause-called
returns-else-self-clause-called g c =
    made_by c.args.self.now.caller.server.now.setting c.args.self.now.caller.pass c.call.new.pass c.args.event.now c.in-Ok.answer c.call.new.out
    c.call.ensures.knows.lawful c.in-Ok.ensures.history

pub returns-in-Err-clause-same : goal.returns-in-Err-clause-same
returns-in-Err-clause-same g c =
    not_entered g.K.JobSink.tells _ _ (record { server = refl; pass = c.call.ensures.keeps }) refl refl
    c.args.self.now.own c.call.ensures.knows.own_is c.in-Err.ensures.history
    (logs_none g.K.JobSink.tells (g.K.JobSink.drain c.args.self.now.sink) c.args.self.now.failed)
