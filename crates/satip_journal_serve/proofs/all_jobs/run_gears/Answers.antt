-- The journals may go to other threads, and each sink was sent its job's lines.
use Rattle.std.proofs.Common.{rules, ◌+◌, ◌≤◌, ◌^◌, List, [], ◌∷◌, ◌++◌, length, length-append, arith}
use Rattle.satip_journal.specs.declared.crew.JournalGear.{JournalGear}
use Rattle.satip_journal_serve.proofs.Crossing.{crossing}
use Rattle.satip_journal_serve.proofs.Runs.{all_are_typed, all_logged, callers_are, jobs_kept, pump_gears, worker_gears}
use Rattle.satip_journal_serve.proofs.all_jobs.run_gears.Goals as goal

pub run_services-journal-requires-send-X : goal.run_services-journal-requires-send-X
run_services-journal-requires-send-X g c κs within = search crossing depth 16

pub returns-clause-ran : goal.returns-clause-ran
returns-clause-ran g c =
    let ran = c.run_services-journal.ensures in
    record { of = search rules; knows = ran.knows; jobs = ran.ran }

pub returns-clause-went_on : goal.returns-clause-went_on
returns-clause-went_on g c =
    all_logged c.run_services-journal.ensures.did g.S.JobSink.tells g.S.JobSink.job g.S.JobSink.drain (λ x. x.own) (λ x y went. went)
    (λ s t did. (did.same_is, did.number)) (λ s t did. (did.same_is, did.number)) (λ s t did. (did.same_is, did.number))
    c.run_services-journal.ensures.knows c.requires.ready.first

pub returns-clause-jobs : goal.returns-clause-jobs
returns-clause-jobs g c =
    jobs_kept c.run_services-journal.ensures.did g.S.JobSink.tells g.S.JobSink.job g.S.JobSink.drain (λ x. x.own) (λ x y went. went)
    (λ s t did. (did.same_is, did.number)) (λ s t did. (did.same_is, did.number)) (λ s t did. (did.same_is, did.number))
    c.run_services-journal.ensures.knows c.requires.ready.first

pub returns-clause-worker_gears : goal.returns-clause-worker_gears
returns-clause-worker_gears g c =
    worker_gears c.run_services-journal.ensures.did g.S.JobSink.tells g.S.JobSink.job g.S.JobSink.drain (λ x. x.own) (λ x y went. went)
    (λ s t did. (did.same_is, did.number)) (λ s t did. (did.same_is, did.number)) (λ s t did. (did.same_is, did.number))
    c.run_services-journal.ensures.knows c.requires.ready.first

pub returns-clause-pump_gears : goal.returns-clause-pump_gears
returns-clause-pump_gears g c =
    pump_gears c.run_services-journal.ensures.did g.S.JobSink.tells g.S.JobSink.job g.S.JobSink.drain (λ x. x.own) (λ x y went. went)
    (λ s t did. (did.same_is, did.number)) (λ s t did. (did.same_is, did.number)) (λ s t did. (did.same_is, did.number))
    c.run_services-journal.ensures.knows c.requires.ready.first

pub returns-clause-callers : goal.returns-clause-callers
returns-clause-callers g c =
    let ws : List (JournalGear g.row.S.Denot) = c.args.gears.workers.items in
    let ps : List (JournalGear g.row.S.Denot) = c.args.gears.pumps.items in
    let last : List (JournalGear g.row.S.Denot) = c.args.gears.ticker ∷ [] in
    let workers = c.requires.worker_space in
    let pumps = c.requires.pump_space in
    let few : 1 + length (ws ++ (ps ++ last)) ≤ 2 ^ 64 =
    omega (arith, length-append ws (ps ++ last), length-append ps last, workers.few, workers.gears_are, pumps.few, pumps.gears_are) in
    callers_are c.run_services-journal.ensures.did g.S.JobSink.tells g.S.JobSink.job g.S.JobSink.drain (λ x. x.own) (λ x y went. went)
    (λ s t did. (did.same_is, did.number)) (λ s t did. (did.same_is, did.number)) (λ s t did. (did.same_is, did.number))
    c.run_services-journal.ensures.knows c.requires.ready.first few

pub returns-clause-typed : goal.returns-clause-typed
returns-clause-typed g c =
    all_are_typed c.run_services-journal.ensures.did g.S.JobSink.tells g.S.JobSink.job g.S.JobSink.drain (λ x. x.own) (λ x y went. went)
    (λ s t did. (did.same_is, did.number)) (λ s t did. (did.same_is, did.number)) (λ s t did. (did.same_is, did.number))
    c.run_services-journal.ensures.knows c.requires.ready.first
