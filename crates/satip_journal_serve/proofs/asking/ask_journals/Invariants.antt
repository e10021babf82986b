-- The journals so far are those of the first jobs, and nothing was sent to them.
use Rattle.std.proofs.Common.{◌≡◌, ◌-◌, ◌≤◌, ◌++◌, length, map, vec_len, vec_capacity}
use Rattle.satip_base.specs.Streams.{fresh_drain}
use Rattle.satip_base.specs.Lists.{Each}
use Rattle.satip_journal_serve.specs.Asked.{first_jobs}
use Rattle.satip_journal_serve.proofs.asking.ask_journals.Given as goal

abbrev pub invariant-jobs : goal.invariant-jobs
invariant-jobs g l = record {
  made : length l.journals.items ≡ vec_len l.journals;
  most : vec_len l.journals ≤ l.count;
  space : l.count ≤ vec_capacity l.journals;
  texts : (g.K.Desk.desk l.desk).text ≡ (g.K.Desk.desk l.initial.desk).text;
  kits : (g.K.Desk.desk l.desk).given ≡ (g.K.Desk.desk l.initial.desk).given;
  handed : (g.K.Desk.desk l.desk).handed ≡ (g.K.Desk.desk l.initial.desk).handed;
  faults : (g.K.Desk.desk l.desk).faults ≡ (g.K.Desk.desk l.initial.desk).faults;
  journaled : (g.K.Desk.desk l.desk).journaled ≡ (g.K.Desk.desk l.initial.desk).journaled ++ first_jobs (length l.journals.items);
  jobs : map g.K.Journal.JobSink.job l.journals.items ≡ first_jobs (length l.journals.items);
  new : Each (λ j. g.K.Journal.JobSink.drain j ≡ fresh_drain) l.journals.items;
}

abbrev pub decreases-jobs : goal.decreases-jobs
decreases-jobs g l = l.count - vec_len l.journals
