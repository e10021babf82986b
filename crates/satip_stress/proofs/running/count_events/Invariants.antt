use Rattle.std.proofs.Common.{◌≡◌, ◌+◌, ◌-◌, ◌*◌, ◌≤◌}
use Rattle.satip_script.specs.Runs.{run}
use Rattle.satip_stress.specs.Counted.{IsBounded}
use Rattle.satip_stress.specs.Counting.{counts}
use Rattle.satip_stress.specs.Making.{events_of, stress, stress_setting, words_from}
use Rattle.satip_stress.specs.Running.{AreKept, ComesTo, before_word}
use Rattle.satip_stress.proofs.running.count_events.Given as goal

-- the events of the words so far were made and counted, and those of the other words are left
abbrev pub invariant-loop-place : goal.invariant-loop-place
invariant-loop-place l = record {
  words : l.words ≡ before_word l.seed l.place;
  events : l.run.counted.counts.events ≡ l.place + 5;
  moment : l.run.moment ≤ 1000 + l.place * 40;
  cseq : l.run.cseq ≤ l.place + 5;
  bounded : IsBounded l.run.counted.counts;
  kept : AreKept l.run.kept;
  comes : ComesTo (counts (run stress_setting (stress l.seed l.count))) l.run.counted
      (events_of (words_from l.seed l.place (l.count - l.place)) l.run.moment l.run.cseq);
}
