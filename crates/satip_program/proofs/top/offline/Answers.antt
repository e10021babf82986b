use Rattle.std.proofs.Common.{rules, ◌≡◌, [], None, Some, refl}
use Rattle.satip_base.specs.Streams.{fresh_feed}
use Rattle.satip_recorder.specs.Words.{wanted}
use Rattle.satip_program.specs.Commands.{Talk, Replay, Stress, Audit, Record, Help, Version, command_of}
use Rattle.satip_program.proofs.BatchLemmas.{batch_ends, batch_tells}
use Rattle.satip_program.proofs.RecordingLemmas.{record_ends, record_tells}
use Rattle.satip_program.proofs.RunLemmas.{ends_alone, seen_fault, shows_tells, usage_tells}
use Rattle.satip_program.proofs.StressLemmas.{stress_tells}
use Rattle.satip_program.proofs.TalkLemmas.{talk_tells}
use Rattle.satip_program.proofs.top.offline.Goals as goal

pub returns-in-None : goal.returns-in-None
returns-in-None g c =
    let is : command_of c.args.words.now ≡ None = search rules in
    record {
      ends = rw is (rw c.without_jobs.ensures.ended
          (ends_alone _ None _ _ _ 2 (record { input = refl; output = refl }) (usage_tells _ _ _ _ _ _ c.say.ensures.says)));
      nothing = λ a b. refl;
    }

pub returns-in-Some-Talk : goal.returns-in-Some-Talk
returns-in-Some-Talk g c =
    let is : command_of c.args.words.now ≡ Some Talk = search rules in
    record {
      ends = rw is (rw c.without_jobs-in-Some-Talk.ensures.ended (rw c.status.ensures.status
          (ends_alone _ (Some Talk) _ _ _ _ c.talk-outcome.ensures.ends
          (talk_tells _ _ _ _ c.talk-outcome.result c.talk-outcome.ensures.ends.status_is c.talk-outcome.ensures.input_fault
          c.talk-outcome.ensures.output_fault c.talk-outcome.ensures.too_long c.talk-outcome.ensures.limit c.talk-outcome.ensures.says))));
      nothing = λ a b. refl;
    }

pub returns-in-Some-Replay : goal.returns-in-Some-Replay
returns-in-Some-Replay g c =
    let is : command_of c.args.words.now ≡ Some (Replay c.in-Some-Replay.name.now) = search rules in
    let run = c.run_batch-outcome in
    record {
      ends = rw is (rw c.without_jobs-in-Some-Replay.ensures.ended (rw c.status-in-Some-Replay.ensures.status
          (batch_ends _ (Replay _) _ _ _ _ _ _ refl run.ensures.ends run.ensures.texts run.ensures.kits run.ensures.handed run.ensures.journaled
          (batch_tells _ (Replay _) _ _ _ _ _ run.result.outcome refl run.ensures.ends.status_is
          (λ is. seen_fault g.K.Config.Source.feed _ _ _ (run.ensures.input_fault is)) run.ensures.output_fault
          run.ensures.too_long run.ensures.limit run.ensures.says))));
      nothing = rw is (λ none. let never : ⊥ = cc in absurd never);
    }

pub returns-in-Some-Stress : goal.returns-in-Some-Stress
returns-in-Some-Stress g c =
    let is : command_of c.args.words.now ≡ Some (Stress c.in-Some-Stress.seed c.in-Some-Stress.count) = search rules in
    let run = c.stress_by-outcome in
    record {
      ends = rw is (rw c.without_jobs-in-Some-Stress.ensures.ended (rw c.status-in-Some-Stress.ensures.status
          (ends_alone _ (Some (Stress _ _)) _ _ _ _ (run.ensures.ends _)
          (stress_tells _ _ _ _ _ _ _ _ _ run.result (run.ensures.ends (fresh_feed [])).status_is run.ensures.output_fault run.ensures.says))));
      nothing = λ a b. refl;
    }

pub returns-in-Some-Audit : goal.returns-in-Some-Audit
returns-in-Some-Audit g c =
    let is : command_of c.args.words.now ≡ Some (Audit c.in-Some-Audit.name.now) = search rules in
    let run = c.run_batch-outcome-in-Some-Audit in
    record {
      ends = rw is (rw c.without_jobs-in-Some-Audit.ensures.ended (rw c.status-in-Some-Audit.ensures.status
          (batch_ends _ (Audit _) _ _ _ _ _ _ refl run.ensures.ends run.ensures.texts run.ensures.kits run.ensures.handed run.ensures.journaled
          (batch_tells _ (Audit _) _ _ _ _ _ run.result.outcome refl run.ensures.ends.status_is
          (λ is. seen_fault g.K.Config.Source.feed _ _ _ (run.ensures.input_fault is)) run.ensures.output_fault
          run.ensures.too_long run.ensures.limit run.ensures.says))));
      nothing = rw is (λ none. let never : ⊥ = cc in absurd never);
    }

pub returns-in-Some-Record : goal.returns-in-Some-Record
returns-in-Some-Record g c =
    let is : command_of c.args.words.now ≡ Some (Record (wanted c.in-Some-Record.recording)) = search rules in
    let run = c.record-outcome in
    record {
      ends = rw is (rw c.with_client.ensures.ended (rw c.status-in-Some-Record.ensures.status
          (record_ends _ _ _ _ _ _ _ _ (run.ensures.ends _) run.ensures.texts run.ensures.kits run.ensures.journaled
          (record_tells _ _ _ _ _ _ _ _ _ _ _ (run.ensures.ends (fresh_feed [])).status_is (run.ensures.ends (fresh_feed [])).output_rose))));
      nothing = rw is (λ none other. let never : ⊥ = cc in absurd never);
    }

pub returns-in-Some-Help : goal.returns-in-Some-Help
returns-in-Some-Help g c =
    let is : command_of c.args.words.now ≡ Some Help = search rules in
    record {
      ends = rw is (rw c.without_jobs-in-Some-Help.ensures.ended (rw c.status-in-Some-Help.ensures.status
          (ends_alone _ (Some Help) _ _ _ _ (refl, c.show-outcome.ensures.shows)
          (shows_tells _ _ _ _ _ _ _ _ _ c.show-outcome.result c.show-outcome.ensures.shows c.show-outcome.ensures.says))));
      nothing = λ a b. refl;
    }

pub returns-in-Some-Version : goal.returns-in-Some-Version
returns-in-Some-Version g c =
    let is : command_of c.args.words.now ≡ Some Version = search rules in
    let shown = c.show-outcome-in-Some-Version in
    record {
      ends = rw is (rw c.without_jobs-in-Some-Version.ensures.ended (rw c.status-in-Some-Version.ensures.status
          (ends_alone _ (Some Version) _ _ _ _ (refl, shown.ensures.shows)
          (shows_tells _ _ _ _ _ _ _ _ _ shown.result shown.ensures.shows shown.ensures.says))));
      nothing = λ a b. refl;
    }
