use Rattle.std.proofs.Common.{◌≡◌, ◌∙◌, ◌++◌, append-nil, inl, inr, ⊎_elim, ℕ, List, [], Option, None, IsSomeAnd, option_map, length, map, refl, sym, ap, subst, arith}
use Rattle.satip_base.specs.Streams.{Feed, fresh_drain}
use Rattle.satip_base.specs.Lists.{Each}
use Rattle.satip_config.specs.Configurations.{Configured, Refused}
use Rattle.satip_desk.specs.Desks.{GivenFrom}
use Rattle.satip_desk.specs.Journals.{JournalView, journal_view, journals_view}
use Rattle.satip_desk.specs.Views.{DeskView, JobsView, jobs_view}
use Rattle.satip_serve.specs.CommandRan.{LastView, last_view}
use Rattle.satip_config.specs.Lines.{Says}
use Rattle.satip_journal_serve.specs.Asked.{first_jobs}
use Rattle.satip_journal_serve.specs.Ends.{AreUntouched}
use Rattle.satip_journal_serve.specs.Ran.{JournalRun}
use Rattle.satip_journal_serve.specs.Statuses.{journal_status}
use Rattle.satip_journal_serve.proofs.Sending.{each_map, jobs_viewed, length_map}
use Rattle.satip_journal_serve.proofs.Endings.{IsLeft, begun_told, doors_told, ends_memory, fault_told, faults_told, has_end, input_status, input_told, journals_told}
use Rattle.satip_journal_serve.proofs.Endings.{left_from, served_by, settled_told, unused_told}
use Rattle.satip_journal_serve.proofs.Seen.{always_seen, kits_seen, none_seen, some_seen}
use Rattle.satip_journal_serve.proofs.command.journal_by.Goals as goal

pub returns-in-Ok-clause-ends : goal.returns-in-Ok-clause-ends
returns-in-Ok-clause-ends g c =
    let run = c.run_source-end in
    let end = run.result.end in
    let opened = c.in-Ok.ensures in
    let seen : g.row.K-Journal.Denot → JournalView = journal_view g.K.Journal.JobSink.job g.K.Journal.JobSink.drain in
    let sinks : List g.row.K-Journal.Denot = run.result.journals.items in
    let given : Feed = g.K.Config.Source.feed c.in-Ok.source in
    let left_of_it : Feed = g.K.Config.Source.feed c.run_source-end.new.source in
    let view = jobs_view g.K.Doors.Doors.hall g.K.Outlet.Outlet.outbox g.K.Store.MuxStore.shelf g.K.Clock.Clock.dial in
    let desk : DeskView = g.K.Desk.desk c.run_source-end.new.desk in
    let last : Option LastView = option_map (last_view view) run.result.last in
    let unused : Option JobsView = option_map view run.result.unused in
    let from_mid : IsLeft _ _ _ last unused end =
    record {
      no_fault = always_seen _ (last_view view) run.result.last run.ensures.no_fault;
      unused_end = always_seen _ view run.result.unused run.ensures.unused_end;
      not_begun = λ a b. run.ensures.not_begun (none_seen (last_view view) run.result.last a) (none_seen view run.result.unused b);
    } in
    let left = left_from _ _ _ _ last unused end opened.no_fault from_mid in
    record {
      status_is = has_end end;
      served_by = served_by g.K.Config.Source.tells _ given left_of_it last (λ l a b. Configured g.K.Config.Source.tells a b l.server.setting.config)
          opened.started opened.untaken
          (some_seen (last_view view) (λ l. Configured g.K.Config.Source.tells given left_of_it l.server.setting.config) run.result.last run.ensures.config);
      ran = some_seen (last_view view)
          (λ l. IsSomeAnd desk.given (λ k. JournalRun g.K.Doors.Conn.Conn.tells g.K.Outlet.Outlet.tells g.K.Journal.JobSink.tells c.args.accepts k l
          (map seen sinks) (journal_status end))) run.result.last run.ensures.ran;
      config = faults_told _ _ _ last unused end left;
      config_limit = omega (arith, run.ensures.limit, opened.untaken);
      read = λ other. run.ensures.read_through (λ is. other (ap journal_status is)) ∙ opened.started.faults;
      kits = kits_seen (last_view view) view desk.given run.result.last run.result.unused run.ensures.kits;
      fresh = run.ensures.fresh;
      kits_unused = some_seen view (λ k. IsSomeAnd desk.given (λ given. AreUntouched given k)) run.result.unused run.ensures.unused;
      asked_for = run.ensures.journaled ∙ ap (λ (jobs : List ℕ). jobs ++ first_jobs (length sinks)) opened.journaled
          ∙ ap (λ (n : ℕ). (g.K.Desk.desk c.args.desk.now).journaled ++ first_jobs n) (sym (length_map seen sinks));
      of_jobs = jobs_viewed g.K.Journal.JobSink.job g.K.Journal.JobSink.drain sinks ∙ run.ensures.jobs
          ∙ ap (λ (n : ℕ). first_jobs n) (sym (length_map seen sinks));
      none_asked = λ why.
          let none : sinks ≡ [] =
          ⊎_elim (λ (is : (g.K.Desk.desk c.run_source-end.new.desk).given ≡ None). run.ensures.none_asked is)
          (λ (is : journal_status end ≡ 70). run.ensures.unasked (ends_memory end is)) why in
          ap (λ (js : List g.row.K-Journal.Denot). map seen js) none;
      empty = λ none. each_map seen (λ j. j.drain ≡ fresh_drain) sinks (run.ensures.empty (none_seen (last_view view) run.result.last none));
      unused_status = unused_told _ _ _ last unused end left;
      served = λ is. begun_told _ _ _ last unused end left is;
      configuration = λ is.
          fault_told (λ line. Says g.E.Sink.tells (g.E.Sink.drain c.args.errors.now) (g.E.Sink.drain c.tell.new.errors) line)
          (λ fault. GivenFrom g.K.Config.Source.tells ((g.K.Desk.desk c.args.desk.now).text c.args.name.now)
          (λ a. Refused g.K.Config.Source.tells a (g.K.Config.Source.feed c.run_source-end.new.source) fault)) end (rw (sym c.outcome.ensures.outcome) c.tell.ensures.says)
          (λ fault same. record { source = given; started = opened.started; untaken = opened.untaken; said = run.ensures.configuration fault same }) is;
      input = input_told given left_of_it end opened.started.faults run.ensures.input_fault run.ensures.read_through;
      journal_fault = λ is none. journals_told _ _ _ last unused end left is none;
      doors_fault = λ is none. doors_told _ _ _ last unused end left is none;
      settled = λ told is still. settled_told g.K.Config.Source.tells _ given left_of_it end opened.started run.ensures.settled told is still;
    }

pub returns-in-Err-clause-ends : goal.returns-in-Err-clause-ends
returns-in-Err-clause-ends g c =
    let seen : List g.row.K-Journal.Denot → List JournalView = λ js. journals_view g.K.Journal.JobSink.job g.K.Journal.JobSink.drain js in
    record {
      status_is = inr (inr (inl refl));
      served_by = tt;
      ran = tt;
      config = c.in-Err.ensures.failed;
      config_limit = tt;
      read = λ other. absurd (other refl);
      kits = rw (c.in-Err.ensures.kits ∙ c.requires.new) (refl, refl);
      fresh = rw (c.in-Err.ensures.kits ∙ c.requires.new) tt;
      kits_unused = tt;
      asked_for = c.in-Err.ensures.journaled ∙ sym (append-nil (g.K.Desk.desk c.args.desk.now).journaled)
          ∙ ap (λ (js : List g.row.K-Journal.Denot). (g.K.Desk.desk c.args.desk.now).journaled ++ first_jobs (length (seen js)))
          (sym c.new.ensures.items);
      of_jobs =
          let P : List g.row.K-Journal.Denot → Type 0 = λ js. map (λ (j : JournalView). j.job) (seen js) ≡ first_jobs (length (seen js)) in
          subst P (sym c.new.ensures.items) refl;
      none_asked = λ why.
          let P : List g.row.K-Journal.Denot → Type 0 = λ js. seen js ≡ [] in
          subst P (sym c.new.ensures.items) refl;
      empty = λ none.
          let P : List g.row.K-Journal.Denot → Type 0 = λ js. Each (λ (j : JournalView). j.drain ≡ fresh_drain) (seen js) in
          subst P (sym c.new.ensures.items) tt;
      unused_status = tt;
      served = λ is. absurd (input_status 5 refl is);
      configuration = λ is. absurd (omega (arith, is));
      input = ((λ is. c.in-Err.ensures.failed), λ failed. refl);
      journal_fault = λ is none. absurd (omega (arith, is));
      doors_fault = λ is none. absurd (omega (arith, is));
      settled = λ told is. tt;
    }
