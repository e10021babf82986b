-- One job more has a journal.
use Rattle.std.specs.Prelude.{suc}
use Rattle.std.proofs.Common.{◌≡◌, ◌∙◌, ℕ, List, [], ◌∷◌, ◌++◌, length, map, sym, ap, subst, arith, append_assoc, length-append}
use Rattle.std.proofs.lemmas.List.{map-append}
use Rattle.satip_base.specs.Streams.{fresh_drain}
use Rattle.satip_base.specs.Lists.{Each}
use Rattle.satip_base.proofs.Elements.{Each-append}
use Rattle.satip_journal_serve.specs.Asked.{first_jobs}
use Rattle.satip_journal_serve.proofs.asking.ask_journals.Goals as goal

pub jobs-preserved : goal.jobs-preserved
jobs-preserved g c =
    let i = c.jobs.invariant in
    let put = c.push_reserved.ensures in
    let gave = c.in-Ok.ensures in
    let before : List g.row.K-Journal.Denot = c.jobs.journals.items in
    let more : List g.row.K-Journal.Denot = c.push_reserved.new.self.items in
    let one : g.row.K-Journal.Denot = c.in-Ok.journal in
    let asked : List ℕ = (g.K.Desk.desk c.args.desk.now).journaled in
    let job = c.len-in-jobs.result in
    let count : length more ≡ suc (length before) = omega (arith, ap length put.items, length-append before (one ∷ [])) in
    let same : job ≡ length before = omega (arith, c.len-in-jobs.ensures, i.made) in
    let J : g.row.K-Journal.Denot → ℕ = g.K.Journal.JobSink.job in
    let P : List g.row.K-Journal.Denot → Type 0 = λ js. Each (λ j. g.K.Journal.JobSink.drain j ≡ fresh_drain) js in
    record {
      made = omega (arith, i.made, count, put.len);
      most = omega (arith, put.len, c.jobs-test.true, c.len.ensures);
      space = omega (arith, i.space, put.capacity);
      texts = gave.texts ∙ i.texts;
      kits = gave.kits ∙ i.kits;
      handed = gave.handed ∙ i.handed;
      faults = gave.no_fault ∙ i.faults;
      journaled = gave.journaled ∙ ap (λ (js : List ℕ). js ++ job ∷ []) i.journaled ∙ append_assoc asked (first_jobs (length before)) (job ∷ [])
          ∙ ap (λ (k : ℕ). asked ++ (first_jobs (length before) ++ k ∷ [])) same ∙ sym (ap (λ (k : ℕ). asked ++ first_jobs k) count);
      jobs = ap (λ (js : List g.row.K-Journal.Denot). map J js) put.items ∙ map-append J before (one ∷ [])
          ∙ ap (λ (js : List ℕ). js ++ J one ∷ []) i.jobs ∙ ap (λ (k : ℕ). first_jobs (length before) ++ k ∷ []) (gave.of_job ∙ same)
          ∙ sym (ap (λ (k : ℕ). first_jobs k) count);
      new = subst P (sym put.items) (Each-append (λ j. g.K.Journal.JobSink.drain j ≡ fresh_drain) before (one ∷ []) i.new (gave.sink, tt));
    }
