-- The journals have the sinks in order, and are numbered from 0.
use Rattle.std.proofs.Common.{◌≡◌, ◌∙◌, ◌+◌, List, [], ◌∷◌, ◌++◌, length, arith}
use Rattle.std.proofs.lemmas.List.{nil_from_length}
use Rattle.satip_journal.specs.declared.crew.JournalGear.{JournalGear}
use Rattle.satip_journal_serve.proofs.Gearing.{all_sinks, are_append}
use Rattle.satip_journal_serve.proofs.gears.begin_journals.Goals as goal

pub returns-clause-begun : goal.returns-clause-begun
returns-clause-begun g c =
    let root = c.next_gear-root.ensures in
    let workers = c.next_gears.ensures in
    let pumps = c.next_gears-2.ensures in
    let last = c.next_gear-ticker.ensures in
    let ticker = c.next_gear-ticker.result in
    let ws : List (JournalGear g.row.K.Denot) = c.next_gears.new.gears.items in
    let ps : List (JournalGear g.row.K.Denot) = c.next_gears-2.new.gears.items in
    let left = c.next_gear-ticker.new.sinks in
    let none : left.items ≡ [] =
    nil_from_length left.items (omega (arith, c.requires.sinks, root.count, workers.left, pumps.left, last.count, left.ok.0)) in
    let many : length ws ≡ c.args.workers = omega (arith, workers.count, c.next_gears.new.gears.ok.0) in
    let more : length ps ≡ c.args.pumps = omega (arith, pumps.count, c.next_gears-2.new.gears.ok.0) in
    record {
      bare = c.next_gear-root.result.sink;
      sinks_are = all_sinks c.args.sinks.now.items c.next_gear-root.new.sinks.items c.next_gears.new.sinks.items c.next_gears-2.new.sinks.items left.items
          c.next_gear-root.result.sink ws ps ticker root.first workers.sinks pumps.sinks last.first none;
      number = c.start.ensures.number ∙ root.number;
      same_job = c.start.ensures.job;
      started = c.start.ensures.logs;
      are_open = are_append 1 (1 + c.args.workers) ws (ps ++ ticker ∷ []) workers.open
          (are_append (1 + c.args.workers) (1 + c.args.workers + c.args.pumps) ps (ticker ∷ []) pumps.open (last.number, last.open, tt) (omega (arith, more)))
          (omega (arith, many));
    }
