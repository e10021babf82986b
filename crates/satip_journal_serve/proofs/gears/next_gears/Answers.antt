-- One sink more has a journal.
use Rattle.std.proofs.Common.{◌≡◌, ◌∙◌, ◌+◌, List, [], ◌∷◌, length, sym, ap, subst, arith, length-append}
use Rattle.satip_journal.specs.declared.crew.JournalGear.{JournalGear}
use Rattle.satip_journal_serve.specs.SinkGears.{AreOpen}
use Rattle.satip_journal_serve.proofs.Gearing.{are_append, next_sink}
use Rattle.satip_journal_serve.proofs.gears.next_gears.Goals as goal

pub jobs-preserved : goal.jobs-preserved
jobs-preserved g c =
    let i = c.jobs.invariant in
    let one = c.next_gear-gear.ensures in
    let put = c.put_last.ensures in
    let gear = c.next_gear-gear.result in
    let before : List (JournalGear g.row.K.Denot) = c.jobs.gears.items in
    let more = c.put_last.new.items.items in
    let count : length more ≡ length before + 1 = ap length put.last ∙ length-append before (gear ∷ []) in
    let test = c.jobs-test.true in
    record {
      sinks_are = next_sink c.args.sinks.now.items c.jobs.sinks.items c.next_gear-gear.new.sinks.items before more gear i.sinks_are one.first put.last;
      are_open = subst (λ (gs : List (JournalGear g.row.K.Denot)). AreOpen c.args.first gs) (sym put.last)
          (are_append c.args.first c.jobs.number before (gear ∷ []) i.are_open (one.number, one.open, tt) i.number);
      number = omega (arith, i.number, count);
      made = omega (arith, i.made, count, put.count);
      most = omega (arith, i.made, put.count, test, c.len.ensures);
      left = omega (arith, i.left, one.count, put.count);
      rooms = omega (arith, i.rooms, one.lines, put.count);
      capacity = one.capacity ∙ i.capacity;
      space = put.capacity ∙ i.space;
    }
