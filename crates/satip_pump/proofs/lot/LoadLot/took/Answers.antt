use Rattle.std.proofs.Common.{nat_le, refl, rules}
use Rattle.satip_pump.proofs.LoadLemmas.{appended_more, given_left, left_more, took_more}
use Rattle.satip_pump.proofs.lot.LoadLot.took.Goals as goal

pub returns-then-not-is_left-clause-taken : goal.returns-then-not-is_left-clause-taken
returns-then-not-is_left-clause-taken c = λ first ts e given took.
    let load = c.args.self.now in
    let none = given_left load.given load.front load.tune load.work load.batch.now load.is_left load.buffer.now.packets e given in (
      took.0,
      took_more _ _ _ load.given _ load.batch.now ts e c.args.answer.now c.args.out.now given took.1 record {
        front = refl;
        tune = refl;
        rest = c.pass.ensures.rest;
        room = c.pass.ensures.room;
        work = c.work_of-self.ensures.work;
        packets = c.pass.ensures.packets;
        datagrams = appended_more _ _ _ load.is_left (nat_le 4 c.count-is_left.result) load.last.now.value c.of.result.value none (search rules) c.append.ensures.bundled.datagrams_are;
      },
    )

pub returns-else-not-is_left-clause-taken : goal.returns-else-not-is_left-clause-taken
returns-else-not-is_left-clause-taken c = λ first ts e given took.
    let load = c.args.self.now in
    let none = given_left load.given load.front load.tune load.work load.batch.now load.is_left load.buffer.now.packets e given in (
      took.0,
      took_more _ _ _ load.given _ load.batch.now ts e c.args.answer.now c.args.out.now given took.1 record {
        front = refl;
        tune = refl;
        rest = c.pass.ensures.rest;
        room = c.pass.ensures.room;
        work = c.work_of-self.ensures.work;
        packets = c.pass.ensures.packets;
        datagrams = left_more load.batch.now.datagrams load.is_left _ load.last.now.value c.args.out.now _ none (search rules) c.of.ensures;
      },
    )
