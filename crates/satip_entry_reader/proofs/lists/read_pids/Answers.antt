use Rattle.std.proofs.Common.{ℕ, ◌+◌, ◌<◌, List, length, arith, sym, subst}
use Rattle.satip_entry_writer.specs.Fields.{u16_text}
use Rattle.satip_entry_reader.specs.ReadingLists.{pid_read}
use Rattle.satip_entry_reader.proofs.Loops.{ReadSome, pushed, read_all, read_fails, read_one}
use Rattle.satip_entry_reader.proofs.lists.read_pids.Goals as goal

pub returns-in_default-clause-read : goal.returns-in_default-clause-read
returns-in_default-clause-read c =
    read_fails u16_text pid_read c.args.count c.pids.place c.args.bytes.now c.pids.bytes c.pids.pids c.pids-test.true
    (sym c.in_default.ensures.read) c.pids.invariant

pub pids-preserved : goal.pids-preserved
pids-preserved c =
    let few : length c.pids.pids < 512 = omega (arith, c.pids.invariant.length_is, c.pids-test.true, c.requires.few) in
    subst (λ (ys : List ℕ). ReadSome u16_text pid_read c.args.count (c.pids.place + 1) c.args.bytes.now ys c.read_pid.new.bytes)
    (pushed c.push.result c.pids.pids c.push.new.self c.in-Some.pid c.push.ensures.full c.push.ensures.pushed few)
    (read_one u16_text pid_read c.args.count c.pids.place c.args.bytes.now c.pids.bytes c.read_pid.new.bytes c.pids.pids c.in-Some.pid
    c.pids-test.true (sym c.in-Some.ensures.read) c.in-Some.ensures.front c.pids.invariant)

pub returns-clause-read : goal.returns-clause-read
returns-clause-read c =
    read_all u16_text pid_read c.args.count c.pids.place c.args.bytes.now c.pids.bytes c.pids.pids
    (omega (arith, c.pids-test.false, c.pids.auto.place-end)) c.pids.invariant
