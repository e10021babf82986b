use Rattle.std.proofs.Common.{ℕ, ◌+◌, List, [], length, append-nil, sym, ap, subst, arith}
use Rattle.std.specs.List.{flat_map}
use Rattle.satip_base.specs.Printed.{Printed}
use Rattle.satip_base.proofs.Writing.{◌then_printed◌}
use Rattle.satip_pids.specs.Bits.{members_above}
use Rattle.satip_pids.specs.Texts.{next_text}
use Rattle.satip_pids.proofs.BitSets.{above_next, above_none}
use Rattle.satip_pids.proofs.PidTexts.{length-decimal_pid}
use Rattle.satip_pids.proofs.texts.print_more.Goals as goal

pub write-requires : goal.write-requires
write-requires c =
    let next = above_next c.args.words.now c.loop-pid.from c.in-Some.pid c.in-Some.ensures.next in
    record { room = omega (arith, ap length next, c.loop-pid.invariant.room) }

pub write_number-requires : goal.write_number-requires
write_number-requires c =
    let next = above_next c.args.words.now c.loop-pid.from c.in-Some.pid c.in-Some.ensures.next in
    record {
      room = omega (
        arith,
        ap length next,
        c.loop-pid.invariant.room,
        c.write.ensures.printed.count,
        length-decimal_pid c.in-Some.pid c.in-Some.ensures.next.below,
      );
    }

pub loop-pid-preserved : goal.loop-pid-preserved
loop-pid-preserved c =
    let ws = c.args.words.now in
    let pid = c.in-Some.pid in
    let rest = members_above ws (pid + 1) in
    let next = above_next ws c.loop-pid.from pid c.in-Some.ensures.next in
    record {
      within = omega (arith, c.in-Some.ensures.next.below);
      printed = λ n printed.
          c.loop-pid.invariant.printed n
          (subst (λ pids. Printed c.loop-pid.strip (flat_map next_text pids) n) (sym next)
          (c.write.ensures.printed then_printed c.write_number.ensures.printed then_printed printed));
      room = omega (
        arith,
        ap length next,
        c.loop-pid.invariant.room,
        c.write.ensures.printed.count,
        c.write_number.ensures.printed.count,
        length-decimal_pid pid c.in-Some.ensures.next.below,
      );
    }

-- nothing is printed
nothing : (o : List ℕ) → Printed o [] o
nothing o = record { bytes = sym (append-nil o); count = omega arith }

pub returns : goal.returns
returns c =
    let ws = c.args.words.now in
    let strip = c.loop-pid.strip in
    let none = above_none ws c.loop-pid.from c.loop-pid.invariant.within c.in_default.ensures.next in
    record { printed = c.loop-pid.invariant.printed strip (subst (λ pids. Printed strip (flat_map next_text pids) strip) (sym none) (nothing strip)) }
