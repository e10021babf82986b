use Rattle.std.proofs.Common.{◌+◌, ◌*◌, ◌<◌, ap, ◌∙◌, arith, if◌then◌else◌}
use Rattle.satip_pids.specs.Pids.{has_pid}
use Rattle.satip_pids.proofs.BitSets.{bit_of_word}
use Rattle.satip_pids.proofs.SetViews.{has_pid_view}
use Rattle.satip_pids.proofs.pid_set.PidSet.word.Goals as goal

pub returns : goal.returns
returns c =
    let s = c.self.inside in
    let at = c.args.place in
    record {
      bits = λ i below.
          let pid = 64 * at + i in
          let within : pid < 8192 = omega arith in
          bit_of_word s.words at i below ∙ ap (λ b. if b then 1 else 0)
          (has_pid_view s.words s.count pid c.self.invariant within ∙ ap (λ set. has_pid set pid) c.self.view_is);
    }
