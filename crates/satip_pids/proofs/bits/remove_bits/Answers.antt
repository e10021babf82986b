use Rattle.std.proofs.Common.{[], ◌∷◌, get_or, ap, ◌∙◌}
use Rattle.satip_pids.specs.Rising.{without}
use Rattle.satip_pids.specs.Bits.{members}
use Rattle.satip_pids.proofs.BitSets.{without_more, without_none}
use Rattle.satip_pids.proofs.bits.remove_bits.Goals as goal

pub loop-pid-init : goal.loop-pid-init
loop-pid-init c = record { left = without_none (members c.args.words.now); listed = c.requires.listed }

pub loop-pid-preserved : goal.loop-pid-preserved
loop-pid-preserved c =
    let list = c.args.list.now in
    let i = c.loop-pid.pid-index in
    record {
      left = c.remove_one-total.ensures.left ∙ ap (λ xs. without xs (get_or list i 0 ∷ [])) c.loop-pid.invariant.left
          ∙ without_more c.args.words.now list i c.loop-pid-test.true;
      listed = c.remove_one-total.ensures.listed;
    }
