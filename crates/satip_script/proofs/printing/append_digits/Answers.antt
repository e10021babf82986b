use Rattle.std.proofs.Common.{[], ◌++◌, refl}
use Rattle.satip_script.proofs.AppendLemmas.{no_digits, digits_more, passed_more}
use Rattle.satip_script.proofs.printing.append_digits.Goals as goal

pub pieces-init : goal.pieces-init
pieces-init c = ([], refl, no_digits c.args.text.now.items)

pub pieces-preserved : goal.pieces-preserved
pieces-preserved c =
    let before = c.pieces.invariant in (
      before.0 ++ c.split_at.result.0.now,
      passed_more c.args.bytes.now before.0 c.pieces.rest.now c.split_at.result.0.now c.split_at.result.1.now c.min.result before.1 c.split_at.ensures.front
          c.split_at.ensures.back,
      digits_more c.args.text.now.items c.pieces.text.items c.append_piece.new.text.items before.0 c.split_at.result.0.now before.2
          c.in_ok-append_piece.ensures.appended,
    )
