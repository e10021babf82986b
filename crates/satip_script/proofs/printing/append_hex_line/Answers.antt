use Rattle.std.proofs.Common.{[], ◌∷◌, ◌++◌}
use Rattle.hex.specs.Hex.{encode_lower}
use Rattle.satip_script.specs.Printed.{hex_line}
use Rattle.satip_script.proofs.AppendLemmas.{appended_then, joined}
use Rattle.satip_script.proofs.printing.append_hex_line.Goals as goal

pub returns : goal.returns
unfolding hex_line
returns c = record {
  appended = appended_then c.append-2.result c.args.text.now.items c.append_digits.new.text.items c.append-2.new.text.items
      (c.args.front.now ++ encode_lower c.args.bytes.now) (10 ∷ [])
      (joined c.args.text.now.items c.append.new.text.items c.append_digits.new.text.items c.args.front.now (encode_lower c.args.bytes.now)
      c.in_ok-append.ensures.appended c.in_ok-append_digits.ensures.appended)
      c.append-2.ensures.appended;
}
