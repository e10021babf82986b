use Rattle.std.proofs.Common.{[], ◌∷◌}
use Rattle.satip_script.specs.Printed.{plain_line}
use Rattle.satip_script.proofs.AppendLemmas.{appended_then}
use Rattle.satip_script.proofs.printing.append_line.Goals as goal

pub returns : goal.returns
unfolding plain_line
returns c = record {
  appended = appended_then c.append-2.result c.args.text.now.items c.append.new.text.items c.append-2.new.text.items c.args.words.now (10 ∷ [])
      c.in_ok-append.ensures.appended c.append-2.ensures.appended;
}
