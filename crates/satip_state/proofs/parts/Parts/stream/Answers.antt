use Rattle.std.proofs.Common.{sym, subst}
use Rattle.satip_state.specs.Standing.{StandsFor}
use Rattle.satip_state.proofs.Looking.{stream_looked}
use Rattle.satip_state.proofs.parts.Parts.stream.Goals as goal

pub returns : goal.returns
returns c = record {
  stream = λ cfg st stands.
      let at = subst (λ v. StandsFor cfg v st) (sym c.self.view_is) stands in
      stream_looked cfg _ st c.args.number c.find_stream.result at c.find_stream.ensures.found;
}
