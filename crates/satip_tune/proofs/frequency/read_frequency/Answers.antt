use Rattle.satip_tune.specs.Frequency.{frequency_of}
use Rattle.satip_tune.proofs.FrequencyLemmas.{three_pieces}
use Rattle.satip_tune.proofs.frequency.read_frequency.Goals as goal

pub returns-in_default-Some : goal.returns-in_default-Some
unfolding frequency_of
returns-in_default-Some c = record {
  value = three_pieces c.args.text.now _ _ _ _ _ _ c.cut.ensures.pieces c.in-Some.is c.cut-in-Some.ensures.pieces c.in_default-Some.is-1;
}
