use Rattle.satip_query.proofs.Decimals.{three_pieces}
use Rattle.satip_query.proofs.values.is_decimal.Goals as goal

pub returns-in_default-Some : goal.returns-in_default-Some
returns-in_default-Some c = record {
  decimal = three_pieces c.args.text.now _ _ _ _ _ _ c.cut.ensures.pieces c.in-Some.is c.cut-in-Some.ensures.pieces c.in_default-Some.is-1;
}
