-- The map of a table finds what the members have at the key's text.
use Rattle.toml.proofs.Views.{table_get}
use Rattle.satip_config.proofs.values.value_at.Goals as goal

pub returns : goal.returns
returns c = record {
  value = rw c.text.ensures.text at (table_get c.get.result c.text.result.now c.args.table.now.entries c.get.ensures.value);
}
