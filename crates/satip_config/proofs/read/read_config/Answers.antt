-- What follows for a caller from the configuration that the text writes.
use Rattle.std.proofs.lemmas.Result.{IfOk-weaker}
use Rattle.toml.specs.View.{table_view}
use Rattle.satip_config.specs.declared.fault.ConfigFault.TheVariants.{Long, NotToml}
use Rattle.satip_config.proofs.KeyFaults.{answer-key, document_of-short}
use Rattle.satip_config.proofs.LimitLemmas.{Facts, read-facts}
use Rattle.satip_config.proofs.read.read_config.Goals as goal

pub returns-clause-long : goal.returns-clause-long
returns-clause-long c = (
  λ is. absurd (answer-key _ c.configuration_of.result Long c.configuration_of.ensures.value is (λ same. cc)),
  λ long. absurd (document_of-short c.args.bytes.now (table_view c.in_ok-table.table) c.in_ok-table.ensures.ok long),
)

pub returns-clause-not_toml : goal.returns-clause-not_toml
returns-clause-not_toml c is = absurd (answer-key _ c.configuration_of.result NotToml c.configuration_of.ensures.value is (λ same. cc))

pub returns-clause-front_count : goal.returns-clause-front_count
returns-clause-front_count c = IfOk-weaker c.configuration_of.result Facts _ (λ x facts. facts.front_count)
    (read-facts _ c.configuration_of.result c.configuration_of.ensures.value)

pub returns-clause-front_numbers : goal.returns-clause-front_numbers
returns-clause-front_numbers c = IfOk-weaker c.configuration_of.result Facts _ (λ x facts. facts.front_numbers)
    (read-facts _ c.configuration_of.result c.configuration_of.ensures.value)

pub returns-clause-mux_count : goal.returns-clause-mux_count
returns-clause-mux_count c = IfOk-weaker c.configuration_of.result Facts _ (λ x facts. facts.mux_count)
    (read-facts _ c.configuration_of.result c.configuration_of.ensures.value)

pub returns-clause-paired : goal.returns-clause-paired
returns-clause-paired c = IfOk-weaker c.configuration_of.result Facts _ (λ x facts. facts.paired)
    (read-facts _ c.configuration_of.result c.configuration_of.ensures.value)

pub returns-clause-ranges : goal.returns-clause-ranges
returns-clause-ranges c = IfOk-weaker c.configuration_of.result Facts _ (λ x facts. facts.ranges)
    (read-facts _ c.configuration_of.result c.configuration_of.ensures.value)
