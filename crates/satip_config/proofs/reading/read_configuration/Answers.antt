use Rattle.satip_config.proofs.ConfigLemmas.{numbered_from, too_long}
use Rattle.satip_config.proofs.reading.read_configuration.Goals as goal

pub returns-in-Err-TooLong-clause-fault : goal.returns-in-Err-TooLong-clause-fault
returns-in-Err-TooLong-clause-fault g c = too_long _ _ _ _ c.in-Err-TooLong.field-0-is c.in-Err-TooLong.ensures.ends

pub returns-in-Ok-read_config-clause-served : goal.returns-in-Ok-read_config-clause-served
returns-in-Ok-read_config-clause-served g c = record {
  few = c.in-Ok-read_config.ensures.front_count.1;
  numbered = numbered_from 1 _ c.in-Ok-read_config.ensures.front_numbers;
  received = c.in-Ok-read_config.ensures.mux_count;
}
