use Rattle.satip_entry_reader.proofs.AnswersAgain.{answer_again}
use Rattle.satip_entry_reader.proofs.ValuesAgain.{u8_again, u16_again, u32_again, u64_again, bool_again, pol_again, roll_off_again, system_again, modulation_again, fec_again, id_again, draw_again, ports_again, change_again}
use Rattle.satip_entry_reader.proofs.values_read_again.parts_are_read_again.Goals as goal

pub returns-clause-u8 : goal.returns-clause-u8
returns-clause-u8 c = u8_again

pub returns-clause-u16 : goal.returns-clause-u16
returns-clause-u16 c = u16_again

pub returns-clause-u32 : goal.returns-clause-u32
returns-clause-u32 c = u32_again

pub returns-clause-u64 : goal.returns-clause-u64
returns-clause-u64 c = u64_again

pub returns-clause-bool : goal.returns-clause-bool
returns-clause-bool c = bool_again

pub returns-clause-pol : goal.returns-clause-pol
returns-clause-pol c = pol_again

pub returns-clause-roll_off : goal.returns-clause-roll_off
returns-clause-roll_off c = roll_off_again

pub returns-clause-system : goal.returns-clause-system
returns-clause-system c = system_again

pub returns-clause-modulation : goal.returns-clause-modulation
returns-clause-modulation c = modulation_again

pub returns-clause-fec : goal.returns-clause-fec
returns-clause-fec c = fec_again

pub returns-clause-id : goal.returns-clause-id
returns-clause-id c = id_again

pub returns-clause-draw : goal.returns-clause-draw
returns-clause-draw c = draw_again

pub returns-clause-ports : goal.returns-clause-ports
returns-clause-ports c = ports_again

pub returns-clause-change : goal.returns-clause-change
returns-clause-change c = change_again

pub returns-clause-answer : goal.returns-clause-answer
returns-clause-answer c = answer_again
