use Rattle.satip_entry_writer.proofs.Writing.{◌then◌}
use Rattle.satip_entry_writer.specs.Requests.{change_text}
use Rattle.satip_entry_writer.proofs.requests.encode_change.Goals as goal

pub returns : goal.returns
unfolding change_text
returns c = record {
  wrote =
      c.encode_option_u16.ensures.wrote then c.encode_option_u8.ensures.wrote then c.encode_option_u32.ensures.wrote
      then c.encode_option_pol.ensures.wrote then c.encode_option_roll_off.ensures.wrote
      then c.encode_option_system.ensures.wrote then c.encode_option_modulation.ensures.wrote
      then c.encode_option_bool.ensures.wrote then c.encode_option_u32-2.ensures.wrote
      then c.encode_option_fec.ensures.wrote;
}
