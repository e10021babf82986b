use Rattle.std.proofs.Common.{refl}
use Rattle.std.specs.Fmt.{digits}
use Rattle.hex.specs.Hex.{encode_with}
use Rattle.satip_base.specs.Texts.{address_text}
use Rattle.satip_script.specs.Printed.{hex_line, plain_line, replied_front, get_front, work_words, datagram_front}
use Rattle.satip_command_tests.proofs.script.answers_are_printed.Goals as goal

pub returns-clause-replied : goal.returns-clause-replied
unfolding digits encode_with hex_line replied_front
returns-clause-replied c = refl

pub returns-clause-closing : goal.returns-clause-closing
unfolding digits encode_with hex_line replied_front
returns-clause-closing c = refl

pub returns-clause-refused : goal.returns-clause-refused
unfolding digits encode_with hex_line get_front
returns-clause-refused c = refl

pub returns-clause-tune : goal.returns-clause-tune
unfolding digits encode_with plain_line work_words
returns-clause-tune c = refl

pub returns-clause-datagram : goal.returns-clause-datagram
unfolding digits encode_with hex_line datagram_front address_text
returns-clause-datagram c = refl
