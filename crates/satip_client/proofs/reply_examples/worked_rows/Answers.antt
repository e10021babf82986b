use Rattle.std.proofs.Common.{refl}
use Rattle.httparse.specs.Grammar.{trim_ows}
use Rattle.satip_base.specs.Numbers.{number_of}
use Rattle.satip_frame.specs.Said.{body_length}
use Rattle.satip_client.specs.Fields.{text_without_spaces}
use Rattle.satip_client.proofs.reply_examples.worked_rows.Goals as goal

pub returns-clause-text : goal.returns-clause-text
returns-clause-text c = refl

pub returns-clause-status : goal.returns-clause-status
returns-clause-status c = refl

pub returns-clause-number : goal.returns-clause-number
unfolding trim_ows number_of
returns-clause-number c = refl

pub returns-clause-body : goal.returns-clause-body
unfolding trim_ows number_of body_length
returns-clause-body c = refl

pub returns-clause-session : goal.returns-clause-session
unfolding text_without_spaces
returns-clause-session c = refl

pub returns-clause-no_session : goal.returns-clause-no_session
unfolding text_without_spaces
returns-clause-no_session c = refl

pub returns-clause-timeout : goal.returns-clause-timeout
unfolding text_without_spaces number_of
returns-clause-timeout c = refl

pub returns-clause-no_timeout : goal.returns-clause-no_timeout
unfolding text_without_spaces number_of
returns-clause-no_timeout c = refl

pub returns-clause-zero_timeout : goal.returns-clause-zero_timeout
unfolding text_without_spaces number_of
returns-clause-zero_timeout c = refl
