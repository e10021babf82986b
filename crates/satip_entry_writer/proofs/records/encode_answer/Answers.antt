use Rattle.satip_entry_writer.proofs.Writing.{◌then◌}
use Rattle.satip_entry_writer.specs.Records.{answer_text}
use Rattle.satip_entry_writer.proofs.records.encode_answer.Goals as goal

pub returns-in-Replied-clause-wrote : goal.returns-in-Replied-clause-wrote
unfolding answer_text
returns-in-Replied-clause-wrote c =
    rw c.in-Replied.is (c.encode_u8.ensures.wrote then c.encode_replied.ensures.wrote)

pub returns-in-Get-clause-wrote : goal.returns-in-Get-clause-wrote
unfolding answer_text
returns-in-Get-clause-wrote c =
    rw c.in-Get.is (c.encode_u8-in-Get.ensures.wrote then c.encode_get.ensures.wrote)

pub returns-in-Beat-clause-wrote : goal.returns-in-Beat-clause-wrote
unfolding answer_text
returns-in-Beat-clause-wrote c =
    rw c.in-Beat.is (c.encode_u8-in-Beat.ensures.wrote then c.encode_beat.ensures.wrote)

pub returns-in-Work-clause-wrote : goal.returns-in-Work-clause-wrote
unfolding answer_text
returns-in-Work-clause-wrote c =
    rw c.in-Work.is (c.encode_u8-in-Work.ensures.wrote then c.encode_work.ensures.wrote)

pub returns-in-Pulled-clause-wrote : goal.returns-in-Pulled-clause-wrote
unfolding answer_text
returns-in-Pulled-clause-wrote c =
    rw c.in-Pulled.is (c.encode_u8-in-Pulled.ensures.wrote then c.encode_pulled.ensures.wrote)

pub returns-in-Closed-clause-wrote : goal.returns-in-Closed-clause-wrote
unfolding answer_text
returns-in-Closed-clause-wrote c =
    rw c.in-Closed.is (c.encode_u8-in-Closed.ensures.wrote then c.encode_closed.ensures.wrote)
