use Rattle.satip_entry_writer.proofs.Writing.{◌then◌}
use Rattle.satip_entry_writer.specs.Records.{event_text}
use Rattle.satip_entry_writer.proofs.records.encode_event.Goals as goal

pub returns-in-Request : goal.returns-in-Request
unfolding event_text
returns-in-Request c = record {
  wrote =
      rw c.in-Request.is (c.encode_u8.ensures.wrote then c.encode_u32.ensures.wrote then c.encode_draw.ensures.wrote
      then c.encode_request.ensures.wrote);
}

pub returns-in-Get : goal.returns-in-Get
unfolding event_text
returns-in-Get c = record {
  wrote =
      rw c.in-Get.is (c.encode_u8-in-Get.ensures.wrote then c.encode_u32-in-Get.ensures.wrote
      then c.encode_draw-in-Get.ensures.wrote then c.encode_http_request.ensures.wrote);
}

pub returns-in-Tick : goal.returns-in-Tick
unfolding event_text
returns-in-Tick c = record {
  wrote = rw c.in-Tick.is (c.encode_u8-in-Tick.ensures.wrote then c.encode_u64.ensures.wrote);
}

pub returns-in-Packet : goal.returns-in-Packet
unfolding event_text
returns-in-Packet c = record {
  wrote =
      rw (c.in-Packet.is, ← c.bytes.ensures.bytes) (c.encode_u8-in-Packet.ensures.wrote then c.encode_u16.ensures.wrote
      then c.encode_u64-in-Packet.ensures.wrote then c.encode.ensures.wrote);
}

pub returns-in-Ended : goal.returns-in-Ended
unfolding event_text
returns-in-Ended c = record {
  wrote =
      rw c.in-Ended.is (c.encode_u8-in-Ended.ensures.wrote then c.encode_u16-in-Ended.ensures.wrote
      then c.encode_u64-in-Ended.ensures.wrote);
}

pub returns-in-Ask : goal.returns-in-Ask
unfolding event_text
returns-in-Ask c = record {
  wrote = rw c.in-Ask.is (c.encode_u8-in-Ask.ensures.wrote then c.encode_u16-in-Ask.ensures.wrote);
}

pub returns-in-Pull : goal.returns-in-Pull
unfolding event_text
returns-in-Pull c = record {
  wrote = rw c.in-Pull.is (c.encode_u8-in-Pull.ensures.wrote then c.encode_id.ensures.wrote);
}

pub returns-in-Close : goal.returns-in-Close
unfolding event_text
returns-in-Close c = record {
  wrote =
      rw c.in-Close.is (c.encode_u8-in-Close.ensures.wrote then c.encode_id-in-Close.ensures.wrote);
}
