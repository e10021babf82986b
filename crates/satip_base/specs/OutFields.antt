-- The fields of an `Out`.
use Rattle.std.specs.Prelude.{◌≡◌, ◌-◌, ◌≤◌, vec_len, vec_capacity}
use Rattle.satip_base.specs.declared.limits.TheConstants.{REPLY_BYTES, EVENT_BYTES, EVENT_DATAGRAMS}
use Rattle.satip_base.specs.declared.out.Out.TheInside.{Inside}
use Rattle.satip_base.specs.Output.{Output}

-- the value of an `Out` in contracts
abbrev pub output_of : Inside → Output
output_of o = record {
  reply = o.reply.items;
  datagrams = o.datagrams.datagrams;
  reply_spare = REPLY_BYTES - vec_len o.reply;
  datagram_spare = o.datagrams.byte_spare;
  count_spare = o.datagrams.count_spare;
}

-- the memory for the whole room is allocated
pub record IsSound (o : Inside) : Type 0 where
  pub reply : vec_len o.reply ≤ REPLY_BYTES
  pub reply_reserved : REPLY_BYTES ≤ vec_capacity o.reply
  pub byte_room : o.datagrams.byte_room ≡ EVENT_BYTES
  pub count_room : o.datagrams.count_room ≡ EVENT_DATAGRAMS
