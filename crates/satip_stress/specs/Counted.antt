-- Counts that grow by the answer and the datagrams of one entry.
use Rattle.std.specs.Prelude.{◌+◌, ◌*◌, ◌≤◌, ◌<◌, cond, List, sum_by, count_by}
use Rattle.satip_base.specs.Output.{Datagram}
use Rattle.satip_plain.specs.declared.answers.Answer.{Answer}
use Rattle.satip_stress.specs.declared.counting.Counts.{Counts}
use Rattle.satip_stress.specs.Counting.{is_reply, is_refusal, is_media, is_report, packets_in}

-- the counts before any entry
abbrev pub none_counted : Counts
none_counted = record { events = 0; replies = 0; refused = 0; datagrams = 0; payload = 0; reports = 0 }

-- the counts with these datagrams added
abbrev pub with_datagrams : Counts → List Datagram → Counts
with_datagrams c ds = record {
  events = c.events;
  replies = c.replies;
  refused = c.refused;
  datagrams = c.datagrams + count_by is_media ds;
  payload = c.payload + sum_by packets_in ds;
  reports = c.reports + count_by is_report ds;
}

-- the counts with this answer added
abbrev pub with_answer : Counts → Answer → Counts
with_answer c answer = record {
  events = c.events + 1;
  replies = c.replies + cond (is_reply answer) 1 0;
  refused = c.refused + cond (is_refusal answer) 1 0;
  datagrams = c.datagrams;
  payload = c.payload;
  reports = c.reports;
}

-- the counts with an entry of this answer and these datagrams added
abbrev pub with_entry : Counts → Answer → List Datagram → Counts
with_entry c answer ds = with_datagrams (with_answer c answer) ds

-- no count exceeds what its number of events can give
pub record IsBounded (c : Counts) : Type 0 where
  pub replies : c.replies ≤ c.events
  pub refused : c.refused ≤ c.events
  pub datagrams : c.datagrams ≤ c.events * 256
  pub payload : c.payload ≤ c.events * 262144
  pub reports : c.reports ≤ c.events * 256

-- bounded, and one more can be counted
pub record HasRoom (c : Counts) : Type 0 where
  pub bounded : IsBounded c
  pub events : c.events < 4294967295

-- a datagram can be counted
pub record HasDatagramRoom (c : Counts) : Type 0 where
  pub datagrams : c.datagrams < 18446744073709551615
  pub payload : c.payload < 9223372036854775808
  pub reports : c.reports < 18446744073709551615
