-- The number of pauses of a job.
use Rattle.std.specs.Prelude.{◌≡◌, ℕ, ◌+◌, ◌*◌, ◌/◌, List, [], ◌∷◌, ◌++◌, length, Result, Ok, Err}
use Rattle.satip_plain.specs.declared.answers.Work.{Work}
use Rattle.satip_plain.specs.declared.answers.Work.TheVariants.{Nothing}
use Rattle.satip_plain.specs.declared.events.Event.{Event}
use Rattle.satip_plain.specs.declared.events.Event.TheVariants.{Packet}
use Rattle.satip_plain.specs.Histories.{Item}
use Rattle.satip_plain.specs.Pumping.{work_told}
use Rattle.satip_plain.specs.declared.fault.ServiceFault.{ServiceFault}
use Rattle.satip_world.specs.Pausing.{RisesBy}
use Rattle.satip_pump.specs.declared.ends.JobEnd.{JobEnd}
use Rattle.satip_pump.specs.declared.ends.JobEnd.TheVariants.{Stopped}

-- 1 for a packet, 0 for any other event
abbrev pub one_if_packet : Event → ℕ
one_if_packet (Packet front tune packet) = 1
one_if_packet _ = 0

-- the number of entries that are packets
abbrev pub packets_in : List Item → ℕ
packets_in [] = 0
packets_in (e ∷ es) = one_if_packet e.event + packets_in es

-- 1 if there is nothing to do
abbrev pub one_if_nothing : Work → ℕ
one_if_nothing Nothing = 1
one_if_nothing _ = 0

-- the number of entries whose answer says that there is nothing to do
abbrev pub idle_in : List Item → ℕ
idle_in [] = 0
idle_in (e ∷ es) = one_if_nothing (work_told e.answer) + idle_in es

-- a pump paused once for every 64 packets, once for each answer that there is nothing to do, and at no other time
pub record PumpPauses (own own' : List Item) (before after : ℕ) : Type 0 where
  pub entries : List Item
  pub made : own' ≡ own ++ entries
  pub pauses : RisesBy (packets_in entries / 64 + idle_in entries) before after

-- 1 if the last tick has no entry
abbrev pub one_if_unmade : JobEnd → ℕ
one_if_unmade Stopped = 0
one_if_unmade _ = 1

-- a ticker paused once for each tick, executed or not, and at no other time
pub record TickPauses (own own' : List Item) (before after : ℕ) (end : JobEnd) : Type 0 where
  pub entries : List Item
  pub made : own' ≡ own ++ entries
  pub pauses : RisesBy (length entries + one_if_unmade end) before after

-- a pump during its run: `since` packets were given since the last pause for packets, and `owed` pauses for answers are still to come
pub record Paced (own own' : List Item) (before now since owed : ℕ) : Type 0 where
  pub entries : List Item
  pub made : own' ≡ own ++ entries
  pub full : ℕ
  pub idles : ℕ
  pub packets : packets_in entries ≡ full * 64 + since
  pub idle : idle_in entries ≡ idles + owed
  pub rose : RisesBy (full + idles) before now

-- the number of pauses owed for the last answer
abbrev pub owed_by : Result Work ServiceFault → ℕ
owed_by (Ok work) = one_if_nothing work
owed_by (Err fault) = 0
