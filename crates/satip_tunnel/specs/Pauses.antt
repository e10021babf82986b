-- The pauses of a connection of a tunnel.
use Rattle.std.specs.Prelude.{◌≡◌, ℕ, ◌+◌, ◌≤◌, List, [], ◌∷◌, ◌++◌, length}
use Rattle.satip_interleave.specs.declared.events.TunnelEvent.{TunnelEvent}
use Rattle.satip_interleave.specs.declared.events.TunnelEvent.TheVariants.{Drain}
use Rattle.satip_interleave.specs.declared.events.TunnelAnswer.{TunnelAnswer}
use Rattle.satip_interleave.specs.declared.events.TunnelAnswer.TheVariants.{Empty, Gone}
use Rattle.satip_interleave.specs.Histories.{TunnelItem, inners}
use Rattle.satip_world.specs.Lines.{Line}
use Rattle.satip_world.specs.Pausing.{RisesBy}
use Rattle.satip_worker.specs.Pauses.{PausesServed}
use Rattle.satip_tunnel.specs.declared.ends.TunnelEnd.{TunnelEnd}
use Rattle.satip_tunnel.specs.declared.ends.TunnelEnd.TheVariants.{Full, Broken, Done, ReadFault, WriteFault, Spent}
use Rattle.satip_tunnel.specs.Walk.{Stance, Free, Draining, Over}

-- 1 for a drain that found no frame
abbrev pub one_if_dry : TunnelEvent → TunnelAnswer → ℕ
one_if_dry (Drain lane) Empty = 1
one_if_dry (Drain lane) Gone = 1
one_if_dry event answer = 0

-- the number of drains that found no frame
abbrev pub dry_in : List TunnelItem → ℕ
dry_in [] = 0
dry_in (t ∷ ts) = one_if_dry t.event t.answer + dry_in ts

-- the largest number of drains without a frame among those that lead from a stance to this one: only the last one may be such
abbrev pub dry_at : Stance → ℕ
dry_at Free = 1
dry_at Draining = 0
dry_at Over = 0

-- 1 if the last receive may have found nothing without a pause after it: its drain ended the connection, or the history was full
abbrev pub spared_at : TunnelEnd → ℕ
spared_at Full = 0
spared_at Broken = 1
spared_at Done = 0
spared_at ReadFault = 0
spared_at WriteFault = 1
spared_at Spent = 1

-- of `idles` receives that found nothing, `paused` were followed by a pause: all, but at some ends the last one
pub record Paused (end : TunnelEnd) (idles paused before after : ℕ) : Type 0 where
  pub least : idles ≤ paused + spared_at end
  pub most : paused ≤ idles
  pub pauses : RisesBy paused before after

-- a connection paused once after each receive that found nothing, but at some ends not after the last one. The drains that found no frame: at most one after
-- each request, one after each of some pieces that completed no message, and one before each pause. Each piece has at least one of the bytes received
pub record PausesIdle (tells : Type 0) (own own' : List TunnelItem) (l m : Line) (before after : ℕ) (end : TunnelEnd) : Type 0 where
  pub entries : List TunnelItem
  pub made : own' ≡ own ++ entries
  pub received : List ℕ
  pub content : tells → m.received ≡ l.received ++ received
  pub pieces : ℕ
  pub few : pieces ≤ length received
  pub served : PausesServed (spared_at end) l m before after
  pub dry : dry_in entries ≤ length (inners entries) + pieces + served.paused
