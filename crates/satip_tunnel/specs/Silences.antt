-- The contract's view of an outlet that sends nothing.
use Rattle.std.specs.Prelude.{Bool, []}
use Rattle.satip_world.specs.Outboxes.{Outbox}

-- nothing was sent, no send failed, and the lock may be held
abbrev pub silence : Bool → Outbox
silence held = record { sent = []; faults = 0; held = held }
