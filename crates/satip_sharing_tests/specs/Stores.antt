-- Pumps whose stores tell little, for worked rows.
use Rattle.std.specs.Prelude.{ℕ, List, [], Option, Some}
use Rattle.satip_plain.specs.Examples.{packet_of}
use Rattle.satip_world.specs.Outboxes.{fresh_outbox}
use Rattle.satip_desk.specs.Views.{PumpView}

abbrev pub pump_with : (ℕ → Option (List ℕ)) → PumpView
pump_with recording = record { recording = recording; faults = 0; lent = 0; peak = 0; outbox = fresh_outbox }

-- each multiplex has a recording of no packet
abbrev pub empty_recordings : ℕ → Option (List ℕ)
empty_recordings mux = Some []

-- each multiplex has a recording of one packet, with this PID
abbrev pub recordings_of : ℕ → ℕ → Option (List ℕ)
recordings_of pid mux = Some (packet_of pid)
