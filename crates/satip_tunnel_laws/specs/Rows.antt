-- Entries for the worked examples.
use Rattle.std.specs.Prelude.{ℕ, List, [], ◌∷◌, length}
use Rattle.satip_base.specs.Output.{Datagram, empty}
use Rattle.satip_base.specs.History.{entry}
use Rattle.satip_plain.specs.declared.answers.Answer.TheVariants.{Beat}
use Rattle.satip_plain.specs.declared.answers.Beat.TheVariants.{Going}
use Rattle.satip_plain.specs.declared.events.Event.TheVariants.{Tick}
use Rattle.satip_interleave.specs.declared.events.TunnelEvent.TheVariants.{Inner, Enter, Drain, Leave}
use Rattle.satip_interleave.specs.declared.events.TunnelAnswer.TheVariants.{Inner as InnerAnswer, Lane, Frames, Empty, Left}
use Rattle.satip_interleave.specs.Histories.{TunnelItem}

-- a caller's connection enters and is given a lane, drains it and is given bytes or none, and leaves it
abbrev pub enter : ℕ → ℕ → TunnelItem
enter caller x = entry caller Enter (Lane x) empty

abbrev pub drain : ℕ → ℕ → List ℕ → TunnelItem
drain caller x bytes = entry caller (Drain x) (Frames (length bytes)) (record empty { reply = bytes })

abbrev pub drain_none : ℕ → ℕ → TunnelItem
drain_none caller x = entry caller (Drain x) Empty empty

abbrev pub leave : ℕ → ℕ → TunnelItem
leave caller x = entry caller (Leave x) Left empty

-- the server sends these datagrams at a tick of caller 9
abbrev pub send : List Datagram → TunnelItem
send datagrams = entry 9 (Inner (Tick 1040)) (InnerAnswer (Beat Going)) (record empty { datagrams = datagrams })

-- one byte to a port of a lane
abbrev pub byte_to : ℕ → ℕ → ℕ → Datagram
byte_to x port byte = record { to = record { ip = x; port = port }; bytes = byte ∷ [] }

-- the frame of one byte on a channel
abbrev pub framed : ℕ → ℕ → List ℕ
framed channel byte = 36 ∷ channel ∷ 0 ∷ 1 ∷ byte ∷ []

-- bytes to lane 1 before it is given, while it is held, and after it is given up; and bytes to lane 2 and to port 300
abbrev pub visit : List TunnelItem
visit =
    send (byte_to 1 1 10 ∷ [])
    ∷ enter 4 1
    ∷ send (byte_to 1 1 11 ∷ byte_to 2 1 12 ∷ byte_to 1 2 13 ∷ byte_to 1 300 14 ∷ [])
    ∷ drain 4 1 (36 ∷ 0 ∷ 0 ∷ 1 ∷ 11 ∷ 36 ∷ 1 ∷ 0 ∷ 1 ∷ 13 ∷ [])
    ∷ drain_none 4 1
    ∷ send (byte_to 1 1 15 ∷ [])
    ∷ leave 4 1
    ∷ send (byte_to 1 1 16 ∷ [])
    ∷ []
