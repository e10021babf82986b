-- The packets that left for a session, in the bytes of the datagrams of a history's entries.
use Rattle.std.specs.Prelude.{ℕ, Bool, List, [], ◌∷◌, ◌++◌, flat_map, if◌then◌else◌}
use Rattle.satip_base.specs.Output.{Datagram}
use Rattle.satip_plain.specs.Types.{SessionId, Config}
use Rattle.satip_plain.specs.declared.setting.Setting.{Setting}
use Rattle.satip_plain.specs.State.{State}
use Rattle.satip_plain.specs.Sending.{Sent}
use Rattle.satip_plain.specs.Steps.{step}
use Rattle.satip_plain.specs.Histories.{Item, opening}
use Rattle.satip_laws.specs.Numbers.{is_rtp_of}
use Rattle.satip_laws.specs.Carried.{packets_inside}

-- the bytes of the datagrams for which p holds; each datagram is paired with the one that the plain server sends at its place
abbrev pub bytes_marked : (Sent → Bool) → List Sent → List Datagram → List (List ℕ)
bytes_marked p (sent ∷ more) (datagram ∷ datagrams) = (if p sent then datagram.bytes ∷ [] else []) ++ bytes_marked p more datagrams
bytes_marked p _ _ = []

-- the bytes of the datagrams for which p holds, over these entries
abbrev pub bytes_from : (Sent → Bool) → Config → State → List Item → List (List ℕ)
bytes_from p c st [] = []
bytes_from p c st (e ∷ es) = let done = step c st e.event in bytes_marked p done.sent e.out.datagrams ++ bytes_from p c done.state es

-- the bytes of a session's RTP datagrams, in order
abbrev pub bytes_for : Setting → List Item → SessionId → List (List ℕ)
bytes_for c h s = bytes_from (is_rtp_of s) c.config (opening c) h

-- the payload of a session: the packets in its RTP datagrams' bytes, in order
abbrev pub payload_in_bytes : Setting → List Item → SessionId → List (List ℕ)
payload_in_bytes c h s = flat_map packets_inside (bytes_for c h s)
