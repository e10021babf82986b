-- Datagrams as they were received at an inlet, and the turns in which they were.
use Rattle.std.specs.Prelude.{◌≡◌, ℕ, ◌+◌, ◌<◌, ◌≤◌, ◌⊎◌, List, [], ◌∷◌, drop, slice_range}
use Rattle.std.specs.Int.{from_be_bytes, w16, w32}
use Rattle.satip_world.specs.Inboxes.{Inbox}
use Rattle.satip_rtp_receiver.specs.Caught.{Datagram}
use Rattle.satip_rtp_receiver.specs.Rtp.{IsRtp}

-- a datagram of RTP with transport packets, and its content
pub record IsArrival (bytes : List ℕ) (d : Datagram) : Type 0 where
  pub is_rtp : IsRtp bytes
  pub number : d.number ≡ from_be_bytes w16 (slice_range bytes 2 4)
  pub ssrc : d.ssrc ≡ from_be_bytes w32 (slice_range bytes 8 12)
  pub packets : d.packets ≡ drop 12 bytes
  pub small : d.number < 65536

-- the contents of the datagrams that are RTP with transport packets, in order; the others are left out
abbrev pub AreRead : (datagrams : List (List ℕ)) → (arrivals : List Datagram) → Type 0
AreRead [] arrivals = arrivals ≡ []
AreRead (bytes ∷ datagrams) arrivals =
    ((IsRtp bytes → ⊥) × AreRead datagrams arrivals)
    ⊎ ((d : Datagram) × IsArrival bytes d × (rest : List Datagram) × (arrivals ≡ d ∷ rest) × AreRead datagrams rest)

-- the count of datagrams or that of idle receives is at its largest value
abbrev pub IsLast : Inbox → Type 0
IsLast n = (18446744073709551615 ≤ n.count) ⊎ (18446744073709551615 ≤ n.idles)

-- at least `turns` receives gave a datagram or nothing, unless a count is at its largest value
pub record TookTurns (turns : ℕ) (o n : Inbox) : Type 0 where
  pub counted : (o.count + o.idles + turns ≤ n.count + n.idles) ⊎ IsLast n
  pub stays : IsLast o → IsLast n
