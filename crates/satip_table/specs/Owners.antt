-- The owner of a stream that lost a session.
use Rattle.std.specs.Prelude.{ℕ, not, if◌then◌else◌, List, Option, None, Some, filter, map}
use Rattle.satip_base.specs.declared.identity.SessionId.{SessionId}
use Rattle.satip_table.specs.declared.stream.Stream.{Stream}
use Rattle.satip_table.specs.Streams.{has_number}

-- the stream, with this owner if it has this number
unfoldable pub owned_where : ℕ → SessionId → Stream → Stream
owned_where number owner stream = if has_number number stream then record stream { owner = owner } else stream

-- the streams after that of this number got the owner, or ended if there is none
abbrev pub handed : ℕ → Option SessionId → List Stream → List Stream
handed number None streams = filter (λ stream. not (has_number number stream)) streams
handed number (Some owner) streams = map (owned_where number owner) streams
