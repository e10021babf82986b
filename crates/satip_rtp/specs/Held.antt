-- The packets in the bytes of a datagram: they follow its header.
use Rattle.std.specs.Prelude.{ℕ, ◌+◌, ◌*◌, List, [], ◌∷◌, ◌++◌, zero, suc, take, drop}

-- the first n packets in the bytes of a datagram
unfoldable pub packets_in : List ℕ → ℕ → List (List ℕ)
packets_in bytes zero = []
packets_in bytes (suc n) = packets_in bytes n ++ take 188 (drop (12 + 188 * n) bytes) ∷ []
