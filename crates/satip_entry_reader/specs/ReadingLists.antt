-- Reading lists from the front of some bytes.
use Rattle.std.specs.Prelude.{ℕ, zero, suc, List, [], ◌∷◌, ◌++◌, length, take, drop, nat_le, if◌then◌else◌, Option, Some, None}
use Rattle.satip_entry_reader.specs.Reading.{then_read, u16_read}

-- count values, one after the other
unfoldable pub read_each : {T : Type 0} → (List ℕ → Option (T × List ℕ)) → ℕ → List ℕ → Option (List T × List ℕ)
read_each read zero bytes = Some ([], bytes)
read_each read (suc count) bytes =
    then_read (read bytes) (λ x rest. then_read (read_each read count rest) (λ xs more. Some (x ∷ xs, more)))

-- count bytes
unfoldable pub read_bytes : ℕ → List ℕ → Option (List ℕ × List ℕ)
read_bytes count bytes = if nat_le count (length bytes) then Some (take count bytes, drop count bytes) else None

unfoldable pub pid_read : List ℕ → Option (ℕ × List ℕ)
pid_read bytes = then_read (u16_read bytes) (λ pid rest. if nat_le pid 8191 then Some (pid, rest) else None)

-- a count of at most 512, and that many PIDs
unfoldable pub pid_list_read : List ℕ → Option (List ℕ × List ℕ)
pid_list_read bytes = then_read (u16_read bytes) (λ count rest. if nat_le count 512 then read_each pid_read count rest else None)

-- a count of at most 128, and that many bytes
unfoldable pub short_read : List ℕ → Option (List ℕ × List ℕ)
short_read bytes = then_read (u16_read bytes) (λ count rest. if nat_le count 128 then read_bytes count rest else None)

-- values read after those that were read before
abbrev pub read_more : {T : Type 0} → (List ℕ → Option (T × List ℕ)) → ℕ → List T → List ℕ → Option (List T × List ℕ)
read_more read count done bytes = then_read (read_each read count bytes) (λ xs rest. Some (done ++ xs, rest))
