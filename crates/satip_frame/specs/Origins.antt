-- The scheme and the host that may begin a target (RFC 2326, 3.2; RFC 9112, 3.2.2).
use Rattle.std.specs.Prelude.{ℕ, ◌==◌, ◌||◌, Bool, List, length, take, drop, Option, Some, None, if◌then◌else◌}
use Rattle.std.specs.List.{position_or_len}
use Rattle.std.specs.Str.{str_eq_ignore_ascii_case}

-- whether a text begins with another; the case of ASCII letters doesn't matter
abbrev pub is_begun_like : List ℕ → List ℕ → Bool
is_begun_like start text = str_eq_ignore_ascii_case (take (length start) text) start

-- whether a byte is `/` or `?`
abbrev pub is_slash_or_mark : ℕ → Bool
is_slash_or_mark byte = byte == 47 || byte == 63

-- the length of the host that begins a text: it ends before the next / or ?
abbrev pub host_size : List ℕ → ℕ
host_size text = position_or_len is_slash_or_mark text

-- the text after a host, which isn't empty
abbrev pub after_host : List ℕ → Option (List ℕ)
after_host text = if host_size text == 0 then None else Some (drop (host_size text) text)

-- the text after this scheme and its host, if it begins with them
unfoldable pub after_front : List ℕ → List ℕ → Option (List ℕ)
after_front scheme text = if is_begun_like scheme text then after_host (drop (length scheme) text) else None
