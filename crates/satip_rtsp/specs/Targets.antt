-- The target of a request: an optional origin, a path and an optional query (RFC 2326, 3.2).
use Rattle.std.specs.Prelude.{ℕ, ◌&&◌, ◌-◌, nat_eq, Bool, List, [], ◌∷◌, length, take, drop, codes, Option, Some, None, option_map, if◌then◌else◌}
use Rattle.std.specs.List.{after_first, before_first, ends_with}
use Rattle.std.specs.Str.{bytes_eq}
use Rattle.satip_base.specs.Numbers.{number_of}
use Rattle.satip_frame.specs.Origins.{after_front}
use Rattle.satip_tune.specs.Pieces.{is_byte}

-- a target: the stream that it names or none, and the text of its query
pub record TargetParts : Type 0 where
  pub stream : Option ℕ
  pub query : List ℕ

-- whether a text begins with another, byte for byte
abbrev pub is_begun_with : List ℕ → List ℕ → Bool
is_begun_with start text = bytes_eq (take (length start) text) start

-- a path without the slash at its end
abbrev pub path_without_slash : List ℕ → List ℕ
path_without_slash path = if ends_with nat_eq path (47 ∷ []) then take (length path - 1) path else path

-- the stream that a path names: no stream for / alone; None if this server has no such path
unfoldable pub stream_in : List ℕ → Option (Option ℕ)
stream_in path =
    if bytes_eq path (codes "/") then Some None
    else if is_begun_with (codes "/stream=") path then option_map Some (number_of 65535 (path_without_slash (drop 8 path)))
    else None

-- the target of a query and a path's stream
abbrev pub with_stream : List ℕ → Option (Option ℕ) → Option TargetParts
with_stream query None = None
with_stream query (Some stream) = Some (record { stream = stream; query = query })

-- the target of a path and a query
abbrev pub parts_of : List ℕ → Option TargetParts
parts_of text = with_stream (after_first (is_byte 63) text) (stream_in (before_first (is_byte 63) text))

-- the target after an origin, whose path may be empty
abbrev pub parts_behind : List ℕ → Option TargetParts
parts_behind text =
    if bytes_eq (before_first (is_byte 63) text) [] then Some (record { stream = None; query = after_first (is_byte 63) text }) else parts_of text

-- the target of a text, by the rest after its origin if it has one
abbrev pub target_from : List ℕ → Option (List ℕ) → Option TargetParts
target_from text None = parts_of text
target_from text (Some rest) = parts_behind rest

-- the target of a text; `*` is one only if `star` is true
unfoldable pub target_of : Bool → List ℕ → Option TargetParts
target_of star text =
    if star && bytes_eq text (codes "*") then Some (record { stream = None; query = [] })
    else target_from text (after_front (codes "rtsp://") text)
