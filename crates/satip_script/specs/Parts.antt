-- Values of single words: numbers and draws.
use Rattle.std.specs.Prelude.{ℕ, ◌==◌, List, length, take, drop, Option, None, Some, option_map, if◌then◌else◌}
use Rattle.std.specs.Int.{from_be_bytes, w16, w32}
use Rattle.satip_ts.specs.Digits.{sized_bytes}
use Rattle.satip_base.specs.declared.identity.Draw.{Draw}

-- the greatest tune number and moment
abbrev pub greatest : ℕ
greatest = 18446744073709551615

-- the draw, if all three numbers are right
abbrev pub draw_from : Option ℕ → Option ℕ → Option ℕ → Option Draw
draw_from (Some word) (Some ssrc) (Some first) = Some (record { word = word; ssrc = ssrc; first = first })
draw_from word ssrc first = None

-- the draw of 20 digits: 8 of its word, 8 of its SSRC, 4 of its first sequence number
unfoldable pub draw_of : List ℕ → Option Draw
draw_of digits =
    if length digits == 20 then
    draw_from (option_map (from_be_bytes w32) (sized_bytes 4 (take 8 digits)))
    (option_map (from_be_bytes w32) (sized_bytes 4 (take 8 (drop 8 digits))))
    (option_map (from_be_bytes w16) (sized_bytes 2 (drop 16 digits)))
    else None
