-- Ports and numbers of the words of a recording.
use Rattle.std.proofs.Common.{◌≡◌, ◌≢◌, ℕ, List, [], ◌∷◌, length, None, refl, arith}
use Rattle.std.specs.List.{slice_split}
use Rattle.std.proofs.lemmas.List.Splits.{length-slice_split}
use Rattle.satip_rtsp.proofs.CseqLemmas.{number_of-le}
use Rattle.satip_tune.specs.Pieces.{is_byte}
use Rattle.satip_recorder.specs.Words.{port_in}

past_one : (port : List ℕ) (parts : List (List ℕ)) → length parts ≢ 0 → port_in (port ∷ parts) ≡ None
past_one port [] some = absurd (some refl)
past_one port (another ∷ parts) some = refl

-- two ports are none
pub two_ports : (port more : List ℕ) → port_in (port ∷ slice_split (is_byte 58) more) ≡ None
two_ports port more =
    let some : length (slice_split (is_byte 58) more) ≢ 0 = omega (arith, length-slice_split (is_byte 58) more) in
    past_one port (slice_split (is_byte 58) more) some

-- how large a number is
pub ruleset numbers_fit = (number_of-le)
