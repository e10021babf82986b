-- How long the description of streams is at most, whatever numbers it prints.
use Rattle.std.proofs.Common.{ℕ, zero, suc, ◌+◌, ◌-◌, ◌*◌, ◌/◌, ◌%◌, ◌^◌, ◌<◌, ◌≤◌, ◌==◌, Bool, true, false, cond, List, [], ◌∷◌, length, Option, Some, None, length-append, length-take, arith, ap}
use Rattle.std.specs.Prelude.{decimal}
use Rattle.std.specs.Fmt.{digit_glyph, digits, digits_onto}
use Rattle.std.specs.List.{flat_map, suffix_len}
use Rattle.satip_base.specs.Lists.{Each}
use Rattle.satip_base.specs.Texts.{address_text}
use Rattle.satip_pids.specs.Pids.{Pids, Every, Only, listed}
use Rattle.satip_pids.specs.Texts.{listed_text, next_text, pids_text}
use Rattle.satip_pids.proofs.PidTexts.{listed_text-cons}
use Rattle.satip_tune.specs.Frequency.{fraction_text, frequency_text, three_digits, without_end_zeros}
use Rattle.satip_tune.specs.Pieces.{is_byte}
use Rattle.satip_tune.specs.declared.tunings.Tuning.{Tuning}
use Rattle.satip_rtcp.specs.Ses1.{ses1, signal_text, tuner_text}
use Rattle.satip_rtcp.specs.declared.views.StreamView.{StreamView}
use Rattle.satip_rtcp.proofs.Lengths.{length-fec_field, length-lock_text, length-modulation_field, length-pilots_field, length-pol_text, length-roll_off_field, length-system_text}
use Rattle.satip_sdp.specs.Sdp.{connection_line, control_line, direction_line, format_line, head_lines, media_line, name_line, origin_line, sdp, stream_lines, time_line, version_line}

-- numbers

either_short : (b : Bool) (xs ys : List ℕ) (n : ℕ) → length xs ≤ n → length ys ≤ n → length (cond b xs ys) ≤ n
either_short true xs ys n p q = p
either_short false xs ys n p q = q

digits_short : (k n : ℕ) (more : List ℕ) → length (digits_onto k 10 false n more) ≤ k + length more
digits_short zero n more = omega arith
digits_short (suc k) n more =
    let next : List ℕ = digit_glyph false (n % 10) ∷ more in
    let rest : length (digits_onto k 10 false (n / 10) next) ≤ k + length next = digits_short k (n / 10) next in
    either_short (n / 10 == 0) next (digits_onto k 10 false (n / 10) next) (suc k + length more) (omega arith) (omega (arith, rest))

pub length-decimal_any : (n : ℕ) → length (decimal n) ≤ 64
unfolding digits
length-decimal_any n = digits_short 64 n []

length-address_any : (ip : ℕ) → length (address_text ip) ≤ 300
unfolding address_text
length-address_any ip =
    simp length-append (omega (
      arith,
      length-decimal_any (ip / 16777216),
      length-decimal_any (ip / 65536 % 256),
      length-decimal_any (ip / 256 % 256),
      length-decimal_any (ip % 256),
    ))

-- the tuning of a stream

fraction_short : (khz : ℕ) (b : Bool) → length (cond b [] (46 ∷ without_end_zeros (three_digits khz))) ≤ 4
fraction_short khz true = omega arith
fraction_short khz false =
    let cut = length-take (length (three_digits khz) - suffix_len (is_byte 48) (three_digits khz)) (three_digits khz) in
    omega (arith, cut)

length-frequency_any : (khz : ℕ) → length (frequency_text khz) ≤ 68
unfolding frequency_text
length-frequency_any khz =
    let rest = fraction_short (khz % 1000) (khz % 1000 == 0) in
    omega (arith, length-decimal_any (khz / 1000), rest, length-append (decimal (khz / 1000)) (fraction_text (khz % 1000)))

length-tuner_any : (front : ℕ) (locked : Bool) (tuning : Tuning) → length (tuner_text front locked tuning) ≤ 400
unfolding tuner_text
length-tuner_any front locked tuning =
    simp length-append (omega (
      arith,
      length-decimal_any front,
      length-lock_text locked,
      length-frequency_any tuning.freq,
      length-pol_text tuning.pol,
      length-system_text tuning.msys,
      length-modulation_field tuning.mtype,
      length-pilots_field tuning.plts,
      length-roll_off_field tuning.ro,
      length-decimal_any tuning.sr,
      length-fec_field tuning.fec,
    ))

length-signal_any : (front : ℕ) (locked : Bool) (tuning : Option Tuning) → length (signal_text front locked tuning) ≤ 500
unfolding signal_text
length-signal_any front locked None = omega arith
length-signal_any front locked (Some tuning) =
    simp length-append (omega (arith, length-decimal_any tuning.src, length-tuner_any front locked tuning))

-- its PIDs

length-next_any : (pids : List ℕ) → length (flat_map next_text pids) ≤ 65 * length pids
length-next_any [] = omega arith
length-next_any (pid ∷ pids) =
    omega (arith, length-decimal_any pid, length-next_any pids, length-append (next_text pid) (flat_map next_text pids))

length-listed_any : (pids : List ℕ) → length pids ≤ 256 → length (listed_text pids) ≤ 17000
unfolding listed_text
length-listed_any [] few = omega arith
length-listed_any (pid ∷ pids) few =
    omega (
      arith,
      few,
      ap length (listed_text-cons pid pids),
      length-append (decimal pid) (flat_map next_text pids),
      length-decimal_any pid,
      length-next_any pids,
    )

length-pids_any : (pids : Pids) → listed pids ≤ 256 → length (pids_text pids) ≤ 17000
unfolding pids_text
length-pids_any Every few = omega arith
length-pids_any (Only pids) few = length-listed_any pids few

-- the lines of a stream, and the whole description

length-ses1_any : (view : StreamView) → listed view.pids ≤ 256 → length (ses1 view) ≤ 18000
unfolding ses1
length-ses1_any view few =
    simp length-append (omega (arith, length-signal_any view.front view.locked view.tuning, length-pids_any view.pids few))

length-direction_any : (playing : Bool) → length (direction_line playing) ≤ 12
unfolding direction_line
length-direction_any true = omega arith
length-direction_any false = omega arith

length-stream_any : (view : StreamView) → listed view.pids ≤ 256 → length (stream_lines view) ≤ 20000
unfolding stream_lines media_line connection_line control_line format_line
length-stream_any view few =
    simp length-append (omega (arith, length-decimal_any view.number, length-ses1_any view few, length-direction_any view.playing))

length-streams_any : (views : List StreamView) → Each (λ (v : StreamView). listed v.pids ≤ 256) views
    → length (flat_map stream_lines views) ≤ 20000 * length views
length-streams_any [] few = omega arith
length-streams_any (v ∷ vs) few =
    omega (arith, length-stream_any v few.0, length-streams_any vs few.1, length-append (stream_lines v) (flat_map stream_lines vs))

length-head_any : (address fronts : ℕ) → length (head_lines address fronts) ≤ 500
unfolding head_lines version_line origin_line name_line time_line
length-head_any address fronts = simp length-append (omega (arith, length-address_any address, length-decimal_any fronts))

-- of streams that list at most 256 PIDs each
pub length-sdp_any : (address fronts : ℕ) (views : List StreamView) → Each (λ (v : StreamView). listed v.pids ≤ 256) views → length views ≤ 4294967295
    → length (sdp address fronts views) < 2 ^ 64
unfolding sdp
length-sdp_any address fronts views few count =
    omega (
      arith,
      count,
      length-head_any address fronts,
      length-streams_any views few,
      length-append (head_lines address fronts) (flat_map stream_lines views),
    )
