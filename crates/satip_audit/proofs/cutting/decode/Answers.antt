use Rattle.std.proofs.Common.{◌≡◌, ℕ, ◌/◌, length, Some, ap, refl, arith, length-take}
use Rattle.satip_audit.proofs.CutLemmas.{decoded, front_decoded, length-digits, ok_not_err}
use Rattle.satip_audit.proofs.cutting.decode.Goals as goal

pub returns-then-count-room-clause-finds : goal.returns-then-count-room-clause-finds
returns-then-count-room-clause-finds c = λ bytes are fits is.
    let more = c.if-count-room.true in
    absurd (omega (arith, more, fits, length-digits c.args.digits.now bytes is))

pub returns-then-count-room-clause-bytes : goal.returns-then-count-room-clause-bytes
returns-then-count-room-clause-bytes c = λ bytes are fits is.
    let more = c.if-count-room.true in
    absurd (omega (arith, more, fits, length-digits c.args.digits.now bytes is))

pub returns-in-Ok-clause-finds : goal.returns-in-Ok-clause-finds
returns-in-Ok-clause-finds c = λ bytes are fits is.
    let e : length c.args.digits.now / 2 ≡ length bytes = omega (arith, length-digits c.args.digits.now bytes is) in
    ap (λ (n : ℕ). Some n) e

pub returns-in-Ok-clause-bytes : goal.returns-in-Ok-clause-bytes
returns-in-Ok-clause-bytes c = λ bytes are fits is.
    front_decoded bytes _ _
    (decoded c.args.digits.now bytes _ _ _ are is (omega (arith, fits, length-take {A = ℕ}, length-digits c.args.digits.now bytes is)) c.in-Ok.ensures.value).1

pub returns-in-Err-clause-finds : goal.returns-in-Err-clause-finds
returns-in-Err-clause-finds c = λ bytes are fits is.
    absurd (ok_not_err _ _
    (decoded c.args.digits.now bytes _ _ _ are is
    (omega (arith, fits, length-take {A = ℕ}, length-digits c.args.digits.now bytes is)) c.in-Err.ensures.value).0 refl)

pub returns-in-Err-clause-bytes : goal.returns-in-Err-clause-bytes
returns-in-Err-clause-bytes c = λ bytes are fits is.
    absurd (ok_not_err _ _
    (decoded c.args.digits.now bytes _ _ _ are is
    (omega (arith, fits, length-take {A = ℕ}, length-digits c.args.digits.now bytes is)) c.in-Err.ensures.value).0 refl)
