-- How long heads are.
use Rattle.std.proofs.Common.{ℕ, ◌<◌, ◌≤◌, ◌^◌, ◌==◌, Bool, true, false, cond, List, length, Option, Some, None, arith, length-append}
use Rattle.satip_base.proofs.NumberLemmas.{length-decimal_u16}
use Rattle.satip_query.specs.declared.bodies.RefusalBody.{RefusalBody}
use Rattle.satip_query.proofs.BodyLengths.{length-body_part-le, length-phrase_of-le}
use Rattle.satip_http.specs.Heads.{body_or_end, http_phrase, http_refusal, http_status_line, start_head}

either : {n : ℕ} (b : Bool) (x y : List ℕ) → length x ≤ n → length y ≤ n → length (cond b x y) ≤ n
either true x y a b = a
either false x y a b = b

length-http_phrase-le : (status : ℕ) → length (http_phrase status) ≤ 30
length-http_phrase-le status = either (status == 505) _ _ (omega arith) (length-phrase_of-le status)

length-http_status_line-le : (status : ℕ) → status < 2 ^ 16 → length (http_status_line status) ≤ 47
unfolding http_status_line
length-http_status_line-le status small = simp length-append (omega (arith, length-decimal_u16 status small, length-http_phrase-le status))

length-body_or_end-le : (body : Option RefusalBody) → length (body_or_end body) ≤ 128
length-body_or_end-le None = omega arith
length-body_or_end-le (Some body) = length-body_part-le body

pub length-start_head-le : length start_head ≤ 256
unfolding start_head
length-start_head-le = simp length-append (omega (arith, length-http_status_line-le 200 (omega arith)))

pub length-http_refusal-le : (status : ℕ) (body : Option RefusalBody) → status < 2 ^ 16 → length (http_refusal status body) ≤ 256
unfolding http_refusal
length-http_refusal-le status body small = simp length-append (omega (arith, length-http_status_line-le status small, length-body_or_end-le body))

pub ruleset head_bounds = (length-start_head-le, length-http_refusal-le)
