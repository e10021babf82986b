-- No other reply has the text of the refusal which says that no front end is to be had.
use Rattle.std.proofs.Common.{arith, ◌≡◌, ℕ, ◌+◌, ◌*◌, List, [], ◌++◌, length, Option, Some, None, refl, ap, sym, ◌∙◌, length-append}
use Rattle.std.specs.Prelude.{slice_index}
use Rattle.std.specs.Fmt.{digits}
use Rattle.satip_rtsp.specs.Replies.{status_line, cseq_line, text_reply, plain_reply, closing_reply, unsupported_reply, options_reply, describe_head, setup_reply, play_reply}
use Rattle.satip_query.specs.Bodies.{body_part}
use Rattle.satip_http.specs.Heads.{start_head, http_status_line, http_refusal}
use Rattle.satip_frame.specs.declared.framing.Break.{Break}
use Rattle.satip_frame.specs.declared.framing.Break.TheVariants.{Bad, TooLong}
use Rattle.satip_query.specs.Bodies.{body_text}
use Rattle.satip_query.specs.declared.bodies.RefusalBody.{RefusalBody}
use Rattle.satip_query.specs.declared.bodies.RefusalBody.TheVariants.{CheckSyntax, OutOfRange, NotOwner, NoMorePids, NoMoreSessions, NoMoreFrontends}
use Rattle.satip_tune.specs.declared.keys.Key.{Key}
use Rattle.satip_plain.specs.Types.{SessionId, Ports}

-- the digits of a reply's status
abbrev pub status_digits : List ℕ → ℕ
status_digits reply = slice_index reply 9 * 10000 + slice_index reply 10 * 100 + slice_index reply 11

pub busy_digits : (cseq : Option ℕ) → status_digits (text_reply cseq 503 NoMoreFrontends) ≡ 534851
unfolding text_reply status_line digits
busy_digits cseq = refl

-- a reply whose status has other digits is another reply
pub is_another : (reply : List ℕ) (cseq : Option ℕ) (n : ℕ) → status_digits reply ≡ n → (n ≡ 534851 → ⊥) → reply ≡ text_reply cseq 503 NoMoreFrontends → ⊥
is_another reply cseq n digits_are other same = other (sym digits_are ∙ ap status_digits same ∙ busy_digits cseq)

abbrev pub Another : List ℕ → Option ℕ → Type 0
Another reply cseq = reply ≡ text_reply cseq 503 NoMoreFrontends → ⊥

-- replies with status 200

pub options_other : (cseq : Option ℕ) (session : Option SessionId) → Another (options_reply cseq session) cseq
unfolding options_reply status_line digits
options_other cseq session = is_another (options_reply cseq session) cseq 504848 refl (λ e. omega (arith, e))

pub describe_other : (cseq : Option ℕ) (address size : ℕ) (body : List ℕ) → Another (describe_head cseq address size ++ body) cseq
unfolding describe_head status_line digits
describe_other cseq address size body = is_another (describe_head cseq address size ++ body) cseq 504848 refl (λ e. omega (arith, e))

pub setup_other : (cseq : Option ℕ) (id : SessionId) (seconds : ℕ) (ports : Ports) (stream : ℕ) → Another (setup_reply cseq id seconds ports stream) cseq
unfolding setup_reply status_line digits
setup_other cseq id seconds ports stream = is_another (setup_reply cseq id seconds ports stream) cseq 504848 refl (λ e. omega (arith, e))

pub play_other : (cseq : Option ℕ) (id : SessionId) (address stream seq : ℕ) → Another (play_reply cseq id address stream seq) cseq
unfolding play_reply status_line digits
play_other cseq id address stream seq = is_another (play_reply cseq id address stream seq) cseq 504848 refl (λ e. omega (arith, e))

pub empty_other : (cseq : Option ℕ) → Another [] cseq
empty_other cseq = is_another [] cseq 0 refl (λ e. omega (arith, e))

-- refusals of messages

pub closing_other : (cseq : Option ℕ) (cause : Break) → Another (closing_reply cause) cseq
unfolding closing_reply status_line digits
closing_other cseq Bad = is_another (closing_reply Bad) cseq 524848 refl (λ e. omega (arith, e))
closing_other cseq TooLong = is_another (closing_reply TooLong) cseq 524951 refl (λ e. omega (arith, e))

pub unsupported_other : (cseq : Option ℕ) (kept : List ℕ) → Another (unsupported_reply cseq kept) cseq
unfolding unsupported_reply status_line digits
unsupported_other cseq kept = is_another (unsupported_reply cseq kept) cseq 535349 refl (λ e. omega (arith, e))

pub syntax_other : (cseq : Option ℕ) (key : Key) → Another (text_reply cseq 400 (CheckSyntax key)) cseq
unfolding text_reply status_line digits
syntax_other cseq key = is_another (text_reply cseq 400 (CheckSyntax key)) cseq 524848 refl (λ e. omega (arith, e))

pub range_other : (cseq : Option ℕ) (key : Key) → Another (text_reply cseq 403 (OutOfRange key)) cseq
unfolding text_reply status_line digits
range_other cseq key = is_another (text_reply cseq 403 (OutOfRange key)) cseq 524851 refl (λ e. omega (arith, e))

pub owner_other : (cseq : Option ℕ) → Another (text_reply cseq 403 NotOwner) cseq
unfolding text_reply status_line digits
owner_other cseq = is_another (text_reply cseq 403 NotOwner) cseq 524851 refl (λ e. omega (arith, e))

pub ok_other : (cseq : Option ℕ) → Another (plain_reply cseq 200) cseq
unfolding plain_reply status_line digits
ok_other cseq = is_another (plain_reply cseq 200) cseq 504848 refl (λ e. omega (arith, e))

pub bad_other : (cseq : Option ℕ) → Another (plain_reply cseq 400) cseq
unfolding plain_reply status_line digits
bad_other cseq = is_another (plain_reply cseq 400) cseq 524848 refl (λ e. omega (arith, e))

pub version_other : (cseq : Option ℕ) → Another (plain_reply cseq 505) cseq
unfolding plain_reply status_line digits
version_other cseq = is_another (plain_reply cseq 505) cseq 534853 refl (λ e. omega (arith, e))

pub method_other : (cseq : Option ℕ) → Another (plain_reply cseq 501) cseq
unfolding plain_reply status_line digits
method_other cseq = is_another (plain_reply cseq 501) cseq 534849 refl (λ e. omega (arith, e))

pub session_other : (cseq : Option ℕ) → Another (plain_reply cseq 454) cseq
unfolding plain_reply status_line digits
session_other cseq = is_another (plain_reply cseq 454) cseq 525352 refl (λ e. omega (arith, e))

pub found_other : (cseq : Option ℕ) → Another (plain_reply cseq 404) cseq
unfolding plain_reply status_line digits
found_other cseq = is_another (plain_reply cseq 404) cseq 524852 refl (λ e. omega (arith, e))

pub state_other : (cseq : Option ℕ) → Another (plain_reply cseq 455) cseq
unfolding plain_reply status_line digits
state_other cseq = is_another (plain_reply cseq 455) cseq 525353 refl (λ e. omega (arith, e))

pub transport_other : (cseq : Option ℕ) → Another (plain_reply cseq 461) cseq
unfolding plain_reply status_line digits
transport_other cseq = is_another (plain_reply cseq 461) cseq 525449 refl (λ e. omega (arith, e))

-- refusals with status 503, whose texts have other lengths

text_length : (cseq : Option ℕ) (body : RefusalBody)
    → length (text_reply cseq 503 body) ≡ (length (status_line 503) + length (cseq_line cseq)) + length (body_part body)
unfolding text_reply
text_length cseq body = length-append (status_line 503 ++ cseq_line cseq) (body_part body)
    ∙ ap (λ n. n + length (body_part body)) (length-append (status_line 503) (cseq_line cseq))

frontends_part : length (body_part NoMoreFrontends) ≡ 72
unfolding body_part body_text digits
frontends_part = refl

pids_part : length (body_part NoMorePids) ≡ 67
unfolding body_part body_text digits
pids_part = refl

sessions_part : length (body_part NoMoreSessions) ≡ 71
unfolding body_part body_text digits
sessions_part = refl

longer_other : (cseq : Option ℕ) (body : RefusalBody) (n : ℕ) → length (body_part body) ≡ n → (n ≡ 72 → ⊥) → Another (text_reply cseq 503 body) cseq
longer_other cseq body n part other same =
    let a = text_length cseq body in
    let b = text_length cseq NoMoreFrontends in
    let e = ap length same in
    let f = frontends_part in
    other (omega (arith, a, b, e, f, part))

pub pids_other : (cseq : Option ℕ) → Another (text_reply cseq 503 NoMorePids) cseq
pids_other cseq = longer_other cseq NoMorePids 67 pids_part (λ e. omega (arith, e))

pub sessions_other : (cseq : Option ℕ) → Another (text_reply cseq 503 NoMoreSessions) cseq
sessions_other cseq = longer_other cseq NoMoreSessions 71 sessions_part (λ e. omega (arith, e))

-- messages that are too long, and options that are required, where they are refused plainly
pub long_other : (cseq : Option ℕ) → Another (plain_reply cseq 413) cseq
unfolding plain_reply status_line digits
long_other cseq = is_another (plain_reply cseq 413) cseq 524951 refl (λ e. omega (arith, e))

pub option_other : (cseq : Option ℕ) → Another (plain_reply cseq 551) cseq
unfolding plain_reply status_line digits
option_other cseq = is_another (plain_reply cseq 551) cseq 535349 refl (λ e. omega (arith, e))

-- the same over HTTP

abbrev pub AnotherGet : List ℕ → Type 0
AnotherGet reply = reply ≡ http_refusal 503 (Some NoMoreFrontends) → ⊥

get_busy_digits : status_digits (http_refusal 503 (Some NoMoreFrontends)) ≡ 534851
unfolding http_refusal http_status_line digits
get_busy_digits = refl

is_another_get : (reply : List ℕ) (n : ℕ) → status_digits reply ≡ n → (n ≡ 534851 → ⊥) → AnotherGet reply
is_another_get reply n digits_are other same = other (sym digits_are ∙ ap status_digits same ∙ get_busy_digits)

pub start_other : AnotherGet start_head
unfolding start_head http_status_line digits
start_other = is_another_get start_head 504848 refl (λ e. omega (arith, e))

pub get_400_other : AnotherGet (http_refusal 400 None)
unfolding http_refusal http_status_line digits
get_400_other = is_another_get (http_refusal 400 None) 524848 refl (λ e. omega (arith, e))

pub get_413_other : AnotherGet (http_refusal 413 None)
unfolding http_refusal http_status_line digits
get_413_other = is_another_get (http_refusal 413 None) 524951 refl (λ e. omega (arith, e))

pub get_505_other : AnotherGet (http_refusal 505 None)
unfolding http_refusal http_status_line digits
get_505_other = is_another_get (http_refusal 505 None) 534853 refl (λ e. omega (arith, e))

pub get_501_other : AnotherGet (http_refusal 501 None)
unfolding http_refusal http_status_line digits
get_501_other = is_another_get (http_refusal 501 None) 534849 refl (λ e. omega (arith, e))

pub get_404_other : AnotherGet (http_refusal 404 None)
unfolding http_refusal http_status_line digits
get_404_other = is_another_get (http_refusal 404 None) 524852 refl (λ e. omega (arith, e))

pub get_syntax_other : (key : Key) → AnotherGet (http_refusal 400 (Some (CheckSyntax key)))
unfolding http_refusal http_status_line digits
get_syntax_other key = is_another_get (http_refusal 400 (Some (CheckSyntax key))) 524848 refl (λ e. omega (arith, e))

pub get_range_other : (key : Key) → AnotherGet (http_refusal 403 (Some (OutOfRange key)))
unfolding http_refusal http_status_line digits
get_range_other key = is_another_get (http_refusal 403 (Some (OutOfRange key))) 524851 refl (λ e. omega (arith, e))

get_length : (body : RefusalBody) (n : ℕ) → length (http_refusal 503 (Some body)) ≡ n → (k : ℕ) → length (http_refusal 503 (Some NoMoreFrontends)) ≡ k
    → (n ≡ k → ⊥) → AnotherGet (http_refusal 503 (Some body))
get_length body n a k b other same = other (sym a ∙ ap length same ∙ b)

frontends_length : length (http_refusal 503 (Some NoMoreFrontends)) ≡ 125
unfolding http_refusal http_status_line body_part body_text digits
frontends_length = refl

pids_length : length (http_refusal 503 (Some NoMorePids)) ≡ 120
unfolding http_refusal http_status_line body_part body_text digits
pids_length = refl

sessions_length : length (http_refusal 503 (Some NoMoreSessions)) ≡ 124
unfolding http_refusal http_status_line body_part body_text digits
sessions_length = refl

pub get_pids_other : AnotherGet (http_refusal 503 (Some NoMorePids))
get_pids_other = get_length NoMorePids 120 pids_length 125 frontends_length (λ e. omega (arith, e))

pub get_sessions_other : AnotherGet (http_refusal 503 (Some NoMoreSessions))
get_sessions_other = get_length NoMoreSessions 124 sessions_length 125 frontends_length (λ e. omega (arith, e))
