-- The session in a reply is no longer than the reply's head.
use Rattle.std.proofs.Common.{◌≡◌, ℕ, suc, ◌==◌, ◌≤◌, Bool, true, false, cond, if◌then◌else◌, List, [], ◌∷◌, ◌++◌, length, reverse, map, codes, Option, None, Some, refl, sym, ap, ◌∙◌, arith, length-append, length-take}
use Rattle.std.specs.List.{before_first, find, flat_map, position_or_len}
use Rattle.std.specs.Option.{option_and_then, option_copied, option_map}
use Rattle.std.proofs.lemmas.List.{length-reverse}
use Rattle.httparse.specs.Grammar.{trim_ows, Field, field_value, print_end, print_field}
use Rattle.httparse.specs.Spans.{name_and_value}
use Rattle.satip_frame.specs.Said.{first_value, is_named}
use Rattle.satip_tune.specs.Pieces.{is_byte}
use Rattle.satip_client.specs.Fields.{semicolon, session_in, session_named, text_without_spaces, unless_empty, without_first_spaces}
use Rattle.satip_client.specs.Heads.{Head, IsHead, headers_of}
use Rattle.satip_client.specs.Replies.{IsReply}
use Rattle.satip_client.specs.declared.reply.ReplyView.{ReplyView}
use Rattle.satip_client.proofs.Endings.{head-length}
use Rattle.satip_client.proofs.Sections.{print_field-length}
use Rattle.satip_client.proofs.Values.{trims}

value-shorter : (raw : List ℕ) → length (trim_ows raw) ≤ length raw
value-shorter raw =
    let t = trims raw in
    omega (arith, ap length t.is, length-append t.front (trim_ows raw ++ t.back), length-append (trim_ows raw) t.back)

skips-one : (blank : Bool) (b : ℕ) (text rest : List ℕ) → length rest ≤ length text → length (if blank then rest else (b ∷ text)) ≤ suc (length text)
skips-one true b text rest less = omega (arith, less)
skips-one false b text rest less = omega arith

skips-shorter : (text : List ℕ) → length (without_first_spaces text) ≤ length text
skips-shorter [] = omega arith
skips-shorter (b ∷ text) = skips-one (b == 32) b text (without_first_spaces text) (skips-shorter text)

spaces-shorter : (text : List ℕ) → length (text_without_spaces text) ≤ length text
unfolding text_without_spaces
spaces-shorter text =
    let front = without_first_spaces text in
    omega (arith, skips-shorter text, skips-shorter (reverse front), length-reverse front, length-reverse (without_first_spaces (reverse front)))

unless_empty-same : (text session : List ℕ) → unless_empty text ≡ Some session → length session ≤ length text
unless_empty-same [] session e = absurd (cc)
unless_empty-same (b ∷ text) session e =
    let same : b ∷ text ≡ session = cc in
    omega (arith, ap length same)

session-shorter : (value session : List ℕ) → session_named value ≡ Some session → length session ≤ length value
session-shorter value session e =
    let name = before_first (is_byte semicolon) value in
    omega (arith, unless_empty-same (text_without_spaces name) session e, spaces-shorter name, length-take (position_or_len (is_byte semicolon) value) value)

-- the value of the first field or of a later one
value-by : (named : Bool) (f : Field) (fields : List Field) (value : List ℕ) (later : Option (List ℕ × List ℕ))
    → (option_map (λ (h : List ℕ × List ℕ). h.1) later ≡ Some value → length value ≤ length (flat_map print_field fields))
    → option_map (λ (h : List ℕ × List ℕ). h.1) (cond named (Some (name_and_value f)) later) ≡ Some value
    → length value ≤ length (print_field f ++ flat_map print_field fields)
value-by true f fields value later rest e =
    let same : field_value f ≡ value = cc in
    omega (arith, ap length same, value-shorter f.raw, print_field-length f, length-append (print_field f) (flat_map print_field fields))
value-by false f fields value later rest e = omega (arith, rest e, length-append (print_field f) (flat_map print_field fields))

value-within : (name : List ℕ) (fields : List Field) (value : List ℕ) → first_value name (map name_and_value fields) ≡ Some value
    → length value ≤ length (flat_map print_field fields)
value-within name [] value e = absurd (cc)
value-within name (f ∷ fields) value e =
    value-by (is_named name (name_and_value f)) f fields value (find (is_named name) (map name_and_value fields)) (value-within name fields value) e

session-by : (found : Option (List ℕ)) (limit : ℕ) (session : List ℕ) → ((value : List ℕ) → found ≡ Some value → length value ≤ limit)
    → option_and_then session_named found ≡ Some session → length session ≤ limit
session-by None limit session within e = absurd (cc)
session-by (Some value) limit session within e = omega (arith, within value refl, session-shorter value session e)

session_in-short : (h : Head) (size : ℕ) (session : List ℕ) → IsHead h size → session_in (headers_of h) ≡ Some session → length session ≤ 8192
session_in-short h size session is e =
    session-by (first_value (codes "Session") (headers_of h)) 8192 session
    (λ value found. omega (
      arith,
      value-within (codes "Session") h.fields value found,
      head-length h,
      is.short,
      length-append (flat_map print_field h.fields) (print_end h.last),
    )) e

-- the session of a reply
pub session_short : (text : List ℕ) (view : ReplyView) (session : List ℕ) → IsReply text view → option_copied view.session ≡ Some session
    → length session ≤ 8192
session_short text view session reply is =
    session_in-short reply.0 reply.1 session reply.2.has_head.is_head (sym reply.3.session ∙ is)
