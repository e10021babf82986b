-- Texts whose messages are worked out by hand.
use Rattle.std.proofs.Common.{◌≡◌, ℕ, zero, suc, ◌<◌, ◌≤◌, Bool, true, false, not, ◌&&◌, List, [], ◌∷◌, ◌++◌, length, take, codes, refl, sym, ◌∙◌, append-nil, subst, inl, inr, ⊎_elim, arith, lit<, lit≤, Some, None, IsTrue}
use Rattle.std.specs.List.{list_all}
use Rattle.std.specs.Char.{is_ascii_graphic}
use Rattle.std.proofs.lemmas.Bool.{cases_lt, and_parts}
use Rattle.std.proofs.lemmas.List.Elements.{All-cons, All-nil}
use Rattle.std.proofs.lemmas.List.Sums.{AllPass-from_list_all}
use Rattle.httparse.specs.Grammar.{is_token_byte, is_value_byte, crlf, Field, IsField, trim_ows, print_end, print_section}
use Rattle.satip_base.specs.Numbers.{number_of}
use Rattle.satip_frame.specs.declared.framing.Break.TheVariants.{Bad, TooLong}
use Rattle.satip_frame.specs.Said.{Said, body_length}
use Rattle.satip_frame.specs.Head.{print_first_line, ends_in_empty_line, HasNoEmptyLine, IsHeadEnd, ReadsHead, IsGoodHead}
use Rattle.satip_frame.specs.Stream.{Unfinished, Broken, Begins, Ends}
use Rattle.satip_frame.proofs.StreamLemmas.{reads_unique}
use Rattle.satip_rtsp.specs.HeardExamples.{whole, begun, bad, too_long}

-- whether an empty line ends in none of the first n bytes
abbrev pub lacks_line : ℕ → List ℕ → Bool
lacks_line zero text = not (ends_in_empty_line (take zero text))
lacks_line (suc n) text = lacks_line n text && not (ends_in_empty_line (take (suc n) text))

not_both : (b : Bool) → not b ≡ true → b ≡ true → ⊥
not_both true lacks ends = cc lacks
not_both false lacks ends = cc ends

pub no_line : (n : ℕ) (text : List ℕ) → lacks_line n text ≡ true → HasNoEmptyLine n text
no_line zero text lacks k below ends =
    let same : k ≡ zero = omega (arith, below) in
    not_both _ lacks (subst (λ i. IsTrue (ends_in_empty_line (take i text))) same ends)
no_line (suc n) text lacks k below ends =
    let parts = and_parts _ _ lacks in
    ⊎_elim (λ less. no_line n text parts.0 k (omega (arith, less)) ends)
    (λ more.
    let same : k ≡ suc n = omega (arith, below, more) in
    not_both _ parts.1 (subst (λ i. IsTrue (ends_in_empty_line (take i text))) same ends))
    (cases_lt k (suc n))

-- the head at the front of a text ends behind n bytes
pub head_end : (n : ℕ) (text : List ℕ) → suc n ≤ length text → suc n ≤ 8192 → IsTrue (ends_in_empty_line (take (suc n) text))
    → lacks_line n text ≡ true → IsHeadEnd text (suc n)
head_end n text inside within ends lacks = record {
  in_range = inside;
  within = within;
  ends = ends;
  first = λ k below. no_line n text lacks k (omega (arith, below));
}

-- OPTIONS with one header
abbrev pub options_said : List ℕ → List ℕ → Said
options_said name value =
    record { method = codes "OPTIONS"; target = codes "*"; version = codes "RTSP/1.0"; headers = (name, value) ∷ [] }

-- its header line
abbrev pub line_of : List ℕ → List ℕ → Field
line_of name raw = record { name = name; raw = raw; end = crlf }

-- OPTIONS with it, whole
abbrev pub text_of : List ℕ → List ℕ → List ℕ
text_of name raw = print_first_line (options_said name (trim_ows raw)) ++ (print_end crlf ++ print_section (line_of name raw ∷ []) crlf)

-- OPTIONS with it reads as that message
pub reads_options : (name raw : List ℕ) → 0 < length name → list_all is_token_byte name ≡ true → list_all is_value_byte raw ≡ true
    → ReadsHead (text_of name raw) (options_said name (trim_ows raw))
unfolding is_token_byte
reads_options name raw some token value = record {
  method = (lit< tt, AllPass-from_list_all is_token_byte (codes "OPTIONS") refl);
  target = (lit< tt, AllPass-from_list_all is_ascii_graphic (codes "*") refl);
  version = (lit< tt, AllPass-from_list_all is_ascii_graphic (codes "RTSP/1.0") refl);
  version_short = lit≤ tt;
  line_end = crlf;
  block = print_section (line_of name raw ∷ []) crlf;
  text = refl;
  fields = line_of name raw ∷ [];
  last = crlf;
  section = (
    All-cons IsField (line_of name raw) [] (record {
      name = (some, AllPass-from_list_all is_token_byte name token);
      raw = AllPass-from_list_all is_value_byte raw value;
    }) (All-nil IsField),
    sym (append-nil (print_section (line_of name raw ∷ []) crlf)),
  );
  few = lit≤ tt;
  headers = refl;
}

-- no text is unfinished
pub nothing_ends : Ends [] Unfinished
nothing_ends = inl (lit< tt, no_line 0 [] refl)

-- OPTIONS with the number 1
abbrev pub with_number : Said
with_number = options_said (codes "CSeq") (codes "1")

numbered : ReadsHead (text_of (codes "CSeq") (codes " 1")) with_number
unfolding is_token_byte trim_ows
numbered = reads_options (codes "CSeq") (codes " 1") (lit< tt) refl refl

pub whole_begins : (rest : List ℕ) → Begins (whole ++ rest) with_number rest
unfolding body_length
whole_begins rest = record {
  head = 31;
  body = 0;
  has_head = record {
    end = head_end 30 (whole ++ rest) (omega arith) (lit≤ tt) refl refl;
    good = record { reads = numbered; body = refl };
  };
  fits = lit≤ tt;
  whole = omega arith;
  rest_is = refl;
}

-- a length that is no number
unread : ReadsHead (text_of (codes "Content-Length") (codes " x")) (options_said (codes "Content-Length") (codes "x"))
unfolding is_token_byte trim_ows
unread = reads_options (codes "Content-Length") (codes " x") (lit< tt) refl refl

no_length : body_length (options_said (codes "Content-Length") (codes "x")).headers ≡ None
unfolding body_length number_of
no_length = refl

never_good : (m : Said) (n : ℕ) → IsGoodHead (text_of (codes "Content-Length") (codes " x")) m n → ⊥
never_good m n good =
    let same : m ≡ options_said (codes "Content-Length") (codes "x") = reads_unique good.reads unread in
    let some : body_length (options_said (codes "Content-Length") (codes "x")).headers ≡ Some n =
    subst (λ (k : Said). body_length k.headers ≡ Some n) same good.body in
    let none : None ≡ Some n = sym no_length ∙ some in
    cc none

pub bad_ends : (rest : List ℕ) → Ends (bad ++ rest) (Broken Bad)
bad_ends rest = inr (
  41,
  head_end 40 (bad ++ rest) (omega arith) (lit≤ tt) refl refl,
  never_good,
)

-- a length that is too great
announced : ReadsHead (text_of (codes "Content-Length") (codes " 4097")) (options_said (codes "Content-Length") (codes "4097"))
unfolding is_token_byte trim_ows
announced = reads_options (codes "Content-Length") (codes " 4097") (lit< tt) refl refl

pub too_long_ends : (rest : List ℕ) → Ends (too_long ++ rest) (Broken TooLong)
unfolding body_length number_of
too_long_ends rest = (
  44,
  options_said (codes "Content-Length") (codes "4097"),
  4097,
  record {
    end = head_end 43 (too_long ++ rest) (omega arith) (lit≤ tt) refl refl;
    good = record { reads = announced; body = refl };
  },
  lit< tt,
)

-- the beginning of a message
pub begun_ends : Ends begun Unfinished
begun_ends = inl (lit< tt, no_line 30 begun refl)
