-- What a step over the headers finds.
use Rattle.std.proofs.Common.{◌≡◌, ℕ, ◌+◌, ◌<◌, ◌≤◌, Bool, true, false, cond, List, [], ◌∷◌, ◌++◌, length, get_or, drop, map, Option, Some, None, codes, refl, sym, ap, ◌∙◌}
use Rattle.std.specs.Option.{option_copied, option_to_list, is_some}
use Rattle.std.specs.Str.{str_eq_ignore_ascii_case}
use Rattle.std.proofs.Common.{Bor}
use Rattle.std.proofs.lemmas.List.{drop_more, drop_all}
use Rattle.httparse.specs.Spans.{header_bytes}
use Rattle.httparse.specs.declared.spans.HeaderSpan.{HeaderSpan}
use Rattle.satip_frame.specs.Said.{is_named, values_of, length_from, body_length}

abbrev Header : Type 0
Header = List ℕ × List ℕ

-- a header that a read past the end gives
abbrev pub no_header : HeaderSpan
no_header = record { name = record { start = 0; end = 0 }; value = record { start = 0; end = 0 } }

filter_either : (b : Bool) (x : Header) (xs : List Header)
    → map (λ (h : Header). h.1) (cond b (x ∷ xs) xs) ≡ cond b (x.1 ∷ map (λ (h : Header). h.1) xs) (map (λ (h : Header). h.1) xs)
filter_either true x xs = refl
filter_either false x xs = refl

-- the values of a name, from the header at i on
values_of-drop : (name head : List ℕ) (hs : List HeaderSpan) (i : ℕ) → i < length hs
    → values_of name (map (header_bytes head) (drop i hs))
    ≡ cond (is_named name (header_bytes head (get_or hs i no_header)))
    ((header_bytes head (get_or hs i no_header)).1 ∷ values_of name (map (header_bytes head) (drop (i + 1) hs)))
    (values_of name (map (header_bytes head) (drop (i + 1) hs)))
values_of-drop name head hs i h =
    ap (λ t. values_of name (map (header_bytes head) t)) (drop_more hs i no_header h)
    ∙ filter_either (is_named name (header_bytes head (get_or hs i no_header))) _ _

-- the header at i has the name
pub values_named : (name head bytes : List ℕ) (hs : List HeaderSpan) (i : ℕ) (r : Bool) → i < length hs
    → bytes ≡ (header_bytes head (get_or hs i no_header)).0 → r ≡ str_eq_ignore_ascii_case bytes name → r ≡ true
    → values_of name (map (header_bytes head) (drop i hs))
    ≡ (header_bytes head (get_or hs i no_header)).1 ∷ values_of name (map (header_bytes head) (drop (i + 1) hs))
values_named name head bytes hs i r inside is tested named =
    let e : is_named name (header_bytes head (get_or hs i no_header)) ≡ true =
    ap (λ t. str_eq_ignore_ascii_case t name) (sym is) ∙ sym tested ∙ named in
    values_of-drop name head hs i inside
    ∙ ap (λ b. cond b ((header_bytes head (get_or hs i no_header)).1 ∷ values_of name (map (header_bytes head) (drop (i + 1) hs)))
    (values_of name (map (header_bytes head) (drop (i + 1) hs)))) e

-- the header at i has another name
pub values_passed : (name head bytes : List ℕ) (hs : List HeaderSpan) (i : ℕ) (r : Bool) → i < length hs
    → bytes ≡ (header_bytes head (get_or hs i no_header)).0 → r ≡ str_eq_ignore_ascii_case bytes name → r ≡ false
    → values_of name (map (header_bytes head) (drop i hs)) ≡ values_of name (map (header_bytes head) (drop (i + 1) hs))
values_passed name head bytes hs i r inside is tested passed =
    let e : is_named name (header_bytes head (get_or hs i no_header)) ≡ false =
    ap (λ t. str_eq_ignore_ascii_case t name) (sym is) ∙ sym tested ∙ passed in
    values_of-drop name head hs i inside
    ∙ ap (λ b. cond b ((header_bytes head (get_or hs i no_header)).1 ∷ values_of name (map (header_bytes head) (drop (i + 1) hs)))
    (values_of name (map (header_bytes head) (drop (i + 1) hs)))) e

-- two values give no length
pub length_of_two : (headers : List Header) (said : Option (Bor (List ℕ))) (w : List ℕ) (ws : List (List ℕ)) → is_some said ≡ true
    → values_of (codes "Content-Length") headers ≡ option_to_list (option_copied said) ++ (w ∷ ws) → body_length headers ≡ None
unfolding body_length
length_of_two headers None w ws some e = let no : false ≡ true = some in cc
length_of_two headers (Some v) w ws some e = ap length_from e

-- the length that one value gives, or none
pub length_of_all : (headers : List Header) (head : List ℕ) (hs : List HeaderSpan) (i : ℕ) (said : Option (Bor (List ℕ))) → length hs ≤ i
    → values_of (codes "Content-Length") headers ≡ option_to_list (option_copied said)
    ++ values_of (codes "Content-Length") (map (header_bytes head) (drop i hs))
    → body_length headers ≡ length_from (option_to_list (option_copied said))
unfolding body_length
length_of_all headers head hs i said past e =
    ap length_from (e ∙ ap (λ t. option_to_list (option_copied said) ++ values_of (codes "Content-Length") (map (header_bytes head) t)) (drop_all i hs past)
    ∙ nil said)
  where
    nil : (said : Option (Bor (List ℕ))) → option_to_list (option_copied said) ++ [] ≡ option_to_list (option_copied said)
    nil None = refl
    nil (Some v) = refl

-- the first value that is found
pub first_said : (before said : Option (Bor (List ℕ))) (r : Bor (List ℕ)) (w : List ℕ) (all ws rest : List (List ℕ))
    → is_some before ≡ false → said ≡ Some r → r.now ≡ w → all ≡ option_to_list (option_copied before) ++ rest → rest ≡ w ∷ ws
    → all ≡ option_to_list (option_copied said) ++ ws
first_said None said r w all ws rest none is now e next =
    e ∙ next ∙ ap (λ t. t ∷ ws) (sym now) ∙ ap (λ s. option_to_list (option_copied s) ++ ws) (sym is)
first_said (Some v) said r w all ws rest none is now e next = let no : true ≡ false = none in cc
