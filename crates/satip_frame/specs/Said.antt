-- The content of a message's head.
use Rattle.std.specs.Prelude.{ℕ, Bool, List, [], ◌∷◌, Option, Some, None, map, filter, find, option_map}
use Rattle.std.specs.Str.{str_eq_ignore_ascii_case}
use Rattle.std.specs.Prelude.{codes}
use Rattle.satip_base.specs.Numbers.{number_of}

-- the words of the first line, and the name and the value of each header in order
pub record Said : Type 0 where
  pub method : List ℕ
  pub target : List ℕ
  pub version : List ℕ
  pub headers : List (List ℕ × List ℕ)

-- whether a header has this name; the case of ASCII letters doesn't matter
abbrev pub is_named : List ℕ → List ℕ × List ℕ → Bool
is_named name header = str_eq_ignore_ascii_case header.0 name

-- the values of the headers of a name, in order
abbrev pub values_of : List ℕ → List (List ℕ × List ℕ) → List (List ℕ)
values_of name headers = map (λ header. header.1) (filter (is_named name) headers)

-- the value of the first header of a name
abbrev pub first_value : List ℕ → List (List ℕ × List ℕ) → Option (List ℕ)
first_value name headers = option_map (λ header. header.1) (find (is_named name) headers)

-- the largest length that `Content-Length` can have
abbrev pub most : ℕ
most = 18446744073709551615

-- the length by the values of Content-Length: 0 without one, and none if there are several
abbrev pub length_from : List (List ℕ) → Option ℕ
length_from [] = Some 0
length_from (value ∷ []) = number_of most value
length_from (value ∷ another ∷ others) = None

-- the length of the body that follows a head with these headers
unfoldable pub body_length : List (List ℕ × List ℕ) → Option ℕ
body_length headers = length_from (values_of (codes "Content-Length") headers)
