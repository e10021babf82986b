-- The split of sent bytes into replies and frames (RFC 2326, 4 and 10.12).
use Rattle.std.specs.Prelude.{◌≡◌, ◌⊎◌, ℕ, ◌<◌, ◌==◌, ◌&&◌, not, Bool, true, List, [], ◌∷◌, ◌++◌, codes, drop, length, if◌then◌else◌}
use Rattle.std.specs.List.{list_all, flat_map}
use Rattle.std.specs.Str.Parse.{digits_value}
use Rattle.satip_base.specs.Lists.{Each}
use Rattle.satip_rtsp_interleaved.specs.Frames.{frame}
use Rattle.satip_rtsp.specs.Targets.{is_begun_with}

-- neither CR nor LF
abbrev pub is_plain : ℕ → Bool
is_plain b = not (b == 13) && not (b == 10)

-- a line of a head, without its end
abbrev pub IsLine : List ℕ → Type 0
IsLine line = (0 < length line) × (list_all is_plain line ≡ true)

-- lines, each with its end
abbrev pub lined : List (List ℕ) → List ℕ
lined [] = []
lined (line ∷ lines) = line ++ 13 ∷ 10 ∷ lined lines

-- the number of bytes after a head, by its `Content-Length` line; 0 without one
abbrev pub size_name : List ℕ
size_name = codes "Content-Length: "

abbrev pub told_size : List (List ℕ) → ℕ
told_size [] = 0
told_size (line ∷ lines) = if is_begun_with size_name line then digits_value 10 (drop 16 line) else told_size lines

-- a reply: a head, an empty line, and the number of bytes that the head says
pub record IsReply (text : List ℕ) : Type 0 where
  pub status : List ℕ
  pub lines : List (List ℕ)
  pub body : List ℕ
  pub text_is : text ≡ lined ((codes "RTSP/1.0 " ++ status) ∷ lines) ++ 13 ∷ 10 ∷ body
  pub plain : list_all is_plain status ≡ true
  pub each : Each IsLine lines
  pub size : length body ≡ told_size lines

-- a frame: `$`, a channel, two bytes of length, and that number of bytes
pub record IsFrame (text : List ℕ) : Type 0 where
  pub channel : ℕ
  pub bytes : List ℕ
  pub text_is : text ≡ frame channel bytes

-- a reply or a frame
abbrev pub IsPiece : List ℕ → Type 0
IsPiece text = IsReply text ⊎ IsFrame text

-- no piece is a prefix of another piece
abbrev pub NoneBeginsAnother : Type 0
NoneBeginsAnother = (a b more others : List ℕ) → IsPiece a → IsPiece b → a ++ more ≡ b ++ others → a ≡ b

-- bytes split into pieces in at most one way
abbrev pub SplitOneWay : Type 0
SplitOneWay = (ps qs : List (List ℕ)) → Each IsPiece ps → Each IsPiece qs → flat_map (λ p. p) ps ≡ flat_map (λ q. q) qs → ps ≡ qs
