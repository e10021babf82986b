-- The places of the parts of a head.
use Rattle.std.specs.Prelude.{◌≡◌, ℕ, ◌<◌, ◌≤◌, List, ◌++◌, length, drop, map}
use Rattle.std.specs.Char.{is_ascii_graphic}
use Rattle.httparse.specs.Ascii.{space}
use Rattle.httparse.specs.Grammar.{AllPass, LineEnd, print_end, is_token_byte}
use Rattle.httparse.specs.Pieces.{Piece, Then, Word}
use Rattle.httparse.specs.Spans.{span_bytes, header_bytes, IsWithin}
use Rattle.httparse.specs.declared.spans.HeaderSpan.{HeaderSpan}
use Rattle.satip_frame.specs.declared.heads.FirstLine.{FirstLine}
use Rattle.satip_frame.specs.Said.{Said}

-- the version, followed by the end of its line
abbrev pub LastWord : Piece (List ℕ × LineEnd)
LastWord word text rest =
    (0 < length word.0) × (length word.0 ≤ 16) × AllPass is_ascii_graphic word.0 × (text ≡ word.0 ++ (print_end word.1 ++ rest))

-- method SP target SP version line-end
abbrev pub Line : Piece (List ℕ × (List ℕ × (List ℕ × LineEnd)))
Line = Then (Word is_token_byte space) (Then (Word is_ascii_graphic space) LastWord)

-- the places of a first line lie in its head
pub record IsLineWithin (n : ℕ) (line : FirstLine) : Type 0 where
  pub method : IsWithin n line.method
  pub target : IsWithin n line.target
  pub version : IsWithin n line.version
  pub end : line.end ≤ n

-- the head begins with a first line at these places
pub record IsLineAt (head : List ℕ) (line : FirstLine) : Type 0 where
  pub within : IsLineWithin (length head) line
  pub line_end : LineEnd
  pub reads : Line (span_bytes head line.method, (span_bytes head line.target, (span_bytes head line.version, line_end))) head (drop line.end head)

-- the message at these places of a head
abbrev pub said_at : List ℕ → FirstLine → List HeaderSpan → Said
said_at head line headers = record {
  method = span_bytes head line.method;
  target = span_bytes head line.target;
  version = span_bytes head line.version;
  headers = map (header_bytes head) headers;
}
