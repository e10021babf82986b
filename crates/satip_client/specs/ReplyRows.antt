-- A head and a text, for the worked examples.
use Rattle.std.specs.Prelude.{ℕ, List, [], ◌∷◌, ◌++◌, codes}
use Rattle.httparse.specs.Grammar.{crlf, lf}
use Rattle.satip_client.specs.Heads.{Head}

-- a head of two headers
abbrev pub some_head : Head
some_head = record {
  digits = codes "454";
  reason = codes " Session Not Found";
  line_end = crlf;
  fields = record { name = codes "CSeq"; raw = codes " 2 "; end = lf } ∷ record { name = codes "Content-Length"; raw = codes "3"; end = crlf } ∷ [];
  last = crlf;
}

-- its bytes
abbrev pub some_text : List ℕ
some_text =
    codes "RTSP/1.0 454 Session Not Found" ++ (13 ∷ 10 ∷ []) ++ codes "CSeq: 2 " ++ (10 ∷ []) ++ codes "Content-Length:3" ++ (13 ∷ 10 ∷ 13 ∷ 10 ∷ [])
