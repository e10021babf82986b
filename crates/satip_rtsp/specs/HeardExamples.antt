-- Texts of the worked examples, and their requests.
use Rattle.std.specs.Prelude.{ℕ, List, ◌++◌, Some, codes}
use Rattle.satip_rtsp.specs.declared.requests.Request.{Request}
use Rattle.satip_rtsp.specs.Asked.{blank}

-- OPTIONS with one header line
abbrev pub options_with : List ℕ → List ℕ
options_with line = codes "OPTIONS * RTSP/1.0\r\n" ++ line ++ codes "\r\n\r\n"

-- OPTIONS with the number 1
abbrev pub whole : List ℕ
whole = options_with (codes "CSeq: 1")

-- the same without its last byte
abbrev pub begun : List ℕ
begun = codes "OPTIONS * RTSP/1.0\r\nCSeq: 1\r\n\r"

-- a head whose length isn't a number
abbrev pub bad : List ℕ
bad = options_with (codes "Content-Length: x")

-- a head that announces one byte more than the limit
abbrev pub too_long : List ℕ
too_long = options_with (codes "Content-Length: 4097")

-- the request of OPTIONS with the number 1
abbrev pub options_1 : Request
options_1 = record blank { cseq = Some 1 }
