-- Replies of the worked examples.
use Rattle.std.specs.Prelude.{List, ℕ, ◌++◌, codes}
use Rattle.satip_query.specs.Bodies.{line_end}

-- the reply to a first SETUP, with this line as its transport
abbrev pub setup_with : List ℕ → List ℕ
setup_with transport =
    codes "RTSP/1.0 200 OK" ++ line_end ++ codes "CSeq: 1" ++ line_end ++ codes "Session: 000000010000000a;timeout=60" ++ line_end
    ++ transport ++ line_end ++ codes "com.ses.streamID: 1" ++ line_end ++ line_end

-- a reply whose body looks like a line of a head
abbrev pub body_of : List ℕ → List ℕ
body_of line = codes "RTSP/1.0 200 OK" ++ line_end ++ codes "CSeq: 2" ++ line_end ++ line_end ++ line ++ line_end
