-- The heads of responses over HTTP.
use Rattle.std.specs.Prelude.{ℕ, ◌==◌, List, ◌++◌, Option, Some, None, codes, decimal, if◌then◌else◌}
use Rattle.satip_query.specs.declared.bodies.RefusalBody.{RefusalBody}
use Rattle.satip_query.specs.Bodies.{body_part, line_end}
use Rattle.satip_query.specs.Statuses.{phrase_of}

-- the phrase of a status
abbrev pub http_phrase : ℕ → List ℕ
http_phrase status = if status == 505 then codes "HTTP Version Not Supported" else phrase_of status

-- the first line
unfoldable pub http_status_line : ℕ → List ℕ
http_status_line status = codes "HTTP/1.1 " ++ decimal status ++ codes " " ++ http_phrase status ++ line_end

-- the line that says that the connection is closed after the response
abbrev pub closing_line : List ℕ
closing_line = codes "Connection: close" ++ line_end

-- the head of a response of transport packets
unfoldable pub start_head : List ℕ
start_head = http_status_line 200 ++ (codes "Content-Type: video/mp2t" ++ line_end ++ closing_line ++ line_end)

-- the end of a head, with the reason if there is one
abbrev pub body_or_end : Option RefusalBody → List ℕ
body_or_end None = line_end
body_or_end (Some body) = body_part body

-- a refusal
unfoldable pub http_refusal : ℕ → Option RefusalBody → List ℕ
http_refusal status body = http_status_line status ++ closing_line ++ body_or_end body
