-- The bodies of refusals, and the lines of a head that announce one.
use Rattle.std.specs.Prelude.{ℕ, ◌+◌, List, [], ◌∷◌, ◌++◌, length, codes, decimal}
use Rattle.satip_tune.specs.Words.{key_text}
use Rattle.satip_query.specs.declared.bodies.RefusalBody.{RefusalBody}
use Rattle.satip_query.specs.declared.bodies.RefusalBody.TheVariants.{CheckSyntax, OutOfRange, NotOwner, NoMorePids, NoMoreSessions, NoMoreFrontends}

-- the text of a reason
unfoldable pub body_text : RefusalBody → List ℕ
body_text (CheckSyntax key) = codes "Check-Syntax:" ++ key_text key
body_text (OutOfRange key) = codes "Out-of-Range:" ++ key_text key
body_text NotOwner = codes "Not-Owner:stream"
body_text NoMorePids = codes "No-More:pids"
body_text NoMoreSessions = codes "No-More:sessions"
body_text NoMoreFrontends = codes "No-More:frontends"

-- the end of a line
abbrev pub line_end : List ℕ
line_end = 13 ∷ 10 ∷ []

-- a line of a name and a number
abbrev pub number_line : List ℕ → ℕ → List ℕ
number_line name n = name ++ decimal n ++ line_end

-- the header lines of the body, an empty line, and the text as one line; the length counts the end of that line too
unfoldable pub body_part : RefusalBody → List ℕ
body_part body =
    (codes "Content-Type: text/parameters" ++ line_end) ++ number_line (codes "Content-Length: ") (length (body_text body) + 2) ++ line_end
    ++ body_text body ++ line_end
