-- The statuses of replies over RTSP and HTTP, and their phrases (RFC 2326, 7.1.1).
use Rattle.std.specs.Prelude.{ℕ, ◌==◌, List, [], ◌∷◌, IsTrue, codes, if◌then◌else◌}
use Rattle.std.specs.List.{list_any}

-- the statuses that have a phrase
abbrev pub statuses : List ℕ
statuses = 200 ∷ 400 ∷ 403 ∷ 404 ∷ 413 ∷ 454 ∷ 455 ∷ 461 ∷ 501 ∷ 503 ∷ 505 ∷ 551 ∷ []

-- a status that has a phrase
abbrev pub IsStatus : ℕ → Type 0
IsStatus status = IsTrue (list_any (λ s. s == status) statuses)

-- the phrase of a status
abbrev pub phrase_of : ℕ → List ℕ
phrase_of status =
    if status == 200 then codes "OK" else (
    if status == 400 then codes "Bad Request" else (
    if status == 403 then codes "Forbidden" else (
    if status == 404 then codes "Not Found" else (
    if status == 413 then codes "Request Entity Too Large" else (
    if status == 454 then codes "Session Not Found" else (
    if status == 455 then codes "Method Not Valid in This State" else (
    if status == 461 then codes "Unsupported Transport" else (
    if status == 501 then codes "Not Implemented" else (
    if status == 503 then codes "Service Unavailable" else (
    if status == 505 then codes "RTSP Version Not Supported" else
    codes "Option not supported"))))))))))
