-- The bytes of a sink until one of its puts fails.
use Rattle.std.specs.Prelude.{◌≡◌, ℕ, Bool, true, false, List}
use Rattle.satip_base.specs.Streams.{Drain, PutAll, FailedToPut}

-- from one moment to another, with a text to send; the two bools say whether a put had failed by then. All of the text was sent; or a prefix of it, and the
-- fault count rose; or nothing after an earlier fault
abbrev pub Logs : (tells : Type 0) (o n : Drain) (before after : Bool) (text : List ℕ) → Type 0
Logs tells o n false false text = PutAll tells o n text
Logs tells o n false true text = FailedToPut tells o n text
Logs tells o n true true text = n ≡ o
Logs tells o n true false text = ⊥
