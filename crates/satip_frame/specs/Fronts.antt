-- The start of a text, as the code finds it.
use Rattle.std.specs.Prelude.{ℕ, ◌<◌, ◌≤◌, List, ◌++◌, length, take, drop, All}
use Rattle.httparse.specs.Spans.{IsHeaderWithin}
use Rattle.httparse.specs.declared.spans.HeaderSpan.{HeaderSpan}
use Rattle.satip_frame.specs.declared.framing.Break.TheVariants.{Bad as cause_bad, TooLong as cause_too_long}
use Rattle.satip_frame.specs.declared.looking.Found.{Found}
use Rattle.satip_frame.specs.declared.looking.Front.{Front}
use Rattle.satip_frame.specs.declared.looking.Front.TheVariants.{Whole, More, Bad, TooLong}
use Rattle.satip_frame.specs.declared.looking.Seen.{Seen}
use Rattle.satip_frame.specs.Head.{HasNoEmptyLine}
use Rattle.satip_frame.specs.Places.{IsLineWithin, said_at}
use Rattle.satip_frame.specs.Stream.{Unfinished, Broken, Begins, Ends}

-- the text begins with a message whose parts are at these places
pub record IsFoundAt (text : List ℕ) (headers : List HeaderSpan) (found : Found) : Type 0 where
  pub line : IsLineWithin found.head found.line
  pub counted : found.headers ≤ 64
  pub headers_within : All (IsHeaderWithin found.head) (take found.headers headers)
  pub head_first : found.head ≤ found.len
  pub within : found.len ≤ length text
  pub begins : Begins text (said_at (take found.head text) found.line (take found.headers headers)) (drop found.len text)

-- what is known of a text: no head ends in its first bytes, and no message is whole before so many bytes of it are there
pub record IsSeen (text : List ℕ) (seen : Seen) : Type 0 where
  pub within : seen.looked ≤ length text
  pub none : HasNoEmptyLine seen.looked text
  pub waits : (more : List ℕ) → length (text ++ more) < seen.needed → Ends (text ++ more) Unfinished

-- the text begins as this answer says
abbrev pub IsFront : List ℕ → List HeaderSpan → Front → Type 0
IsFront text headers (Whole found) = IsFoundAt text headers found
IsFront text headers (More seen) = Ends text Unfinished × IsSeen text seen
IsFront text headers Bad = Ends text (Broken cause_bad)
IsFront text headers TooLong = Ends text (Broken cause_too_long)
