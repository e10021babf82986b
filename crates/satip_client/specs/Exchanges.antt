-- The first two requests with their replies.
use Rattle.std.specs.Prelude.{◌≡◌, ◌≢◌, ℕ, ◌≤◌, ◌⊎◌, true, Some, List, ◌++◌, drop, length, Result, Ok, Err}
use Rattle.satip_world.specs.Lines.{Line, Grew}
use Rattle.satip_client.specs.Replies.{IsReply, NeverHasReply}
use Rattle.satip_client.specs.declared.reply.ReplyView.{ReplyView}
use Rattle.satip_client.specs.Grants.{Answers, Grants, IsNoGrant, Refuses}
use Rattle.satip_client.specs.declared.grants.ReplyFault.{ReplyFault}
use Rattle.satip_client.specs.declared.grants.ReplyFault.TheVariants.{Bad, Refused as reply_refused}
use Rattle.satip_client.specs.Leases.{Terms}
use Rattle.satip_client.specs.Waits.{Unanswered, AskFailed, IsUpToPiece, SameFaults, WasIdleFor, idle_limit}
use Rattle.satip_client.specs.declared.ending.RecordEnd.{RecordEnd}
use Rattle.satip_client.specs.declared.ending.RecordEnd.TheVariants.{Done, OutputFault, Refused, BadReply, Silent, PeerFault, Closed, OutOfMemory}

-- the end of a recording after a reply that gives nothing
abbrev pub end_of_fault : ReplyFault → RecordEnd
end_of_fault Bad = BadReply
end_of_fault (reply_refused code) = Refused code

-- the text begins with a reply to SETUP that gives these terms; `size` is its length
pub record HasGrant (text : List ℕ) (terms : Terms) (size : ℕ) : Type 0 where
  pub view : ReplyView
  pub is_reply : IsReply text view
  pub grants : Grants view terms.session terms.timeout terms.stream
  pub size_is : view.length ≡ size

-- the text begins with a reply that accepts the request with this number
pub record HasAnswer (cseq : ℕ) (text : List ℕ) : Type 0 where
  pub view : ReplyView
  pub is_reply : IsReply text view
  pub answers : Answers cseq 200 view

-- the text begins with a reply of this status, other than 200, to the request with this number
pub record HasRefusal (cseq code : ℕ) (text : List ℕ) : Type 0 where
  pub view : ReplyView
  pub is_reply : IsReply text view
  pub refuses : Refuses cseq code view

-- the text begins with a reply that isn't the awaited one
pub record HasOther (IsOther : ReplyView → Type 0) (text : List ℕ) : Type 0 where
  pub view : ReplyView
  pub is_reply : IsReply text view
  pub is_other : IsOther view

-- no more bytes make a reply of the text, or it begins with a reply that isn't the awaited one
abbrev pub IsBadReply : (IsOther : ReplyView → Type 0) → List ℕ → Type 0
IsBadReply IsOther text = NeverHasReply text ⊎ HasOther IsOther text

-- a reply has another number than the request
abbrev pub HasOtherNumber : ℕ → ReplyView → Type 0
HasOtherNumber cseq view = view.cseq ≢ Some cseq

-- the end of the recording by a settled text that gives nothing
abbrev pub EndsReading : (IsOther : ReplyView → Type 0) (cseq : ℕ) (text : List ℕ) → RecordEnd → Type 0
EndsReading IsOther cseq text Done = ⊥
EndsReading IsOther cseq text OutputFault = ⊥
EndsReading IsOther cseq text (Refused code) = HasRefusal cseq code text
EndsReading IsOther cseq text BadReply = IsBadReply IsOther text
EndsReading IsOther cseq text Silent = ⊥
EndsReading IsOther cseq text PeerFault = ⊥
EndsReading IsOther cseq text Closed = ⊥
EndsReading IsOther cseq text OutOfMemory = ⊥

-- the request was sent, and the bytes received are such; no piece was received after one that settled them
pub record Answered (tells : Type 0) (o n : Line) (request before : List ℕ) (Is : List ℕ → Type 0) : Type 0 where
  pub got : List ℕ
  pub content : Grew tells o n got request
  pub faults : SameFaults o n
  pub up_to : IsUpToPiece before got
  pub is_such : Is (before ++ got)

-- the end of the recording by a request
abbrev pub EndsAsking : (IsOther : ReplyView → Type 0) (cseq : ℕ) (tells : Type 0) (o n : Line) (request before : List ℕ) → RecordEnd → Type 0
EndsAsking IsOther cseq tells o n request before Done = ⊥
EndsAsking IsOther cseq tells o n request before OutputFault = ⊥
EndsAsking IsOther cseq tells o n request before (Refused code) = Answered tells o n request before (HasRefusal cseq code)
EndsAsking IsOther cseq tells o n request before BadReply = Answered tells o n request before (IsBadReply IsOther)
EndsAsking IsOther cseq tells o n request before Silent = Unanswered tells o n request before (WasIdleFor idle_limit o n)
EndsAsking IsOther cseq tells o n request before PeerFault = AskFailed tells o n request before
EndsAsking IsOther cseq tells o n request before Closed = Unanswered tells o n request before (n.ended ≡ true)
EndsAsking IsOther cseq tells o n request before OutOfMemory = ⊥

-- SETUP was sent, and its reply gives these terms; the bytes after the reply are held. No piece was received after one that settled the text
pub record SetUp (tells : Type 0) (o n : Line) (request before now : List ℕ) (terms : Terms) : Type 0 where
  pub got : List ℕ
  pub content : Grew tells o n got request
  pub faults : SameFaults o n
  pub up_to : IsUpToPiece before got
  pub idles : o.idles ≤ n.idles
  pub size : ℕ
  pub grant : HasGrant (before ++ got) terms size
  pub within : size ≤ length (before ++ got)
  pub held : now ≡ drop size (before ++ got)

-- the outcome of SETUP
abbrev pub SetsUp : (tells : Type 0) (o n : Line) (request before now : List ℕ) → Result Terms RecordEnd → Type 0
SetsUp tells o n request before now (Ok terms) = SetUp tells o n request before now terms
SetsUp tells o n request before now (Err end) = EndsAsking IsNoGrant 1 tells o n request before end

-- PLAY was sent and accepted
abbrev pub Starts : (tells : Type 0) (o n : Line) (request before : List ℕ) → Result (Unit {0}) RecordEnd → Type 0
Starts tells o n request before (Ok done) = Answered tells o n request before (HasAnswer 2)
Starts tells o n request before (Err end) = EndsAsking (HasOtherNumber 2) 2 tells o n request before end

-- the content of a settled text: the terms and the length of the reply, or an end
abbrev pub ReadsGrant : (text : List ℕ) → Result (Terms × ℕ) RecordEnd → Type 0
ReadsGrant text (Ok granted) = HasGrant text granted.0 granted.1 × (granted.1 ≤ length text)
ReadsGrant text (Err end) = EndsReading IsNoGrant 1 text end

-- the content of a settled text after PLAY
abbrev pub ReadsAccepted : (text : List ℕ) → Result (Unit {0}) RecordEnd → Type 0
ReadsAccepted text (Ok done) = HasAnswer 2 text
ReadsAccepted text (Err end) = EndsReading (HasOtherNumber 2) 2 text end
