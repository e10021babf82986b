-- A connection in the middle of its text.
use Rattle.std.specs.Prelude.{◌≡◌, ℕ, List, [], ◌∷◌, ◌++◌}
use Rattle.satip_base.specs.Streams.{Drain, Rose}
use Rattle.satip_rtsp.specs.declared.requests.Request.{Request}
use Rattle.satip_rtsp.specs.Asked.{asked, broken_request}
use Rattle.satip_frame.specs.Asking.{AsksFirst, AsksSoFar, AsksLast}
use Rattle.satip_talk_command.specs.Talk.{replies_to, PartlyAnswered}
use Rattle.satip_talk_command.specs.Talking.{HasAnswered}
use Rattle.satip_talk_command.specs.Gathering.{SentBut}
use Rattle.satip_talk_command.specs.declared.talker.Talker.{Talker}
use Rattle.satip_talk_command.specs.declared.conversation.Heard.{Heard}
use Rattle.satip_talk_command.specs.declared.conversation.Heard.TheVariants.{All, Closed, Failed}

-- these requests were answered, and the waiting part of the replies is still to be sent
pub record Replied (tells : Type 0) (o n : Drain) (waiting : List ℕ) (requests : List Request) (talker : Talker) : Type 0 where
  pub answered : HasAnswered talker requests
  pub faults : n.faults ≡ o.faults
  pub sent : tells → SentBut o.sent n.sent waiting (replies_to requests)

-- the first requests of the text were answered, and rest is left of it
pub record Stands (tells : Type 0) (o n : Drain) (waiting text rest : List ℕ) (talker : Talker) : Type 0 where
  pub requests : List Request
  pub first : AsksFirst asked text requests rest
  pub replied : Replied tells o n waiting requests talker

-- all requests of the text so far were answered, and the framer holds these bytes
pub record Listens (tells : Type 0) (o n : Drain) (waiting text held : List ℕ) (talker : Talker) : Type 0 where
  pub requests : List Request
  pub heard : AsksSoFar asked text requests held
  pub replied : Replied tells o n waiting requests talker

-- the text is broken, and its last reply is a closing one
pub record HasClosed (tells : Type 0) (o n : Drain) (waiting text : List ℕ) (talker : Talker) : Type 0 where
  pub before : List Request
  pub request : Request
  pub last : AsksLast asked broken_request text before request
  pub replied : Replied tells o n waiting (before ++ request ∷ []) talker

-- the output failed in the middle of the replies
pub record HasFailed (tells : Type 0) (o n : Drain) (text : List ℕ) : Type 0 where
  pub faults : Rose o.faults n.faults
  pub part : PartlyAnswered tells o.sent n.sent text

-- the state after a text, of which the framer then holds these bytes
abbrev pub Hears : (tells : Type 0) (o n : Drain) (waiting text held : List ℕ) (talker : Talker) → Heard → Type 0
Hears tells o n waiting text held talker All = Listens tells o n waiting text held talker
Hears tells o n waiting text held talker Closed = HasClosed tells o n waiting text talker
Hears tells o n waiting text held talker Failed = HasFailed tells o n text
