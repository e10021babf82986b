-- The first request of an HTTP connection.
use Rattle.std.specs.Prelude.{◌≡◌, ◌⊎◌, true, false, ℕ, List, [], ◌∷◌}
use Rattle.satip_frame.specs.declared.framing.Break.{Break}
use Rattle.satip_frame.specs.Said.{Said}
use Rattle.satip_frame.specs.Stream.{Unfinished, Broken, Messages, AreFirst}
use Rattle.satip_http.specs.declared.requests.HttpRequest.{HttpRequest}
use Rattle.satip_http.specs.Gets.{asked_get, broken_get}
use Rattle.satip_world.specs.Counts.{Rises}
use Rattle.satip_world.specs.Lines.{Line}
use Rattle.satip_worker.specs.declared.first.First.{First}
use Rattle.satip_worker.specs.declared.first.First.TheVariants.{Asked, Ended, Failed}
use Rattle.satip_worker.specs.Progress.{Carries, SameFaults}

-- the first message of the text is this request
pub record AsksByMessage (text : List ℕ) (request : HttpRequest) : Type 0 where
  pub message : Said
  pub first : AreFirst (message ∷ []) text
  pub request_is : request ≡ asked_get message

-- the text begins with something that is no message, and that gives this request
pub record AsksByBreak (text : List ℕ) (request : HttpRequest) : Type 0 where
  pub cause : Break
  pub read : Messages text [] (Broken cause)
  pub request_is : request ≡ broken_get cause

-- this is the first request of the text
abbrev pub AsksFirst : List ℕ → HttpRequest → Type 0
AsksFirst text request = AsksByMessage text request ⊎ AsksByBreak text request

-- a request was read, and no receive and no send failed
pub record ReadAsked (tells : Type 0) (l m : Line) (request : HttpRequest) : Type 0 where
  pub received : List ℕ
  pub first : AsksFirst received request
  pub goes_on : m.ended ≡ false
  pub carries : Carries tells l m received []
  pub calm : SameFaults l m

-- the input ended before any request, and no receive and no send failed
pub record ReadNothing (tells : Type 0) (l m : Line) : Type 0 where
  pub received : List ℕ
  pub nothing : Messages received [] Unfinished
  pub ended : m.ended ≡ true
  pub carries : Carries tells l m received []
  pub calm : SameFaults l m

-- a receive failed before any request, and no send failed
pub record ReadFailed (tells : Type 0) (l m : Line) : Type 0 where
  pub received : List ℕ
  pub nothing : Messages received [] Unfinished
  pub goes_on : m.ended ≡ false
  pub carries : Carries tells l m received []
  pub faults : Rises l.receive_faults m.receive_faults
  pub sends : m.send_faults ≡ l.send_faults

-- the outcome of reading up to the first request
abbrev pub ReadsFirst : (tells : Type 0) (l m : Line) → First → Type 0
ReadsFirst tells l m (Asked request) = ReadAsked tells l m request
ReadsFirst tells l m Ended = ReadNothing tells l m
ReadsFirst tells l m Failed = ReadFailed tells l m
