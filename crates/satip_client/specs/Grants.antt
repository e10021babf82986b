-- The grants in a reply to SETUP and to PLAY.
use Rattle.std.specs.Prelude.{◌≡◌, ◌≢◌, ℕ, ◌⊎◌, List, None, Some, Result, Ok, Err}
use Rattle.std.specs.Option.{option_copied}
use Rattle.satip_client.specs.declared.reply.ReplyView.{ReplyView}
use Rattle.satip_client.specs.declared.grants.Grant.{Grant}
use Rattle.satip_client.specs.declared.grants.ReplyFault.{ReplyFault}
use Rattle.satip_client.specs.declared.grants.ReplyFault.TheVariants.{Bad, Refused}

-- the reply answers the request with this number, and has this status
pub record Answers (cseq status : ℕ) (view : ReplyView) : Type 0 where
  pub cseq_is : view.cseq ≡ Some cseq
  pub status_is : view.status ≡ status

-- the reply gives a session with this timeout in seconds, and a stream
pub record Grants (view : ReplyView) (session : List ℕ) (timeout stream : ℕ) : Type 0 where
  pub answers : Answers 1 200 view
  pub session_is : option_copied view.session ≡ Some session
  pub timeout_is : view.timeout ≡ timeout
  pub stream_is : view.stream ≡ Some stream

-- the request was refused
pub record Refuses (cseq status : ℕ) (view : ReplyView) : Type 0 where
  pub answers : Answers cseq status view
  pub other : status ≢ 200

-- the reply has the status 200, and names no session or no stream
pub record LacksGrant (view : ReplyView) : Type 0 where
  pub answers : Answers 1 200 view
  pub lacks : (option_copied view.session ≡ None) ⊎ (view.stream ≡ None)

-- the reply doesn't answer SETUP, or gives nothing
abbrev pub IsNoGrant : ReplyView → Type 0
IsNoGrant view = (view.cseq ≢ Some 1) ⊎ LacksGrant view

-- the outcome of a reply to SETUP
abbrev pub GrantsAs : ReplyView → Result Grant ReplyFault → Type 0
GrantsAs view (Ok grant) = Grants view grant.session.now grant.timeout grant.stream
GrantsAs view (Err Bad) = IsNoGrant view
GrantsAs view (Err (Refused status)) = Refuses 1 status view

-- the outcome of a reply to the request with this number
abbrev pub AcceptsAs : (cseq : ℕ) → ReplyView → Result (Unit {0}) ReplyFault → Type 0
AcceptsAs cseq view (Ok accepted) = Answers cseq 200 view
AcceptsAs cseq view (Err Bad) = view.cseq ≢ Some cseq
AcceptsAs cseq view (Err (Refused status)) = Refuses cseq status view
