-- The first two requests, by what their replies give.
use Rattle.std.proofs.Common.{◌≡◌, ℕ, List, subst, Result, Ok, Err}
use Rattle.satip_world.specs.Lines.{Line}
use Rattle.satip_client.specs.declared.reply.ReplyView.{ReplyView}
use Rattle.satip_client.specs.Grants.{IsNoGrant}
use Rattle.satip_client.specs.Waits.{Asked, Asks}
use Rattle.satip_client.specs.Exchanges.{HasAnswer, HasRefusal, HasOtherNumber, IsBadReply, EndsReading, Answered, EndsAsking, Starts, ReadsAccepted}
use Rattle.satip_client.specs.declared.ending.RecordEnd.{RecordEnd}
use Rattle.satip_client.specs.declared.ending.RecordEnd.TheVariants.{Done, OutputFault, Refused, BadReply, Silent, PeerFault, Closed, OutOfMemory}

-- a request without a whole reply ends the recording
pub asks_end : (IsOther : ReplyView → Type 0) (cseq : ℕ) (tells : Type 0) (o n : Line) (request before now : List ℕ) (end : RecordEnd)
    → Asks tells o n request before now (Err end) → EndsAsking IsOther cseq tells o n request before end
asks_end IsOther cseq tells o n request before now Done a = a
asks_end IsOther cseq tells o n request before now OutputFault a = a
asks_end IsOther cseq tells o n request before now (Refused code) a = absurd a
asks_end IsOther cseq tells o n request before now BadReply a = absurd a
asks_end IsOther cseq tells o n request before now Silent a = a
asks_end IsOther cseq tells o n request before now PeerFault a = a
asks_end IsOther cseq tells o n request before now Closed a = a
asks_end IsOther cseq tells o n request before now OutOfMemory a = absurd a

-- what was received is such a text
pub answered : (tells : Type 0) (o n : Line) (request before now : List ℕ) (Is : List ℕ → Type 0) → Asked tells o n request before now → Is now
    → Answered tells o n request before Is
answered tells o n request before now Is a is = record {
  got = a.got;
  content = a.content;
  faults = a.faults;
  up_to = a.up_to;
  is_such = subst Is a.held is;
}

-- a reply that gives nothing ends the recording
pub reads_end : (IsOther : ReplyView → Type 0) (cseq : ℕ) (tells : Type 0) (o n : Line) (request before now : List ℕ) (end : RecordEnd)
    → Asked tells o n request before now → EndsReading IsOther cseq now end → EndsAsking IsOther cseq tells o n request before end
reads_end IsOther cseq tells o n request before now Done a r = r
reads_end IsOther cseq tells o n request before now OutputFault a r = r
reads_end IsOther cseq tells o n request before now (Refused code) a r = answered tells o n request before now (HasRefusal cseq code) a r
reads_end IsOther cseq tells o n request before now BadReply a r = answered tells o n request before now (IsBadReply IsOther) a r
reads_end IsOther cseq tells o n request before now Silent a r = absurd r
reads_end IsOther cseq tells o n request before now PeerFault a r = absurd r
reads_end IsOther cseq tells o n request before now Closed a r = absurd r
reads_end IsOther cseq tells o n request before now OutOfMemory a r = absurd r

pub starts_by : (tells : Type 0) (o n : Line) (asked request before now text : List ℕ) (result : Result (Unit {0}) RecordEnd)
    → asked ≡ request → Asked tells o n asked before now → text ≡ now → ReadsAccepted text result → Starts tells o n request before result
starts_by tells o n asked request before now text (Ok done) is b same r =
    let a = subst (λ (t : List ℕ). Asked tells o n t before now) is b in
    answered tells o n request before now (HasAnswer 2) a (subst (HasAnswer 2) same r)
starts_by tells o n asked request before now text (Err end) is b same r =
    let a = subst (λ (t : List ℕ). Asked tells o n t before now) is b in
    reads_end (HasOtherNumber 2) 2 tells o n request before now end a
    (subst (λ (t : List ℕ). EndsReading (HasOtherNumber 2) 2 t end) same r)

-- the reply to SETUP ended it
pub no_set_up_by : (tells : Type 0) (o n : Line) (asked request before now text : List ℕ) (end : RecordEnd)
    → asked ≡ request → Asked tells o n asked before now → text ≡ now → EndsReading IsNoGrant 1 text end
    → EndsAsking IsNoGrant 1 tells o n request before end
no_set_up_by tells o n asked request before now text end is b same r =
    reads_end IsNoGrant 1 tells o n request before now end (subst (λ (t : List ℕ). Asked tells o n t before now) is b)
    (subst (λ (t : List ℕ). EndsReading IsNoGrant 1 t end) same r)
