-- A reply with what moves send is what the plain server does.
use Rattle.std.proofs.Common.{◌≡◌, ◌∙◌, ℕ, List, [], ◌++◌, map, ap}
use Rattle.satip_base.specs.Output.{Output, Datagram, Wrote, empty}
use Rattle.satip_plain.specs.declared.answers.Answer.{Answer}
use Rattle.satip_plain.specs.Types.{Config}
use Rattle.satip_plain.specs.State.{State}
use Rattle.satip_plain.specs.Sending.{Move, settle}
use Rattle.satip_plain.specs.Steps.{outcome}
use Rattle.satip_plain.specs.Histories.{datagram}
use Rattle.satip_state.specs.Kept.{Kept}
use Rattle.satip_state.specs.Standing.{StandsFor, Moved}
use Rattle.satip_core.specs.Doing.{Did}

-- nothing is written
pub did_nothing : (c : Config) (v : Kept) (o : Output) (st : State) (said answer : Answer) → o ≡ empty → said ≡ answer → StandsFor c v st
    → Did c v said o (outcome (settle st) answer [])
did_nothing c v o st said answer cleared same stands = record {
  stands = stands;
  answer = same;
  reply = ap (λ (x : Output). x.reply) cleared;
  datagrams = ap (λ (x : Output). x.datagrams) cleared;
}

-- a reply alone
pub did_reply : (c : Config) (v : Kept) (o n : Output) (st : State) (said answer : Answer) (reply : List ℕ) → o ≡ empty → said ≡ answer → StandsFor c v st
    → Wrote o reply n → Did c v said n (outcome (settle st) answer reply)
did_reply c v o n st said answer reply cleared same stands wrote = record {
  stands = stands;
  answer = same;
  reply = wrote.reply ∙ ap (λ (x : Output). x.reply ++ reply) cleared;
  datagrams = wrote.datagrams ∙ ap (λ (x : Output). x.datagrams) cleared;
}

-- a move alone
pub did_move : (c : Config) (v : Kept) (o n : Output) (m : Move) (said answer : Answer) → o ≡ empty → said ≡ answer → Moved c v o n m
    → Did c v said n (outcome m answer [])
did_move c v o n m said answer cleared same moved = record {
  stands = moved.stands;
  answer = same;
  reply = moved.sent.reply ∙ ap (λ (x : Output). x.reply) cleared;
  datagrams = moved.sent.datagrams ∙ ap (λ (x : Output). x.datagrams ++ map datagram m.sent) cleared;
}

-- a reply, and a move behind it
pub did_reply_move : (c : Config) (v : Kept) (o p n : Output) (m : Move) (said answer : Answer) (reply : List ℕ) → o ≡ empty → said ≡ answer → Wrote o reply p
    → Moved c v p n m → Did c v said n (outcome m answer reply)
did_reply_move c v o p n m said answer reply cleared same wrote moved = record {
  stands = moved.stands;
  answer = same;
  reply = moved.sent.reply ∙ wrote.reply ∙ ap (λ (x : Output). x.reply ++ reply) cleared;
  datagrams = moved.sent.datagrams ∙ ap (λ (ds : List Datagram). ds ++ map datagram m.sent) (wrote.datagrams ∙ ap (λ (x : Output). x.datagrams) cleared);
}

-- a move, and the reply behind it
pub did_move_reply : (c : Config) (v : Kept) (o p n : Output) (m : Move) (said answer : Answer) (reply : List ℕ) → o ≡ empty → said ≡ answer → Moved c v o p m
    → Wrote p reply n → Did c v said n (outcome m answer reply)
did_move_reply c v o p n m said answer reply cleared same moved wrote = record {
  stands = moved.stands;
  answer = same;
  reply = wrote.reply ∙ ap (λ (bs : List ℕ). bs ++ reply) (moved.sent.reply ∙ ap (λ (x : Output). x.reply) cleared);
  datagrams = wrote.datagrams ∙ moved.sent.datagrams ∙ ap (λ (x : Output). x.datagrams ++ map datagram m.sent) cleared;
}
