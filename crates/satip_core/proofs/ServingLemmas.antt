-- Steps of the server, by what its fields keep.
use Rattle.std.proofs.Common.{◌≡◌, ◌∙◌, ℕ, List, [], ◌∷◌, ◌++◌, map, Option, Some, None, refl, ap, sym, subst}
use Rattle.std.specs.Option.{option_map_or}
use Rattle.satip_base.specs.Output.{Output, Wrote, empty}
use Rattle.satip_plain.specs.declared.answers.Answer.{Answer}
use Rattle.satip_plain.specs.declared.answers.Answer.TheVariants.{Pulled, Closed}
use Rattle.satip_plain.specs.declared.answers.Pulled.TheVariants.{Gone as PulledGone}
use Rattle.satip_plain.specs.declared.answers.Closed.TheVariants.{Yes, Gone as ClosedGone}
use Rattle.satip_plain.specs.declared.events.Event.{Event}
use Rattle.satip_plain.specs.Types.{Config, SessionId}
use Rattle.satip_plain.specs.State.{Session, State, held, http_session}
use Rattle.satip_plain.specs.Sending.{Move, settle}
use Rattle.satip_plain.specs.Steps.{Outcome, end_where, is_session, on_close, on_pull, outcome, pull_some, step}
use Rattle.satip_plain.specs.Laws.{Leaves}
use Rattle.satip_plain.specs.Histories.{datagram}
use Rattle.satip_state.specs.Kept.{Kept}
use Rattle.satip_state.specs.Standing.{Moved, StandsFor}
use Rattle.satip_core.specs.Held.{Held}
use Rattle.satip_core.specs.Doing.{Did}
use Rattle.satip_core.specs.Serving.{Stands}

-- nothing is sent by a pull, and a close has no reply
pub pull_silent : (id : SessionId) (st : State) → (on_pull id st).sent ≡ []
pull_silent id st = by (http_session st id)
  where
    queued : (s : Session) (packets : List (List ℕ)) → (pull_some st s packets).sent ≡ []
    queued s [] = refl
    queued s (p ∷ ps) = refl

    by : (o : Option Session) → (option_map_or (λ s. pull_some st s (held s)) o (outcome (settle st) (Pulled PulledGone) [])).sent ≡ []
    by None = refl
    by (Some s) = queued s (held s)

pub close_quiet : (id : SessionId) (st : State) → (on_close id st).reply ≡ []
close_quiet id st = by (http_session st id)
  where
    by : (o : Option Session)
        → (option_map_or (λ (s : Session). outcome (end_where (is_session id) st) (Closed Yes) []) o (outcome (settle st) (Closed ClosedGone) [])).reply ≡ []
    by None = refl
    by (Some s) = refl

-- what holds of what the fields keep holds of the server
pub steps_of : (fields old : Held) (v : Kept) (event : Event) (said : Answer) (out : Output) → fields ≡ old
    → ((st : State) → Stands fields st → Did fields.setting.config v said out (step fields.setting.config st event))
    → (st : State) → Stands old st → Did old.setting.config v said out (step old.setting.config st event)
steps_of fields old v event said out is did =
    subst (λ (s : Held). (st : State) → Stands s st → Did s.setting.config v said out (step s.setting.config st event)) is did

-- an event that leaves this state
pub rests : (c : Config) (v : Kept) (said : Answer) (out : Output) (o : Outcome) (st : State) → Did c v said out o → Leaves o st
    → StandsFor c v st × (out.datagrams ≡ [])
rests c v said out o st did leaves = (subst (StandsFor c v) leaves.state did.stands, did.datagrams ∙ ap (map datagram) leaves.sent)

-- nothing is written, and nothing is sent
pub did_quietly : (c : Config) (v : Kept) (o : Output) (said : Answer) (done : Outcome) → o ≡ empty → StandsFor c v done.state → said ≡ done.answer
    → done.reply ≡ [] → done.sent ≡ [] → Did c v said o done
did_quietly c v o said done cleared stands answer quiet silent = record {
  stands = stands;
  answer = answer;
  reply = ap (λ (x : Output). x.reply) cleared ∙ sym quiet;
  datagrams = ap (λ (x : Output). x.datagrams) cleared ∙ ap (map datagram) (sym silent);
}

-- a pull and a close, after what was written before was cleared
pub did_pull : (c : Config) (v : Kept) (o n : Output) (said : Answer) (id : SessionId) (st : State) → o ≡ empty → StandsFor c v (on_pull id st).state
    → said ≡ (on_pull id st).answer → Wrote o (on_pull id st).reply n → Did c v said n (on_pull id st)
did_pull c v o n said id st cleared stands answer wrote = record {
  stands = stands;
  answer = answer;
  reply = wrote.reply ∙ ap (λ (x : Output). x.reply ++ (on_pull id st).reply) cleared;
  datagrams = wrote.datagrams ∙ ap (λ (x : Output). x.datagrams) cleared ∙ ap (map datagram) (sym (pull_silent id st));
}

pub did_close : (c : Config) (v : Kept) (o n : Output) (said : Answer) (id : SessionId) (st : State) (m : Move) → o ≡ empty → Moved c v o n m
    → m.state ≡ (on_close id st).state → m.sent ≡ (on_close id st).sent → said ≡ (on_close id st).answer → Did c v said n (on_close id st)
did_close c v o n said id st m cleared moved state sent answer = record {
  stands = subst (StandsFor c v) state moved.stands;
  answer = answer;
  reply = moved.sent.reply ∙ ap (λ (x : Output). x.reply) cleared ∙ sym (close_quiet id st);
  datagrams = moved.sent.datagrams ∙ ap (λ (x : Output). x.datagrams ++ map datagram m.sent) cleared ∙ ap (map datagram) sent;
}
