-- A request with the drains behind it.
use Rattle.std.proofs.Common.{◌≡◌, ◌∙◌, ℕ, Bool, List, [], ◌∷◌, ◌++◌, append-nil, arith, refl, sym, subst, inl, inr}
use Rattle.rand_chacha.specs.ChaCha.{ChaCha}
use Rattle.satip_base.specs.Output.{Output}
use Rattle.satip_base.specs.declared.identity.Draw.{Draw}
use Rattle.satip_rtsp_interleaved.specs.Turned.{turned}
use Rattle.satip_base.specs.History.{entry}
use Rattle.satip_plain.specs.declared.answers.Answer.TheVariants.{Replied as AnswerReplied}
use Rattle.satip_plain.specs.declared.events.Event.{Event}
use Rattle.satip_plain.specs.declared.events.Event.TheVariants.{Request as Asks}
use Rattle.satip_rtsp.specs.declared.requests.Request.{Request}
use Rattle.satip_plain.specs.Suits.{closes}
use Rattle.satip_interleave.specs.declared.events.TunnelEvent.TheVariants.{Inner}
use Rattle.satip_interleave.specs.declared.events.TunnelAnswer.{TunnelAnswer}
use Rattle.satip_interleave.specs.declared.events.TunnelAnswer.TheVariants.{Inner as InnerAnswer}
use Rattle.satip_interleave.specs.Histories.{TunnelItem}
use Rattle.satip_world.specs.Lines.{Line, SentAll, SendFailed}
use Rattle.satip_worker.specs.Progress.{Carries}
use Rattle.satip_worker.proofs.ProgressLemmas.{calm_counts, calm_then, carries_nothing, rises_from}
use Rattle.satip_tunnel.specs.declared.ends.Way.{Way}
use Rattle.satip_tunnel.specs.declared.ends.Way.TheVariants.{On, Broken, Lost, Spent}
use Rattle.satip_tunnel.specs.Walk.{Stance, Free, Draining, Over, lane_peer}
use Rattle.satip_tunnel.specs.Wire.{wire}
use Rattle.satip_tunnel.specs.Seats.{Seat, conn_at}
use Rattle.satip_tunnel.specs.Events.{MadeEvent, UnmadeEvent}
use Rattle.satip_tunnel.specs.Exchanges.{Drains, DrainsInPart, DrainsToStop, DrainsAll, Answers, AnswersInPart, AnswersToStop, StopsUnasked, ExchangesTo, Exchanges}
use Rattle.satip_tunnel.proofs.PauseLemmas.{dry-append}
use Rattle.satip_tunnel.proofs.SuitLemmas.{replied_so}
use Rattle.satip_tunnel.proofs.WalkLemmas.{in_part_behind}
use Rattle.satip_tunnel.proofs.ExchangeLemmas.{carries_all, carries_part, inners_before, talks_then, talks_whole}

module _ (tells : Type 0) (lane : ℕ) (o n : Seat) (l m : Line) (draw : Draw) (request : Request) (answer : TunnelAnswer) (out : Output)
    (made : MadeEvent o n (Inner (Asks (lane_peer lane) draw request)) answer out) where
  abbrev event : Event
  event = Asks (lane_peer lane) draw request

  -- its reply was sent
  pub reply_sent : SentAll tells l m (turned out.reply) → Answers tells lane (conn_at o l) (conn_at n m) event (closes request.refusal) Draining
  reply_sent sent =
      let P : List ℕ → Type 0 = λ s. Carries tells l m [] s in
      let so = replied_so (lane_peer lane) draw request answer made.suits in
      let A : TunnelAnswer → Type 0 = λ a. MadeEvent o n (Inner event) a out in
      let made_so = subst A so.is made in
      record {
        entries = entry o.pass.number (Inner event) (InnerAnswer (AnswerReplied so.replied)) out ∷ [];
        item = entry o.pass.number event (AnswerReplied so.replied) out;
        asked = refl;
        dry = omega arith;
        event_is = refl;
        answer_is = so.closing;
        talks = record {
          walk = (Draining, (refl, refl, tt, refl), refl);
          grows = made_so.grows;
          carries = subst P (sym (append-nil (turned out.reply))) (carries_all tells l m (turned out.reply) sent);
          input = sent.ended;
          idles = sent.counts.idles;
        };
        calm = calm_counts l m sent.counts;
      }

  -- a beginning of it
  pub reply_lost : SendFailed tells l m (turned out.reply) → AnswersInPart tells lane (conn_at o l) (conn_at n m) event
  reply_lost failed =
      let so = replied_so (lane_peer lane) draw request answer made.suits in
      let A : TunnelAnswer → Type 0 = λ a. MadeEvent o n (Inner event) a out in
      let made_so = subst A so.is made in
      let t : TunnelItem = entry o.pass.number (Inner event) (InnerAnswer (AnswerReplied so.replied)) out in
      record {
        entries = t ∷ [];
        item = entry o.pass.number event (AnswerReplied so.replied) out;
        asked = refl;
        dry = refl;
        event_is = refl;
        sent = failed.part;
        in_part = record {
          before = [];
          last = t;
          entries_are = refl;
          part = failed.part;
          rest = failed.rest;
          bytes = failed.whole;
          sent_is = refl;
        };
        talks = record {
          walk = (Draining, (refl, refl, tt, refl), refl);
          grows = made_so.grows;
          carries = carries_part tells l m (turned out.reply) failed;
          input = failed.ended;
          idles = failed.idles;
        };
        faults = failed.send_faults;
        receives = failed.receive_faults;
      }

-- it has no entry
pub request_unmade : (tells : Type 0) (lane : ℕ) (o n : Seat) (l : Line) → UnmadeEvent o n → StopsUnasked tells lane (conn_at o l) (conn_at n l)
request_unmade tells lane o n l unmade = record {
  talks = record { walk = refl; grows = unmade.grows; carries = carries_nothing tells l; input = refl; idles = refl };
  full = unmade.full;
}

module _ (tells : Type 0) (lane : ℕ) (o p n : Seat) (l k m : Line) (event : Event) (over : Bool)
    (before : Answers tells lane (conn_at o l) (conn_at p k) event over Draining) where
  -- the lane was drained behind it
  pub answers_then : (to : Stance) → Drains tells lane (conn_at p k) (conn_at n m) Draining to → Answers tells lane (conn_at o l) (conn_at n m) event over to
  answers_then to next = record {
    entries = before.entries ++ next.entries;
    item = before.item;
    asked = inners_before before.entries next.entries (before.item ∷ []) before.asked next.none_asked;
    dry =
        let none = before.dry in
        let few = next.dry in
        omega (arith, none, few, dry-append before.entries next.entries);
    event_is = before.event_is;
    answer_is = before.answer_is;
    talks = talks_whole tells lane o p n l k m Free Draining to before.entries next.entries before.talks next.talks;
    calm = calm_then l k m before.calm next.calm;
  }

  pub answers_then_lost : DrainsInPart tells lane (conn_at p k) (conn_at n m) Draining → AnswersInPart tells lane (conn_at o l) (conn_at n m) event
  answers_then_lost next = record {
    entries = before.entries ++ next.entries;
    item = before.item;
    asked = inners_before before.entries next.entries (before.item ∷ []) before.asked next.none_asked;
    dry =
        let none = before.dry in
        let few = next.dry in
        omega (arith, none, few, dry-append before.entries next.entries);
    event_is = before.event_is;
    sent = wire before.entries ++ next.sent;
    in_part = in_part_behind before.entries next.entries next.sent next.in_part;
    talks = talks_then tells lane o p n l k m Free Draining Draining before.entries next.entries (wire before.entries) next.sent before.talks next.talks;
    faults = rises_from l.send_faults k.send_faults m.send_faults before.talks.carries.send_faults next.faults;
    receives = next.receives ∙ before.calm.receive_faults;
  }

  pub answers_then_stop : DrainsToStop tells lane (conn_at p k) (conn_at n m) Draining → AnswersToStop tells lane (conn_at o l) (conn_at n m) event over
  answers_then_stop next = record { to = next.to; going = next.going; answers = answers_then next.to next.drains; full = next.full }

-- whatever draining came to
pub answers_then_all : (tells : Type 0) (lane : ℕ) (o p n : Seat) (l k m : Line) (event : Event) (over : Bool) (way : Way)
    → Answers tells lane (conn_at o l) (conn_at p k) event over Draining → DrainsAll tells lane (conn_at p k) (conn_at n m) Draining way
    → ExchangesTo tells lane (conn_at o l) (conn_at n m) event over way
answers_then_all tells lane o p n l k m event over On before next = answers_then tells lane o p n l k m event over before Free next
answers_then_all tells lane o p n l k m event over Broken before next = answers_then tells lane o p n l k m event over before Over next
answers_then_all tells lane o p n l k m event over Lost before next = answers_then_lost tells lane o p n l k m event over before next
answers_then_all tells lane o p n l k m event over Spent before next = inr (answers_then_stop tells lane o p n l k m event over before next)

-- the input goes on as before
comes_input : (tells : Type 0) (lane : ℕ) (o n : Seat) (l m : Line) (event : Event) (over : Bool) (way : Way)
    → ExchangesTo tells lane (conn_at o l) (conn_at n m) event over way → m.ended ≡ l.ended
comes_input tells lane o n l m event over On a = a.talks.input
comes_input tells lane o n l m event over Broken a = a.talks.input
comes_input tells lane o n l m event over Lost a = a.talks.input
comes_input tells lane o n l m event over Spent (inl a) = a.talks.input
comes_input tells lane o n l m event over Spent (inr a) = a.answers.talks.input

pub exchange_input : (tells : Type 0) (lane : ℕ) (before after : ChaCha) (o n : Seat) (l m : Line) (request : Request) (way : Way)
    → Exchanges tells lane before after (conn_at o l) (conn_at n m) request way → m.ended ≡ l.ended
exchange_input tells lane before after o n l m request way e =
    comes_input tells lane o n l m (Asks (lane_peer lane) e.draw request) (closes request.refusal) way e.comes
