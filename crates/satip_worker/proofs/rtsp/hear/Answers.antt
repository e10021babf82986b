use Rattle.std.proofs.Common.{refl, ◌∙◌, ◌++◌, ◌∷◌, []}
use Rattle.satip_rtsp.specs.Asked.{asked, broken_request}
use Rattle.satip_frame.proofs.TextLemmas.{all_with_last}
use Rattle.satip_worker.specs.declared.turns.Turn.TheVariants.{Sent, Lost, Unmade}
use Rattle.satip_worker.proofs.HearingLemmas.{stands_whole, message_turns, last_turns}
use Rattle.satip_worker.proofs.rtsp.hear.Goals as goal

pub requests-init : goal.requests-init
requests-init g c = (
  c.requires.goes_on,
  g.met.S.Service.same_self _,
  refl,
  λ course text same stands. stands_whole _ _ course _ _ text c.args.room.now.framer.bytes _ _ c.new-rest.ensures.whole stands,
  c.requires.free,
  refl,
)

pub requests-preserved : goal.requests-preserved
requests-preserved g c = (
  c.in-Asked.ensures.open (λ is. cc is),
  g.met.S.Service.same_then _ _ _ c.requests.invariant.1 c.turn.ensures.same,
  c.turn.ensures.input ∙ c.requests.invariant.2,
  λ course text same stands.
      let before = c.requests.invariant.3 course text same stands in
      let next = c.in-Asked.ensures.hears text before.requests before.first in
      record {
        requests = before.requests ++ c.next_asked.new.request ∷ [];
        first = next.first;
        answered = message_turns _ _ course _ _ _ _ text before.requests c.next_asked.new.request before.answered _ same
            c.turn.ensures.draws Sent c.in-Sent.ensures.turns _ next;
      },
  c.turn.ensures.free,
  c.turn.ensures.idles ∙ c.requests.invariant.5,
)

pub returns-in-Lost-clause-hears : goal.returns-in-Lost-clause-hears
returns-in-Lost-clause-hears g c = λ course text same stands.
    let before = c.requests.invariant.3 course text same stands in
    message_turns _ _ course _ _ _ _ text before.requests c.next_asked.new.request before.answered _ same
    c.turn.ensures.draws Lost c.in-Lost.ensures.turns _ (c.in-Asked.ensures.hears text before.requests before.first)

pub returns-in-Unmade-clause-hears : goal.returns-in-Unmade-clause-hears
returns-in-Unmade-clause-hears g c = λ course text same stands.
    let before = c.requests.invariant.3 course text same stands in
    message_turns _ _ course _ _ _ _ text before.requests c.next_asked.new.request before.answered _ same
    c.turn.ensures.draws (Unmade c.in-Unmade.fault) c.in-Unmade.ensures.turns _ (c.in-Asked.ensures.hears text before.requests before.first)

pub returns-in-Sent-turn-clause-hears : goal.returns-in-Sent-turn-clause-hears
returns-in-Sent-turn-clause-hears g c = λ course text same stands.
    let before = c.requests.invariant.3 course text same stands in
    let last = c.in-Last.ensures.hears text before.requests before.first in
    record {
      requests = before.requests ++ c.next_asked.new.request ∷ [];
      asks = all_with_last asked broken_request text before.requests c.next_asked.new.request last;
      answered = last_turns _ _ course _ _ _ _ text before.requests c.next_asked.new.request before.answered _ same
          c.turn-in-Last.ensures.draws Sent c.in-Sent-turn.ensures.turns last;
    }

pub returns-in-Lost-turn-clause-hears : goal.returns-in-Lost-turn-clause-hears
returns-in-Lost-turn-clause-hears g c = λ course text same stands.
    let before = c.requests.invariant.3 course text same stands in
    last_turns _ _ course _ _ _ _ text before.requests c.next_asked.new.request before.answered _ same
    c.turn-in-Last.ensures.draws Lost c.in-Lost-turn.ensures.turns (c.in-Last.ensures.hears text before.requests before.first)

pub returns-in-Unmade-turn-clause-hears : goal.returns-in-Unmade-turn-clause-hears
returns-in-Unmade-turn-clause-hears g c = λ course text same stands.
    let before = c.requests.invariant.3 course text same stands in
    last_turns _ _ course _ _ _ _ text before.requests c.next_asked.new.request before.answered _ same
    c.turn-in-Last.ensures.draws (Unmade c.in-Unmade-turn.fault) c.in-Unmade-turn.ensures.turns
    (c.in-Last.ensures.hears text before.requests before.first)

pub returns-in-Nothing-clause-hears : goal.returns-in-Nothing-clause-hears
returns-in-Nothing-clause-hears g c = λ course text same stands.
    let before = c.requests.invariant.3 course text same stands in
    record { requests = before.requests; heard = (c.in-Nothing.ensures.hears text before.requests before.first).0; answered = before.answered }
