use Rattle.std.proofs.Common.{◌++◌, ◌∷◌, []}
use Rattle.satip_talk_command.proofs.TalkLemmas.{stands_whole, replied_next, message_failed, last_failed}
use Rattle.satip_talk_command.proofs.conversation.Conversation.take_in.Goals as goal

pub requests-init : goal.requests-init
requests-init g c = (
  c.requires.goes_on,
  λ o text stands. stands_whole _ o _ _ text c.args.self.now.framer.bytes _ _ _ c.new-rest.ensures.whole stands,
)

pub requests-preserved : goal.requests-preserved
requests-preserved g c = (
  c.in-Asked.ensures.open (λ is. cc is),
  λ o text stands.
      let before = c.requests.invariant.1 o text stands in
      let next = c.in-Asked.ensures.hears text before.requests before.first in
      record {
        requests = before.requests ++ c.next_asked.new.request ∷ [];
        first = next.first;
        replied = replied_next _ o _ _ _ _ before.requests c.next_asked.new.request _ _ before.replied
            (c.in-Whole.ensures.next before.requests before.replied.answered)
            (c.in-Whole.ensures.gathers before.requests before.replied.answered);
      },
)

pub returns-in-Failed-clause-hears : goal.returns-in-Failed-clause-hears
returns-in-Failed-clause-hears g c = λ o text stands.
    let before = c.requests.invariant.1 o text stands in
    let next = c.in-Asked.ensures.hears text before.requests before.first in
    message_failed _ o _ _ _ text _ before.requests c.next_asked.new.request _ next before.replied
    (c.in-Failed.ensures.gathers before.requests before.replied.answered)

pub returns-in-Whole-reply-clause-hears : goal.returns-in-Whole-reply-clause-hears
returns-in-Whole-reply-clause-hears g c = λ o text stands.
    let before = c.requests.invariant.1 o text stands in
    record {
      before = before.requests;
      request = c.next_asked.new.request;
      last = c.in-Last.ensures.hears text before.requests before.first;
      replied = replied_next _ o _ _ _ _ before.requests c.next_asked.new.request _ _ before.replied
          (c.in-Whole-reply.ensures.next before.requests before.replied.answered)
          (c.in-Whole-reply.ensures.gathers before.requests before.replied.answered);
    }

pub returns-in-Failed-reply-clause-hears : goal.returns-in-Failed-reply-clause-hears
returns-in-Failed-reply-clause-hears g c = λ o text stands.
    let before = c.requests.invariant.1 o text stands in
    let last = c.in-Last.ensures.hears text before.requests before.first in
    last_failed _ o _ _ _ text before.requests c.next_asked.new.request _ last before.replied
    (c.in-Failed-reply.ensures.gathers before.requests before.replied.answered)

pub returns-in-Nothing-clause-hears : goal.returns-in-Nothing-clause-hears
returns-in-Nothing-clause-hears g c = λ o text stands.
    let before = c.requests.invariant.1 o text stands in
    record { requests = before.requests; heard = (c.in-Nothing.ensures.hears text before.requests before.first).0; replied = before.replied }
