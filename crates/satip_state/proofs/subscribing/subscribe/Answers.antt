use Rattle.std.proofs.Common.{◌∙◌, ap}
use Rattle.std.specs.List.{list_any}
use Rattle.satip_flow.specs.Subscription.{has_slot}
use Rattle.satip_state.proofs.RequestPlay.{subscribed_address, subscribed_queue, without_free}
use Rattle.satip_state.proofs.subscribing.subscribe.Goals as goal

pub add_http-requires-clause-free : goal.add_http-requires-clause-free
add_http-requires-clause-free c = ap (list_any (has_slot c.args.slot)) c.end.ensures.gone ∙ without_free c.args.slot c.args.flow.now

pub add_rtp-requires-clause-free : goal.add_rtp-requires-clause-free
add_rtp-requires-clause-free c = ap (list_any (has_slot c.args.slot)) c.end.ensures.gone ∙ without_free c.args.slot c.args.flow.now

pub returns-then-session : goal.returns-then-session
returns-then-session c = record {
  added = λ known. subscribed_queue c.args.slot c.args.session.now c.args.stream.now c.known_front-front.result c.args.flow.now c.end.new.self
      c.add_http.new.self
      c.if-session.true (c.known_front-front.ensures.same known) c.end.ensures.gone c.add_http.ensures.added;
}

pub returns-else-session : goal.returns-else-session
returns-else-session c = record {
  added = λ known. subscribed_address c.args.slot c.args.session.now c.args.stream.now c.known_front-front.result c.args.flow.now c.end.new.self
      c.add_rtp.new.self
      c.if-session.false (c.known_front-front.ensures.same known) c.end.ensures.gone c.add_rtp.ensures.added;
}
