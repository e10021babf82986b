use Rattle.std.proofs.Common.{◌≡◌, true, Some, None, find, sym, ap, subst, ◌∙◌, rules}
use Rattle.std.specs.List.{slice_get}
use Rattle.std.specs.Option.{option_map}
use Rattle.satip_table.specs.Living.{Sound}
use Rattle.satip_table.specs.Streams.{has_number}
use Rattle.satip_flow.specs.Subscription.{sender_state}
use Rattle.satip_flow.specs.Subscriptions.{packing_of_slot}
use Rattle.satip_state.specs.Kept.{Kept}
use Rattle.satip_state.specs.Standing.{StandsFor}
use Rattle.satip_state.specs.Turns.{is_row_due}
use Rattle.satip_state.specs.Views.{kept_view}
use Rattle.satip_state.proofs.Viewing.{view_numbered}
use Rattle.satip_state.proofs.Reports.{report_seat, view_there, packer_there}
use Rattle.satip_state.proofs.parts.Parts.report.Goals as goal

pub returns-in_default-clause-moved : goal.returns-in_default-clause-moved
returns-in_default-clause-moved c config st place stands same got due =
    let sound : Sound c.args.self.now.table = subst (λ (v : Kept). Sound v.table) c.self.view_is c.self.invariant.table in
    let number = c.args.seat.now.session.stream in
    let found : None ≡ find (has_number number) c.args.self.now.table.streams = search rules in
    let none = ap (option_map (kept_view c.args.self.now)) found ∙ view_numbered config c.args.self.now st stands number in
    absurd (view_there config c.args.self.now st stands sound place c.args.seat.now got none)

pub returns-in_default-state-clause-moved : goal.returns-in_default-state-clause-moved
returns-in_default-state-clause-moved c config st place stands same got due =
    let sound : Sound c.args.self.now.table = subst (λ (v : Kept). Sound v.table) c.self.view_is c.self.invariant.table in
    let none : None ≡ sender_state (packing_of_slot c.args.seat.now.slot c.self.inside.flow) = c.in_default-state.ensures.state in
    absurd (packer_there config c.args.self.now st stands sound place c.args.seat.now got due
    (none ∙ ap (λ (v : Kept). sender_state (packing_of_slot c.args.seat.now.slot v.flow)) c.self.view_is))

pub returns-clause-moved : goal.returns-clause-moved
returns-clause-moved c config st place stands same got due =
    let inside : Kept = record {
      clock = c.self.inside.clock;
      stopped = c.self.inside.stopped;
      timeout = c.self.inside.timeout;
      table = c.self.inside.table;
      dues = c.self.inside.timer;
      fronts = c.self.inside.fronts;
      flow = c.self.inside.flow;
    } in
    let is : c.args.self.now ≡ inside = sym c.self.view_is in
    let number = c.args.seat.now.session.stream in
    let found : Some c.in-Some.stream.now ≡ find (has_number number) c.args.self.now.table.streams = search rules in
    let view = ap Some c.shown-view.ensures.view ∙ ap (option_map (kept_view c.args.self.now)) found ∙ view_numbered config c.args.self.now st stands number in
    report_seat config inside c.args.out.now c.write_report.new.out st (subst (λ (v : Kept). StandsFor config v st) is stands) c.self.invariant.table
    place c.args.seat.now (subst (λ (v : Kept). slice_get v.table.seats place ≡ Some c.args.seat.now) is got)
    (subst (λ (v : Kept). is_row_due v.clock c.args.seat.now.session ≡ true) is due)
    c.shown-view.result view
    c.in-Some-state.sent c.in-Some-state.ensures.state
    c.sender_of_session-sender.result c.sender_of_session-sender.ensures.to c.sender_of_session-sender.ensures.ssrc c.sender_of_session-sender.ensures.clock
    c.sender_of_session-sender.ensures.datagrams c.sender_of_session-sender.ensures.octets (c.sender_of_session-sender.ensures.address ∙ same)
    c.write_report.ensures.sent
    c.reported-lived.new.self c.reported-lived.ensures.reported
