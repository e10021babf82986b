use Rattle.std.proofs.Common.{◌≡◌, ℕ, ◌-◌, length, true, false, List, Some, None, find, sym, ap, subst, ◌∙◌, rules}
use Rattle.satip_base.specs.Output.{Wrote}
use Rattle.satip_table.specs.Sessions.{has_id_of}
use Rattle.satip_plain.specs.Steps.{Outcome}
use Rattle.satip_plain.specs.declared.answers.Answer.TheVariants.{Pulled as PulledIs}
use Rattle.satip_state.specs.Pulling.{pulled_is}
use Rattle.satip_state.specs.Kept.{Kept}
use Rattle.satip_state.specs.Standing.{StandsFor}
use Rattle.satip_state.proofs.Pulls.{no_session, no_http, pull_gone, nothing_written, pulls, pull_wrote, pull_answered, pull_stands}
use Rattle.satip_state.proofs.parts.Parts.pull.Goals as goal

pub returns-in_default-clause-answer : goal.returns-in_default-clause-answer
returns-in_default-clause-answer c config st stands =
    let none : None ≡ find (has_id_of c.args.id) c.args.self.now.table.seats = search rules in
    sym (ap (λ (out : Outcome). out.answer) (pull_gone st c.args.id (no_session config c.args.self.now st stands c.args.id none)))

pub returns-in_default-clause-stands : goal.returns-in_default-clause-stands
returns-in_default-clause-stands c config st stands =
    let none : None ≡ find (has_id_of c.args.id) c.args.self.now.table.seats = search rules in
    subst (λ (out : Outcome). StandsFor config c.args.self.now out.state)
    (sym (pull_gone st c.args.id (no_session config c.args.self.now st stands c.args.id none))) stands

pub returns-in_default-clause-wrote : goal.returns-in_default-clause-wrote
returns-in_default-clause-wrote c config st stands =
    let none : None ≡ find (has_id_of c.args.id) c.args.self.now.table.seats = search rules in
    subst (λ (out : Outcome). Wrote c.args.out.now out.reply c.args.out.now)
    (sym (pull_gone st c.args.id (no_session config c.args.self.now st stands c.args.id none))) (nothing_written c.args.out.now)

pub returns-then-not-seat-clause-answer : goal.returns-then-not-seat-clause-answer
returns-then-not-seat-clause-answer c config st stands =
    let at : find (has_id_of c.args.id) c.args.self.now.table.seats ≡ Some c.in-Some.seat = search rules in
    let rtsp : c.in-Some.seat.session.http ≡ false = search rules in
    sym (ap (λ (out : Outcome). out.answer)
    (pull_gone st c.args.id (no_http config c.args.self.now st stands c.in-Some.ensures.table c.args.id c.in-Some.seat at rtsp)))

pub returns-then-not-seat-clause-stands : goal.returns-then-not-seat-clause-stands
returns-then-not-seat-clause-stands c config st stands =
    let at : find (has_id_of c.args.id) c.args.self.now.table.seats ≡ Some c.in-Some.seat = search rules in
    let rtsp : c.in-Some.seat.session.http ≡ false = search rules in
    subst (λ (out : Outcome). StandsFor config c.args.self.now out.state)
    (sym (pull_gone st c.args.id (no_http config c.args.self.now st stands c.in-Some.ensures.table c.args.id c.in-Some.seat at rtsp))) stands

pub returns-then-not-seat-clause-wrote : goal.returns-then-not-seat-clause-wrote
returns-then-not-seat-clause-wrote c config st stands =
    let at : find (has_id_of c.args.id) c.args.self.now.table.seats ≡ Some c.in-Some.seat = search rules in
    let rtsp : c.in-Some.seat.session.http ≡ false = search rules in
    subst (λ (out : Outcome). Wrote c.args.out.now out.reply c.args.out.now)
    (sym (pull_gone st c.args.id (no_http config c.args.self.now st stands c.in-Some.ensures.table c.args.id c.in-Some.seat at rtsp)))
    (nothing_written c.args.out.now)

pub returns-clause-answer : goal.returns-clause-answer
returns-clause-answer c config st stands =
    let inside : Kept = record {
      clock = c.self.inside.clock;
      stopped = c.self.inside.stopped;
      timeout = c.self.inside.timeout;
      table = c.self.inside.table;
      dues = c.self.inside.timer;
      fronts = c.self.inside.fronts;
      flow = c.self.inside.flow;
    } in
    let same : c.args.self.now ≡ inside = sym c.self.view_is in
    let now : StandsFor config inside st = subst (λ (v : Kept). StandsFor config v st) same stands in
    let at : find (has_id_of c.args.id) c.args.self.now.table.seats ≡ Some c.in-Some.seat = search rules in
    let there : find (has_id_of c.args.id) inside.table.seats ≡ Some c.in-Some.seat =
    subst (λ (v : Kept). find (has_id_of c.args.id) v.table.seats ≡ Some c.in-Some.seat) same at in
    let http : c.in-Some.seat.session.http ≡ true = search rules in
    let p = pulls config inside st now c.self.invariant.table c.args.id c.in-Some.seat there http in
    let bytes : c.saturating_sub.result ≡ length c.pull-moved.new.out.reply - length c.args.out.now.reply =
    c.saturating_sub.ensures
    ∙ ap (λ (xs : List ℕ). length xs - length c.reply-before.result.now) c.reply.ensures.reply
    ∙ ap (λ (xs : List ℕ). length c.pull-moved.new.out.reply - length xs) c.reply-before.ensures.reply in
    ap (λ w. PulledIs w) (c.pulled_of.ensures.pulled ∙ ap (pulled_is c.pull-moved.result) bytes)
    ∙ pull_answered config inside c.args.out.now c.pull-moved.new.out st now c.args.id c.in-Some.seat p c.pull-moved.ensures.wrote c.pull-moved.result
    c.pull-moved.ensures.bytes

pub returns-clause-stands : goal.returns-clause-stands
returns-clause-stands c config st stands =
    let inside : Kept = record {
      clock = c.self.inside.clock;
      stopped = c.self.inside.stopped;
      timeout = c.self.inside.timeout;
      table = c.self.inside.table;
      dues = c.self.inside.timer;
      fronts = c.self.inside.fronts;
      flow = c.self.inside.flow;
    } in
    let same : c.args.self.now ≡ inside = sym c.self.view_is in
    let now : StandsFor config inside st = subst (λ (v : Kept). StandsFor config v st) same stands in
    let at : find (has_id_of c.args.id) c.args.self.now.table.seats ≡ Some c.in-Some.seat = search rules in
    let there : find (has_id_of c.args.id) inside.table.seats ≡ Some c.in-Some.seat =
    subst (λ (v : Kept). find (has_id_of c.args.id) v.table.seats ≡ Some c.in-Some.seat) same at in
    let http : c.in-Some.seat.session.http ≡ true = search rules in
    let p = pulls config inside st now c.self.invariant.table c.args.id c.in-Some.seat there http in
    pull_stands config inside c.hear.new.self st now c.args.id c.in-Some.seat p c.pull-moved.new.self c.pull-moved.ensures.pulled
    (λ later after. c.hear.ensures.heard config later after)

pub returns-clause-wrote : goal.returns-clause-wrote
returns-clause-wrote c config st stands =
    let inside : Kept = record {
      clock = c.self.inside.clock;
      stopped = c.self.inside.stopped;
      timeout = c.self.inside.timeout;
      table = c.self.inside.table;
      dues = c.self.inside.timer;
      fronts = c.self.inside.fronts;
      flow = c.self.inside.flow;
    } in
    let same : c.args.self.now ≡ inside = sym c.self.view_is in
    let now : StandsFor config inside st = subst (λ (v : Kept). StandsFor config v st) same stands in
    let at : find (has_id_of c.args.id) c.args.self.now.table.seats ≡ Some c.in-Some.seat = search rules in
    let there : find (has_id_of c.args.id) inside.table.seats ≡ Some c.in-Some.seat =
    subst (λ (v : Kept). find (has_id_of c.args.id) v.table.seats ≡ Some c.in-Some.seat) same at in
    let http : c.in-Some.seat.session.http ≡ true = search rules in
    let p = pulls config inside st now c.self.invariant.table c.args.id c.in-Some.seat there http in
    pull_wrote config inside c.args.out.now c.pull-moved.new.out st now c.args.id c.in-Some.seat p c.pull-moved.ensures.wrote
