use Rattle.std.proofs.Common.{◌≡◌, true, false, Some, None, find, sym, ap, subst, ◌∙◌, rules}
use Rattle.satip_table.specs.Sessions.{has_id_of}
use Rattle.satip_plain.specs.Steps.{Outcome}
use Rattle.satip_state.specs.Standing.{Moved}
use Rattle.satip_state.proofs.Pulls.{no_session, no_http, close_gone, gone_moved, pulls, close_is, close_silent}
use Rattle.satip_state.proofs.parts.Parts.close.Goals as goal

pub returns-in_default-clause-answer : goal.returns-in_default-clause-answer
returns-in_default-clause-answer c config st stands =
    let none : None ≡ find (has_id_of c.args.id) c.args.self.now.table.seats = search rules in
    sym (ap (λ (out : Outcome). out.answer) (close_gone st c.args.id (no_session config c.args.self.now st stands c.args.id none)))

pub returns-in_default-clause-moved : goal.returns-in_default-clause-moved
returns-in_default-clause-moved c config st stands =
    let none : None ≡ find (has_id_of c.args.id) c.args.self.now.table.seats = search rules in
    gone_moved config c.args.self.now c.args.out.now st stands _ (close_gone st c.args.id (no_session config c.args.self.now st stands c.args.id none))

pub returns-in_default-clause-silent : goal.returns-in_default-clause-silent
returns-in_default-clause-silent c config st stands =
    let none : None ≡ find (has_id_of c.args.id) c.args.self.now.table.seats = search rules in
    ap (λ (out : Outcome). out.sent) (close_gone st c.args.id (no_session config c.args.self.now st stands c.args.id none))

pub returns-then-not-seat-clause-answer : goal.returns-then-not-seat-clause-answer
returns-then-not-seat-clause-answer c config st stands =
    let at : find (has_id_of c.args.id) c.args.self.now.table.seats ≡ Some c.in-Some.seat = search rules in
    let rtsp : c.in-Some.seat.session.http ≡ false = search rules in
    sym (ap (λ (out : Outcome). out.answer)
    (close_gone st c.args.id (no_http config c.args.self.now st stands c.in-Some.ensures.table c.args.id c.in-Some.seat at rtsp)))

pub returns-then-not-seat-clause-moved : goal.returns-then-not-seat-clause-moved
returns-then-not-seat-clause-moved c config st stands =
    let at : find (has_id_of c.args.id) c.args.self.now.table.seats ≡ Some c.in-Some.seat = search rules in
    let rtsp : c.in-Some.seat.session.http ≡ false = search rules in
    gone_moved config c.args.self.now c.args.out.now st stands _
    (close_gone st c.args.id (no_http config c.args.self.now st stands c.in-Some.ensures.table c.args.id c.in-Some.seat at rtsp))

pub returns-then-not-seat-clause-silent : goal.returns-then-not-seat-clause-silent
returns-then-not-seat-clause-silent c config st stands =
    let at : find (has_id_of c.args.id) c.args.self.now.table.seats ≡ Some c.in-Some.seat = search rules in
    let rtsp : c.in-Some.seat.session.http ≡ false = search rules in
    ap (λ (out : Outcome). out.sent)
    (close_gone st c.args.id (no_http config c.args.self.now st stands c.in-Some.ensures.table c.args.id c.in-Some.seat at rtsp))

pub returns-clause-answer : goal.returns-clause-answer
returns-clause-answer c config st stands =
    let at : find (has_id_of c.args.id) c.args.self.now.table.seats ≡ Some c.in-Some.seat = search rules in
    let http : c.in-Some.seat.session.http ≡ true = search rules in
    let p = pulls config c.args.self.now st stands c.in-Some.ensures.table c.args.id c.in-Some.seat at http in
    sym (ap (λ (out : Outcome). out.answer) (close_is config c.args.self.now st stands c.args.id c.in-Some.seat p))

pub returns-clause-moved : goal.returns-clause-moved
returns-clause-moved c config st stands =
    let at : find (has_id_of c.args.id) c.args.self.now.table.seats ≡ Some c.in-Some.seat = search rules in
    let http : c.in-Some.seat.session.http ≡ true = search rules in
    let p = pulls config c.args.self.now st stands c.in-Some.ensures.table c.args.id c.in-Some.seat at http in
    subst (λ (out : Outcome). Moved config c.end_session-lived.new.self c.args.out.now c.end_session-lived.new.out
    (record { state = out.state; sent = out.sent })) (sym (close_is config c.args.self.now st stands c.args.id c.in-Some.seat p))
    (c.end_session-lived.ensures.moved config st stands)

pub returns-clause-silent : goal.returns-clause-silent
returns-clause-silent c config st stands =
    let at : find (has_id_of c.args.id) c.args.self.now.table.seats ≡ Some c.in-Some.seat = search rules in
    let http : c.in-Some.seat.session.http ≡ true = search rules in
    let p = pulls config c.args.self.now st stands c.in-Some.ensures.table c.args.id c.in-Some.seat at http in
    ap (λ (out : Outcome). out.sent) (close_is config c.args.self.now st stands c.args.id c.in-Some.seat p)
    ∙ close_silent config c.args.self.now st stands c.args.id c.in-Some.seat p
