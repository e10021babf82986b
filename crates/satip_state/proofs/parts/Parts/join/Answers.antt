use Rattle.std.proofs.Common.{◌≡◌, ◌∙◌, ◌<◌, ◌||◌, None, Some, true, false, cond, is_none, ap, refl, rules, sym, subst}
use Rattle.std.specs.Option.{option_map}
use Rattle.std.proofs.lemmas.Bool.{or_from, or_right}
use Rattle.satip_plain.specs.State.{stream_of}
use Rattle.satip_plain.specs.Refusals.{is_full}
use Rattle.satip_plain.specs.Steps.{join, next_id}
use Rattle.satip_table.specs.declared.session.NewSession.{NewSession}
use Rattle.satip_state.specs.contracts.parts.Parts.{the_view}
use Rattle.satip_state.specs.Standing.{StandsFor, stream_in}
use Rattle.satip_state.proofs.Looking.{full_looked}
use Rattle.satip_state.proofs.RequestPlay.{front_known, stream_is}
use Rattle.satip_state.proofs.RequestFound.{id_is, joined_stands}
use Rattle.satip_state.proofs.parts.Parts.join.Goals as goal

abbrev new_of : goal.After-begin → NewSession
new_of c = record { http = false; peer = c.args.peer; ports = c.args.ports; draw = c.args.draw; heard = c.self.inside.clock }

pub returns-in_default-clause-made : goal.returns-in_default-clause-made
returns-in_default-clause-made c = λ g st s.
    let was = subst (λ k. StandsFor g k st) (sym c.self.view_is) s in
    let none : stream_of st c.args.number ≡ None = stream_is g (the_view c.self.inside) st was c.args.number
    ∙ ap (option_map stream_in) (sym c.in_default.ensures.found) in
    let refused : (is_full st || is_none (stream_of st c.args.number)) ≡ true = or_right _ _ (ap is_none none) in
    ap (λ b. cond b None (Some (next_id st c.args.draw))) (sym refused)

pub returns-in_default-clause-joined : goal.returns-in_default-clause-joined
returns-in_default-clause-joined c = λ g st s.
    let was = subst (λ k. StandsFor g k st) (sym c.self.view_is) s in
    let none : stream_of st c.args.number ≡ None = stream_is g (the_view c.self.inside) st was c.args.number
    ∙ ap (option_map stream_in) (sym c.in_default.ensures.found) in
    let refused : (is_full st || is_none (stream_of st c.args.number)) ≡ true = or_right _ _ (ap is_none none) in
    subst (λ b. StandsFor g c.args.self.now (cond b st (join false c.args.peer c.args.draw c.args.ports c.args.number st))) (sym refused) s

pub returns-clause-made : goal.returns-clause-made
returns-clause-made c = λ g st s.
    let v = the_view c.self.inside in
    let was = subst (λ k. StandsFor g k st) (sym c.self.view_is) s in
    let full : is_full st ≡ false = sym (full_looked g v st was c.self.invariant.table) ∙ sym c.if-full.ensures.full in
    let there : stream_of st c.args.number ≡ Some (stream_in c.in-Some._stream.now) = stream_is g v st was c.args.number
    ∙ ap (option_map stream_in) (sym c.in-Some.ensures.found) in
    let taken : (is_full st || is_none (stream_of st c.args.number)) ≡ false = or_from _ _ full (ap is_none there) in
    ap Some (id_is g v st was (new_of c) c.join-id.result c.join-id.ensures.id) ∙ ap (λ b. cond b None (Some (next_id st c.args.draw))) (sym taken)

pub returns-clause-joined : goal.returns-clause-joined
returns-clause-joined c = λ g st s.
    let v = the_view c.self.inside in
    let was = subst (λ k. StandsFor g k st) (sym c.self.view_is) s in
    let full : is_full st ≡ false = sym (full_looked g v st was c.self.invariant.table) ∙ sym c.if-full.ensures.full in
    let there : stream_of st c.args.number ≡ Some (stream_in c.in-Some._stream.now) = stream_is g v st was c.args.number
    ∙ ap (option_map stream_in) (sym c.in-Some.ensures.found) in
    let taken : (is_full st || is_none (stream_of st c.args.number)) ≡ false = or_from _ _ full (ap is_none there) in
    let first : c.args.draw.first < 65536 = search rules in
    let front = front_known g v st was c.self.invariant.fronts c.args.number c.in-Some._stream.now (sym c.in-Some.ensures.found) in
    subst (λ b. StandsFor g c.begin.new.self (cond b st (join false c.args.peer c.args.draw c.args.ports c.args.number st))) (sym taken)
    (joined_stands g v c.begin.new.self st was (new_of c) c.join-id.result c.args.number c.in-Some._stream.now c.join-id.new.self c.self.invariant.table
    c.begin.ensures.short first refl
    c.join-id.ensures.id (sym c.in-Some.ensures.found) front c.join-id.ensures.sessions c.join-id.ensures.streams c.join-id.ensures.made c.begin.ensures.begun)
