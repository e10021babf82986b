use Rattle.std.proofs.Common.{◌≡◌, ◌∙◌, ◌<◌, ◌==◌, ℕ, List, None, Some, false, cond, ap, refl, rules, sym, subst}
use Rattle.std.specs.List.{list_any}
use Rattle.satip_plain.specs.State.{Stream}
use Rattle.satip_plain.specs.Refusals.{is_full}
use Rattle.satip_plain.specs.Steps.{found, least_free, next_id}
use Rattle.satip_table.specs.declared.session.NewSession.{NewSession}
use Rattle.satip_state.specs.contracts.parts.Parts.{the_view}
use Rattle.satip_state.specs.Standing.{StandsFor}
use Rattle.satip_state.proofs.Looking.{full_looked}
use Rattle.satip_state.proofs.RequestFound.{found_stands, founded_stream, free_number, id_is, least_is, number_dead, put_found}
use Rattle.satip_state.proofs.RequestStreams.{live_in}
use Rattle.satip_state.proofs.parts.Parts.found.Goals as goal

abbrev new_of : goal.After-begin → NewSession
new_of c = record { http = c.args.http; peer = c.args.peer; ports = c.args.ports; draw = c.args.draw; heard = c.self.inside.clock }

pub returns-clause-made : goal.returns-clause-made
returns-clause-made c = λ g st s.
    let v = the_view c.self.inside in
    let was = subst (λ k. StandsFor g k st) (sym c.self.view_is) s in
    let full : is_full st ≡ false = sym (full_looked g v st was c.self.invariant.table) ∙ sym c.if-full.ensures.full in
    let id : c.found-number.result.0 ≡ next_id st c.args.draw = id_is g v st was (new_of c) c.found-number.result.0 c.found-number.ensures.id in
    let number : c.found-number.result.1 ≡ least_free st.streams =
    sym (least_is v.table st.streams c.found-number.result.1 c.self.invariant.table was.streams
    (free_number v.table c.found-number.result.1 c.self.invariant.table (sym c.if-full.ensures.full) c.found-number.ensures.number)) in
    ap (λ i. Some (i, c.found-number.result.1)) id ∙ ap (λ n. Some (next_id st c.args.draw, n)) number
    ∙ ap (λ b. cond b None (Some (next_id st c.args.draw, least_free st.streams))) (sym full)

pub returns-clause-founded : goal.returns-clause-founded
returns-clause-founded c = λ g st s.
    let v = the_view c.self.inside in
    let was = subst (λ k. StandsFor g k st) (sym c.self.view_is) s in
    let full : is_full st ≡ false = sym (full_looked g v st was c.self.invariant.table) ∙ sym c.if-full.ensures.full in
    let first : c.args.draw.first < 65536 = search rules in
    subst (λ b. StandsFor g c.begin.new.self (cond b st (found c.args.http c.args.peer c.args.draw c.args.ports st))) (sym full)
    (found_stands g v c.begin.new.self st was (new_of c) c.found-number.result.0 c.found-number.result.1 c.found-number.new.self c.self.invariant.table
    c.found-number.ensures.sound (sym c.if-full.ensures.full) c.begin.ensures.short first refl
    c.found-number.ensures.id c.found-number.ensures.number c.found-number.ensures.within c.found-number.ensures.sessions c.found-number.ensures.streams
    c.found-number.ensures.made c.begin.ensures.begun)

pub returns-clause-untuned : goal.returns-clause-untuned
returns-clause-untuned c = λ g st s room.
    let v = the_view c.self.inside in
    let was = subst (λ k. StandsFor g k st) (sym c.self.view_is) s in
    let free = free_number v.table c.found-number.result.1 c.self.invariant.table (sym c.if-full.ensures.full) c.found-number.ensures.number in
    let number : least_free st.streams ≡ c.found-number.result.1 =
    least_is v.table st.streams c.found-number.result.1 c.self.invariant.table was.streams free in
    let dead : list_any (λ (x : Stream). x.number == least_free st.streams) st.streams ≡ false =
    ap (λ (n : ℕ). list_any (λ (x : Stream). x.number == n) st.streams) number
    ∙ ap (λ (ts : List Stream). list_any (λ (x : Stream). x.number == c.found-number.result.1) ts) (sym was.streams)
    ∙ live_in c.found-number.result.1 v.table.streams ∙ number_dead v.table c.found-number.result.1 c.self.invariant.table free in
    put_found (founded_stream (least_free st.streams)) 0 st.streams dead
