use Rattle.std.proofs.Common.{◌≡◌, ◌∙◌, [], Bool, Bor, IfOk, None, Option, Some, cond, option_map, true, ap, rules, subst, sym}
use Rattle.satip_pids.specs.Pids.{Pids, Only}
use Rattle.satip_rtsp.specs.Methods.{changes}
use Rattle.satip_table.specs.declared.stream.Stream.{Stream as StreamRow}
use Rattle.satip_plain.specs.State.{Stream}
use Rattle.satip_plain.specs.Refusals.{first_given, of_change, of_query, stream_meant}
use Rattle.satip_state.specs.Looks.{outlook_for}
use Rattle.satip_state.specs.Standing.{stream_in}
use Rattle.satip_core.specs.Finding.{AsksOf}
use Rattle.satip_core.proofs.deciding.decide_asked.Goals as goal

pub returns-in-None-clause-refused : goal.returns-in-None-clause-refused
returns-in-None-clause-refused c = λ cfg st stands meant.
    let r = c.args.request.now in
    let changing : changes r.method ≡ true = search rules in
    c.decide_change.ensures.refused cfg st stands
    ∙ ap (λ (pids : Pids). first_given (of_change cfg st (outlook_for cfg st None) None pids c.makes_session-makes.result r.query)) c.new.ensures.empty
    ∙ ap (λ (makes : Bool). first_given (of_change cfg st (outlook_for cfg st None) None (Only []) makes r.query)) c.makes_session-makes.ensures.makes
    ∙ ap (λ (o : Option (Bor StreamRow)). first_given (of_query cfg st r (option_map (λ s. stream_in s.now) o))) (sym c.in-None.is)
    ∙ ap (λ (o : Option Stream). first_given (of_query cfg st r o)) meant
    ∙ ap (λ (b : Bool). first_given (cond b (of_query cfg st r (stream_meant st r)) [])) (sym changing)

pub returns-in-Some-clause-refused : goal.returns-in-Some-clause-refused
unfolding stream_in
returns-in-Some-clause-refused c = λ cfg st stands meant.
    let r = c.args.request.now in
    let t = c.in-Some.stream.now in
    let changing : changes r.method ≡ true = search rules in
    c.decide_change-in-Some.ensures.refused cfg st stands
    ∙ ap (λ (makes : Bool). first_given (of_change cfg st (outlook_for cfg st (Some t.number)) t.tuning t.pids makes r.query)) c.makes_session-makes.ensures.makes
    ∙ ap (λ (o : Option (Bor StreamRow)). first_given (of_query cfg st r (option_map (λ s. stream_in s.now) o))) (sym c.in-Some.is)
    ∙ ap (λ (o : Option Stream). first_given (of_query cfg st r o)) meant
    ∙ ap (λ (b : Bool). first_given (cond b (of_query cfg st r (stream_meant st r)) [])) (sym changing)

pub returns-in-Some-clause-asked : goal.returns-in-Some-clause-asked
unfolding stream_in
returns-in-Some-clause-asked c = λ changing.
    subst (λ (o : Option (Bor StreamRow)). IfOk c.decide_change-in-Some.result
    (λ tuning. AsksOf (option_map (λ s. stream_in s.now) o) c.args.request.now.query tuning c.decide_change-in-Some.new.pids)) (sym c.in-Some.is)
    c.decide_change-in-Some.ensures.asked
