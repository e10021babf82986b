use Rattle.std.proofs.Common.{◌≡◌, ◌∙◌, Bool, None, true, cond, option_map, ap, sym, rules}
use Rattle.satip_plain.specs.Refusals.{session_named}
use Rattle.satip_rtsp.specs.Methods.{needs_session}
use Rattle.satip_core.specs.RefusalRows.{number_in}
use Rattle.satip_core.proofs.PlaceLemmas.{number_party}
use Rattle.satip_core.proofs.places.own_number.Goals as goal

pub returns-in-None : goal.returns-in-None
returns-in-None c = record {
  number = λ st names.
      let needed : needs_session c.args.request.now.method ≡ true = search rules in
      ap number_in (sym c.in-None.is ∙ names) ∙ number_party (session_named st c.args.request.now.session)
      ∙ ap (λ (needs : Bool). cond needs (option_map (λ s. s.stream) (session_named st c.args.request.now.session)) None) (sym needed);
}

pub returns-in-Some : goal.returns-in-Some
returns-in-Some c = record {
  number = λ st names.
      let needed : needs_session c.args.request.now.method ≡ true = search rules in
      ap number_in (sym c.in-Some.is ∙ names) ∙ number_party (session_named st c.args.request.now.session)
      ∙ ap (λ (needs : Bool). cond needs (option_map (λ s. s.stream) (session_named st c.args.request.now.session)) None) (sym needed);
}
