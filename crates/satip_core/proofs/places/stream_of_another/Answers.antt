use Rattle.std.proofs.Common.{◌∙◌, ◌==◌, not, false, Option, ap, rules}
use Rattle.std.specs.Option.{option_map_or}
use Rattle.satip_plain.specs.Refusals.{session_named}
use Rattle.satip_core.specs.declared.places.Party.{Party}
use Rattle.satip_core.specs.RefusalRows.{of_another}
use Rattle.satip_core.proofs.PlaceLemmas.{tried_first, failed_first, or_same, another_party}
use Rattle.satip_core.proofs.places.stream_of_another.Goals as goal

pub returns-then-not-used : goal.returns-then-not-used
returns-then-not-used c = record {
  another = λ st names.
      failed_first (option_map_or (λ s. option_map_or (λ number. not (s.stream == number)) c.args.request.now.stream false)
      (session_named st c.args.request.now.session) false)
      (or_same c.is_setup.ensures.setup c.needs_session.ensures.needs) (search rules);
}

pub returns : goal.returns
returns c = record {
  another = λ st names.
      c.is_of_another.ensures.another
      ∙ ap (λ (s : Option Party). of_another s c.args.request.now.stream) names
      ∙ another_party (session_named st c.args.request.now.session) c.args.request.now.stream
      ∙ tried_first (option_map_or (λ s. option_map_or (λ number. not (s.stream == number)) c.args.request.now.stream false)
      (session_named st c.args.request.now.session) false)
      (or_same c.is_setup.ensures.setup c.needs_session.ensures.needs) (search rules);
}
