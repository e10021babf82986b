use Rattle.std.proofs.Common.{◌≡◌, ◌∙◌, Bool, Bor, not, false, Option, option_map, ap, sym, rules}
use Rattle.std.specs.Option.{option_map_or}
use Rattle.satip_base.specs.declared.identity.SessionId.{SessionId}
use Rattle.satip_table.specs.declared.stream.Stream.{Stream as StreamRow}
use Rattle.satip_plain.specs.State.{Stream}
use Rattle.satip_plain.specs.Refusals.{session_named, stream_meant, owns}
use Rattle.satip_state.specs.Standing.{stream_in}
use Rattle.satip_core.specs.declared.places.Party.{Party}
use Rattle.satip_core.specs.RefusalRows.{owns_of, party_of}
use Rattle.satip_core.proofs.PlaceLemmas.{tried_first, failed_first, and_same, owns_party}
use Rattle.satip_core.proofs.places.not_owner.Goals as goal

pub returns-then-not-given : goal.returns-then-not-given
returns-then-not-given c = record {
  other = λ cfg st stands names meant.
      failed_first (option_map_or (λ (t : Stream). not (owns st t.number (session_named st c.args.request.now.session)))
      (stream_meant st c.args.request.now) false)
      (and_same c.changes.ensures.changes c.any.ensures.given) (search rules);
}

pub returns-in-None : goal.returns-in-None
returns-in-None c = record {
  other = λ cfg st stands names meant.
      let rest : Option Stream → Bool = λ t. option_map_or (λ (t : Stream). not (owns st t.number (session_named st c.args.request.now.session))) t false in
      ap (λ (o : Option (Bor StreamRow)). rest (option_map (λ s. stream_in s.now) o)) (sym c.in-None.is) ∙ ap rest meant
      ∙ tried_first (rest (stream_meant st c.args.request.now)) (and_same c.changes.ensures.changes c.any.ensures.given) (search rules);
}

pub returns-in-Some : goal.returns-in-Some
unfolding stream_in
returns-in-Some c = record {
  other = λ cfg st stands names meant.
      let named = session_named st c.args.request.now.session in
      let rest : Option Stream → Bool = λ t. option_map_or (λ (t : Stream). not (owns st t.number named)) t false in
      let owned : c.is_owner.result ≡ owns st c.in-Some.stream.now.number named =
      c.is_owner.ensures.owns
      ∙ ap (λ (s : Option Party). owns_of s c.owner.result) names
      ∙ ap (λ (o : Option SessionId). owns_of (option_map party_of named) o) (c.owner.ensures.owner cfg st stands)
      ∙ owns_party st c.in-Some.stream.now.number named in
      ap not owned ∙ ap (λ (o : Option (Bor StreamRow)). rest (option_map (λ s. stream_in s.now) o)) (sym c.in-Some.is) ∙ ap rest meant
      ∙ tried_first (rest (stream_meant st c.args.request.now)) (and_same c.changes.ensures.changes c.any.ensures.given) (search rules);
}
