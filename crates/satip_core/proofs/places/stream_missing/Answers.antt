use Rattle.std.proofs.Common.{◌∙◌, ℕ, Bool, None, Option, cond, is_none, is_some, option_map, ap}
use Rattle.std.specs.Option.{option_and_then, option_map_or}
use Rattle.satip_rtsp.specs.Methods.{needs_session}
use Rattle.satip_plain.specs.Refusals.{session_named}
use Rattle.satip_plain.specs.State.{stream_of}
use Rattle.satip_core.proofs.PlaceLemmas.{and_same}
use Rattle.satip_core.proofs.places.stream_missing.Goals as goal

pub returns : goal.returns
returns c = record {
  missing = λ cfg st stands meant.
      let own : Option ℕ = cond (needs_session c.args.request.now.method) (option_map (λ s. s.stream) (session_named st c.args.request.now.session)) None in
      and_same c.looks_at_stream.ensures.looks
      (c.is_absent.ensures.absent st
      (λ number e. meant ∙ ap (λ (o : Option ℕ). option_and_then (stream_of st) (cond (is_some o) o own)) e)
      ∙ ap (λ (b : Bool). option_map_or (λ number. is_none (stream_of st number)) c.args.request.now.stream b)
      (and_same c.is_describe.ensures.describe (c.has_no_streams.ensures.none cfg st stands)));
}
