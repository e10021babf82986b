use Rattle.std.proofs.Common.{◌∙◌, Option, ℕ, ap}
use Rattle.std.specs.Option.{option_and_then}
use Rattle.satip_plain.specs.State.{stream_of}
use Rattle.satip_core.proofs.places.stream_meant.Goals as goal

pub returns-in-None : goal.returns-in-None
returns-in-None c = record {
  stream = λ cfg st stands names. ap (λ (n : Option ℕ). option_and_then (stream_of st) n) (c.in-None.ensures.number st names);
}

pub returns-in-Some : goal.returns-in-Some
returns-in-Some c = record {
  stream = λ cfg st stands names. c.stream.ensures.stream cfg st stands
      ∙ ap (λ (n : Option ℕ). option_and_then (stream_of st) n) (c.in-Some.ensures.number st names);
}
