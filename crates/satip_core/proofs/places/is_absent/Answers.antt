use Rattle.std.proofs.Common.{◌∙◌, Option, ℕ, Bor, ap, sym, is_none}
use Rattle.std.specs.Option.{option_map_or}
use Rattle.satip_plain.specs.State.{stream_of}
use Rattle.satip_table.specs.declared.stream.Stream.{Stream as StreamRow}
use Rattle.satip_state.specs.Standing.{stream_in}
use Rattle.satip_core.proofs.PlaceLemmas.{none_is, none_mapped}
use Rattle.satip_core.proofs.places.is_absent.Goals as goal

pub returns-in-Some : goal.returns-in-Some
returns-in-Some c = record {
  absent = λ st named.
      none_is c.args.stream c.is_none.result c.is_none.ensures ∙ sym (none_mapped (λ (s : Bor StreamRow). stream_in s.now) c.args.stream)
      ∙ ap is_none (named _ c.in-Some.is)
      ∙ ap (λ (stream : Option ℕ). option_map_or (λ number. is_none (stream_of st number)) stream c.args.otherwise) (sym c.in-Some.is);
}
