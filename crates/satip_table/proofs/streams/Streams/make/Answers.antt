use Rattle.std.proofs.Common.{◌∙◌, ◌+◌, length, get_or, ap, arith}
use Rattle.std.proofs.lemmas.List.{length_push}
use Rattle.satip_table.specs.Numbered.{no_stream}
use Rattle.satip_table.specs.declared.stream.Stream.{Stream}
use Rattle.satip_table.proofs.StreamPlaces.{fresh_number, numbers_push}
use Rattle.satip_table.proofs.streams.Streams.make.Goals as goal

pub loop-place-preserved : goal.loop-place-preserved
loop-place-preserved c =
    let old = c.loop-place.streams.items in
    let items = c.push_reserved.ensures.items in
    let named = ap (λ (s : Stream). s.number) c.new_stream.ensures.fresh ∙ fresh_number (c.loop-place.place + 1) (record { count = 0; word = 0 }) in
    record {
      long = ap length items ∙ length_push old c.new_stream.result ∙ ap (λ n. n + 1) c.loop-place.invariant.long;
      len = c.push_reserved.ensures.len ∙ ap (λ n. n + 1) c.loop-place.invariant.len;
      room = omega (arith, c.loop-place.invariant.room, c.push_reserved.ensures.capacity);
      numbers = λ k below. ap (λ xs. (get_or xs k no_stream).number) items
          ∙ numbers_push old c.loop-place.place c.new_stream.result c.loop-place.invariant.long named c.loop-place.invariant.numbers k below;
    }
