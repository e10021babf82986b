-- The streams of a description.
use Rattle.std.specs.Prelude.{ℕ, ◌==◌, Bool, true, List, [], ◌∷◌, filter, map, Option, None, Some, if◌then◌else◌}
use Rattle.std.specs.Option.{option_map_or}
use Rattle.satip_rtcp.specs.declared.views.StreamView.{StreamView}
use Rattle.satip_plain.specs.State.{State, Stream}
use Rattle.satip_plain.specs.Steps.{view_of}

-- whether a stream of this number is wanted: the named one, or all
abbrev pub is_wanted_stream : Option ℕ → ℕ → Bool
is_wanted_stream named number = option_map_or (λ n. number == n) named true

-- the stream, if it is wanted
abbrev pub if_wanted : Option ℕ → Option StreamView → List StreamView
if_wanted named None = []
if_wanted named (Some view) = if is_wanted_stream named view.number then view ∷ [] else []

-- the views of the wanted streams
abbrev pub views_of : State → Option ℕ → List Stream → List StreamView
views_of st named streams = map (view_of st) (filter (λ t. is_wanted_stream named t.number) streams)
