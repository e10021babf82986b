-- The place of a stream, in a plain state.
use Rattle.std.specs.Prelude.{ℕ}
use Rattle.std.specs.Option.{option_map_or}
use Rattle.satip_tune.specs.declared.tunings.Tuning.{Tuning}
use Rattle.satip_tune.specs.Frontends.{mux_for}
use Rattle.satip_fronts.specs.Choice.{choose}
use Rattle.satip_plain.specs.Types.{Config}
use Rattle.satip_plain.specs.State.{State}
use Rattle.satip_plain.specs.Streams.{outlook_of, put_at}

-- puts the stream at the front end that is chosen for this tuning; if none is available nothing changes
abbrev pub placed_in : Config → ℕ → Tuning → State → State
placed_in c number tuning st = option_map_or (put_at c number tuning st) (choose (outlook_of c st number) (mux_for c.muxes tuning) tuning) st
