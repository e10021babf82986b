-- Which front ends fit a tuning, and which multiplex it means.
use Rattle.std.specs.Prelude.{ℕ, ◌+◌, ◌==◌, ◌&&◌, nat_le, Bool, true, false, List, Option, None, Some, position}
use Rattle.std.specs.List.{slice_index_or}
use Rattle.std.specs.Option.{option_map}
use Rattle.satip_tune.specs.declared.signal.System.{System}
use Rattle.satip_tune.specs.declared.signal.System.TheVariants.{Dvbs, Dvbs2}
use Rattle.satip_tune.specs.declared.tunings.Tuning.{Tuning}
use Rattle.satip_tune.specs.declared.frontends.Front.{Front}
use Rattle.satip_tune.specs.declared.frontends.Mux.{Mux}
use Rattle.satip_tune.specs.Signal.{pol_eq, system_eq}

-- whether the front end reaches the satellite position
abbrev pub reaches : Front → ℕ → Bool
reaches front src = slice_index_or front.sources src false

-- whether the front end receives the system
abbrev pub receives : Front → System → Bool
receives front Dvbs = slice_index_or front.systems 0 false
receives front Dvbs2 = slice_index_or front.systems 1 false

-- whether the wanted number, if there is one, is this
abbrev pub may_be : Option ℕ → ℕ → Bool
may_be None number = true
may_be (Some wanted) number = wanted == number

-- whether the front end can be tuned to this
abbrev pub fits_of : Front → Tuning → Bool
fits_of front tuning = reaches front tuning.src && receives front tuning.msys && may_be tuning.fe front.number

-- whether two frequencies in kHz are at most 2 MHz apart
abbrev pub is_near : ℕ → ℕ → Bool
is_near a b = nat_le a (b + 2000) && nat_le b (a + 2000)

-- whether a tuning means this multiplex
abbrev pub is_meant_of : Tuning → Mux → Bool
is_meant_of tuning mux =
    mux.src == tuning.src && pol_eq mux.pol tuning.pol && system_eq mux.msys tuning.msys && mux.sr == tuning.sr
    && is_near mux.freq tuning.freq

-- the number, from 1, of the first multiplex that the tuning means
abbrev pub mux_for : List Mux → Tuning → Option ℕ
mux_for muxes tuning = option_map (λ place. place + 1) (position (is_meant_of tuning) muxes)
