-- Whether a front end is available for a stream, or for one that isn't created yet.
use Rattle.std.specs.Prelude.{ℕ, ◌≤◌, ◌&&◌, not, Bool, List, Option, None, Some}
use Rattle.std.specs.List.{list_any}
use Rattle.satip_tune.specs.Frontends.{fits_of, mux_for}
use Rattle.satip_tune.specs.declared.frontends.Front.{Front}
use Rattle.satip_tune.specs.declared.tunings.Tuning.{Tuning}
use Rattle.satip_fronts.specs.declared.front_table.FrontRow.{FrontRow}
use Rattle.satip_fronts.specs.Rows.{is_at}
use Rattle.satip_fronts.specs.Choice.{Outlook, blocked, is_tuned_to}
use Rattle.satip_fronts.specs.FrontEnds.{FrontEnds, mux_at, outlook, placed_at}

-- the number of a stream, or none for one that isn't created yet
abbrev pub IsStreamOrNone : Option ℕ → Type 0
IsStreamOrNone None = Unit {0}
IsStreamOrNone (Some stream) = (1 ≤ stream) × (stream ≤ 64)

-- the places of all other streams
abbrev pub other_places : List (Option ℕ) → Option ℕ → List (Option ℕ)
other_places places None = places
other_places places (Some stream) = placed_at places stream None

-- the data for the choice if the stream has no front end yet
unfoldable pub new_outlook : FrontEnds → Outlook
new_outlook v = record {
  fronts = v.fronts;
  mux_at = mux_at v.rows;
  own = None;
  shared = λ front. list_any (is_at front) v.places;
}

-- the data for the choice, for a stream or for one that isn't created yet
abbrev pub outlook_for : FrontEnds → Option ℕ → Outlook
outlook_for v None = new_outlook v
outlook_for v (Some stream) = outlook v stream

-- whether no front end is available for the stream with this tuning
unfoldable pub blocked_for : FrontEnds → Option ℕ → Tuning → Bool
blocked_for v stream tuning = blocked (outlook_for v stream) (mux_for v.muxes tuning) tuning

-- whether the front end fits, and is tuned to the wanted multiplex or at none of these places
abbrev pub is_open : List FrontRow → Option ℕ → List (Option ℕ) → Tuning → Front → Bool
is_open rows wanted places tuning front =
    fits_of front tuning && not (list_any (is_at front.number) places && not (is_tuned_to wanted (mux_at rows front.number)))
