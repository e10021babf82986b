-- What worked runs show of the words of the ending, busy and pull laws, for HTTP sessions.
use Rattle.std.specs.Prelude.{ℕ, ◌+◌, nat_le, Bool, List, [], ◌∷◌, replicate, None}
use Rattle.satip_plain.specs.Types.{SessionId}
use Rattle.satip_plain.specs.declared.events.Event.{Event}
use Rattle.satip_plain.specs.declared.events.Event.TheVariants.{Get as GetAsked}
use Rattle.satip_plain.specs.Refusals.{front_missing}
use Rattle.satip_plain.specs.Steps.{most_queued}
use Rattle.satip_plain.specs.Readings.{Readings, outlook_in, next_made}
use Rattle.satip_plain.specs.Examples.{config, get_second, id_of, one, draw_one, packet_of, to_unknown, with_change}
use Rattle.satip_laws.specs.Ending.{is_ended_by}
use Rattle.satip_laws.specs.Rows.{told, one_more}

-- the session that a GET makes first
abbrev pub viewer : SessionId
viewer = id_of 1 10

-- what is read where so many packets are selected for it, and so many of them were pulled
abbrev pub behind : ℕ → ℕ → Readings
behind selected pulled = record (told (get_second ∷ [])) {
  selected = λ s. replicate selected (packet_of 400);
  pulled = λ s. replicate pulled (packet_of 400);
}

-- whether one more event then ends it
abbrev pub ends_behind : ℕ → ℕ → Event → Bool
ends_behind selected pulled e = is_ended_by config (behind selected pulled) (one_more (get_second ∷ []) e) viewer

-- whether what was pulled may be so far behind while the session lives
abbrev pub is_near : ℕ → ℕ → Bool
is_near selected pulled = nat_le selected (pulled + most_queued)

-- a GET of a tuning that there is no multiplex for, and whether no front end is to be had for it
abbrev pub get_unknown : Event
get_unknown = GetAsked one draw_one (record { refusal = None; query = with_change to_unknown })

abbrev pub get_finds_none : List Event → Bool
get_finds_none es =
    let g = told es in
    let home = next_made g draw_one.word in
    front_missing config (outlook_in config g home) (g.tuned home) to_unknown

-- what a GET behind a run is answered
abbrev pub answer_to_get : List Event → List ℕ
answer_to_get es = (one_more es get_unknown).out.reply
