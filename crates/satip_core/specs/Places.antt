-- The causes for which a request is refused, by the part of the request that they concern.
use Rattle.std.specs.Prelude.{◌&&◌, not, List, [], ◌∷◌, ◌++◌, Option, is_none, if◌then◌else◌}
use Rattle.satip_plain.specs.Types.{Config, Request}
use Rattle.satip_plain.specs.State.{State}
use Rattle.satip_plain.specs.Refusals.{Refused, where_true, plainly, telling, session_missing, stream_missing, stream_of_another, not_owner, of_query, stream_meant}
use Rattle.satip_rtsp.specs.Methods.{is_setup, names_none, changes}
use Rattle.satip_query.specs.declared.bodies.RefusalBody.TheVariants.{NotOwner}

-- the refusals of a message without a fault: those of its query are last
abbrev pub of_asked : Config → State → Request → List (Option Refused)
of_asked c st r = if changes r.method then of_query c st r (stream_meant st r) else []

-- before them, the refusals of a SETUP that lacks a stream or ports
abbrev pub setup_before : Request → List (Option Refused)
setup_before r =
    where_true (is_setup r.method && not (names_none r.session) && is_none r.stream) (plainly 455)
    ∷ where_true (is_setup r.method && is_none r.ports) (plainly 461)
    ∷ []

-- before these, the refusals of its session and its stream
abbrev pub names_before : State → Request → List (Option Refused)
names_before st r =
    where_true (session_missing st r) (plainly 454)
    ∷ where_true (stream_missing st r) (plainly 404)
    ∷ where_true (stream_of_another st r) (plainly 454)
    ∷ where_true (not_owner st r) (telling 403 NotOwner)
    ∷ []

-- the refusals of a message without a fault
abbrev pub of_names : Config → State → Request → List (Option Refused)
of_names c st r = names_before st r ++ (setup_before r ++ of_asked c st r)
