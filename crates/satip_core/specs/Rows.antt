-- The id of a session.
use Rattle.std.specs.Prelude.{Option, option_map}
use Rattle.satip_base.specs.declared.identity.SessionId.{SessionId}
use Rattle.satip_core.specs.declared.places.Party.{Party}

-- the id of the session
abbrev pub id_in : Option Party → Option SessionId
id_in session = option_map (λ s. s.id) session
