use Rattle.std.proofs.Common.{◌≡◌, ◌∙◌, Option, None, Some, option_map, refl, ap, sym}
use Rattle.satip_rtsp.specs.declared.requests.SessionName.{SessionName}
use Rattle.satip_table.specs.declared.session.Session.{Session as Row}
use Rattle.satip_plain.specs.State.{Session, rtsp_session}
use Rattle.satip_plain.specs.Refusals.{session_named}
use Rattle.satip_state.specs.Seated.{row_of}
use Rattle.satip_core.specs.declared.places.Party.{Party}
use Rattle.satip_core.specs.RefusalRows.{party_of}
use Rattle.satip_core.proofs.places.session_named.Goals as goal

abbrev party_in : Row → Party
party_in row = record { id = row.id; stream = row.stream }

party_row : (o : Option Session) → option_map party_in (option_map row_of o) ≡ option_map party_of o
unfolding row_of
party_row None = refl
party_row (Some s) = refl

pub returns-in-None-clause-named : goal.returns-in-None-clause-named
returns-in-None-clause-named c = λ cfg st stands.
    ap (option_map party_in) (c.in-None.ensures.session cfg st stands) ∙ party_row (rtsp_session st c.in-Named.id)
    ∙ ap (λ (name : SessionName). option_map party_of (session_named st name)) (sym c.in-Named.is)

pub returns-in-Some-clause-named : goal.returns-in-Some-clause-named
returns-in-Some-clause-named c = λ cfg st stands.
    ap (option_map party_in) (c.in-Some.ensures.session cfg st stands) ∙ party_row (rtsp_session st c.in-Named.id)
    ∙ ap (λ (name : SessionName). option_map party_of (session_named st name)) (sym c.in-Named.is)

pub returns-in-Some-clause-found : goal.returns-in-Some-clause-found
returns-in-Some-clause-found c = λ cfg st stands. record {
  rtsp = c.in-Some.ensures.rtsp cfg st stands;
  housed = c.in-Some.ensures.housed cfg st stands;
}
