use Rattle.std.proofs.Common.{◌∙◌, Option, Some, None, ap}
use Rattle.satip_flow.specs.declared.place.SenderState.{SenderState}
use Rattle.satip_state.specs.Kept.{Kept}
use Rattle.satip_state.specs.Looks.{kept_number, sender_in}
use Rattle.satip_state.proofs.Numbering.{number_looked}
use Rattle.satip_state.proofs.parts.Parts.next_number.Goals as goal

pub returns-in-None : goal.returns-in-None
returns-in-None c = record {
  number = λ cfg st stands.
      number_looked cfg c.args.self.now st c.args.id None stands c.in-None.ensures.table c.in-None.ensures.seat;
}

pub returns-in-Some : goal.returns-in-Some
returns-in-Some c = record {
  number = λ cfg st stands.
      c.number_after.ensures.number
      ∙ ap (λ (s : Option SenderState). kept_number s (Some c.in-Some.seat)) (c.state.ensures.state
      ∙ ap (λ (v : Kept). sender_in v (Some c.in-Some.seat)) c.self.view_is)
      ∙ number_looked cfg c.args.self.now st c.args.id (Some c.in-Some.seat) stands c.in-Some.ensures.table c.in-Some.ensures.seat;
}
