use Rattle.std.proofs.Common.{◌∙◌, ap}
use Rattle.satip_desk.specs.Handed.{Handed}
use Rattle.satip_recorder.specs.Outsides.{device_tells}
use Rattle.satip_recorder.specs.Words.{wanted}
use Rattle.satip_recorder.proofs.EndLemmas.{all_given}
use Rattle.satip_recorder.proofs.command.record.Goals as goal

pub returns-clause-ends : goal.returns-clause-ends
returns-clause-ends g c = λ i.
    rw c.outcome_of.ensures.outcome (all_given (device_tells g.K.Wire.Conn.tells g.K.Inlet.Inlet.tells g.O.Sink.tells g.E.Sink.tells) (wanted c.args.recording.now)
    _ _ _ _ _ _ _ _ i _ _ _ _ c.record_by-recorded.result.end
    (ap (λ (h : Handed). h.wire) c.in-Ok-inlet.ensures.handed ∙ ap (λ (h : Handed). h.wire) c.in-Ok.ensures.handed)
    (ap (λ (h : Handed). h.moment) c.in-Ok-inlet.ensures.handed ∙ ap (λ (h : Handed). h.moment) c.in-Ok.ensures.handed
    ∙ ap (λ (h : Handed). h.moment) c.moment-moment.ensures.handed)
    (ap (λ (h : Handed). h.inlet) c.in-Ok-inlet.ensures.handed)
    (c.in-Ok-inlet.ensures.no_fault ∙ c.in-Ok.ensures.no_fault ∙ c.moment-moment.ensures.no_fault)
    c.in-Ok.ensures.wire c.moment-moment.ensures.unread c.in-Ok-inlet.ensures.inlet c.record_by-recorded.ensures.ends)
