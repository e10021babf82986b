use Rattle.std.proofs.Common.{◌∙◌, Some, ap}
use Rattle.satip_core.proofs.PlaceLemmas.{first_now, first_later}
use Rattle.satip_core.proofs.deciding.refuse_names.Goals as goal

pub returns-then-session_missing-clause-refused : goal.returns-then-session_missing-clause-refused
returns-then-session_missing-clause-refused c =
    λ cfg st stands names meant. ap Some c.plainly.ensures.plain ∙ first_now _ _ _ (c.if-session_missing.ensures.missing st names)

pub returns-then-stream_missing-clause-refused : goal.returns-then-stream_missing-clause-refused
returns-then-stream_missing-clause-refused c =
    λ cfg st stands names meant. ap Some c.plainly-then-stream_missing.ensures.plain
    ∙ first_now _ _ _ (c.if-stream_missing.ensures.missing cfg st stands meant)
    ∙ first_later _ _ _ (c.if-session_missing.ensures.missing st names)

pub returns-then-stream_of_another-clause-refused : goal.returns-then-stream_of_another-clause-refused
returns-then-stream_of_another-clause-refused c = λ cfg st stands names meant.
    ap Some c.plainly-then-stream_of_another.ensures.plain ∙ first_now _ _ _ (c.if-stream_of_another.ensures.another st names)
    ∙ first_later _ _ _ (c.if-stream_missing.ensures.missing cfg st stands meant)
    ∙ first_later _ _ _ (c.if-session_missing.ensures.missing st names)

pub returns-then-not_owner-clause-refused : goal.returns-then-not_owner-clause-refused
returns-then-not_owner-clause-refused c = λ cfg st stands names meant.
    ap Some c.telling.ensures.telling ∙ first_now _ _ _ (c.if-not_owner.ensures.other cfg st stands names meant)
    ∙ first_later _ _ _ (c.if-stream_of_another.ensures.another st names)
    ∙ first_later _ _ _ (c.if-stream_missing.ensures.missing cfg st stands meant) ∙ first_later _ _ _ (c.if-session_missing.ensures.missing st names)

pub returns-clause-refused : goal.returns-clause-refused
returns-clause-refused c = λ cfg st stands names meant.
    first_later _ _ _ (c.if-not_owner.ensures.other cfg st stands names meant)
    ∙ first_later _ _ _ (c.if-stream_of_another.ensures.another st names)
    ∙ first_later _ _ _ (c.if-stream_missing.ensures.missing cfg st stands meant) ∙ first_later _ _ _ (c.if-session_missing.ensures.missing st names)
