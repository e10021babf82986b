use Rattle.std.proofs.Common.{◌∙◌, ◌++◌, Option, subst}
use Rattle.satip_plain.specs.State.{Stream}
use Rattle.satip_core.specs.Finding.{AsksOf}
use Rattle.satip_core.specs.Places.{names_before, of_asked, setup_before}
use Rattle.satip_core.proofs.PlaceLemmas.{first_after, first_before}
use Rattle.satip_core.proofs.deciding.decide_message.Goals as goal

pub returns-in-Some-clause-decided : goal.returns-in-Some-clause-decided
returns-in-Some-clause-decided c = λ cfg st stands.
    let r = c.args.request.now in
    let names = c.session_named-session.ensures.named cfg st stands in
    first_before _ (names_before st r) (setup_before r ++ of_asked cfg st r)
    (c.in-Some.ensures.refused cfg st stands names (c.stream_meant-stream.ensures.stream cfg st stands names))

pub returns-in-Some-refuse_setup-clause-decided : goal.returns-in-Some-refuse_setup-clause-decided
returns-in-Some-refuse_setup-clause-decided c = λ cfg st stands.
    let r = c.args.request.now in
    let names = c.session_named-session.ensures.named cfg st stands in
    first_before _ (setup_before r) (of_asked cfg st r) c.in-Some-refuse_setup.ensures.refused
    ∙ first_after (names_before st r) (setup_before r ++ of_asked cfg st r)
    (c.in_default.ensures.refused cfg st stands names (c.stream_meant-stream.ensures.stream cfg st stands names))

pub returns-in-Ok-clause-decided : goal.returns-in-Ok-clause-decided
returns-in-Ok-clause-decided c = λ cfg st stands.
    let r = c.args.request.now in
    let names = c.session_named-session.ensures.named cfg st stands in
    let meant = c.stream_meant-stream.ensures.stream cfg st stands names in
    c.in-Ok.ensures.refused cfg st stands meant ∙ first_after (setup_before r) (of_asked cfg st r) c.in_default-refuse_setup.ensures.refused
    ∙ first_after (names_before st r) (setup_before r ++ of_asked cfg st r) (c.in_default.ensures.refused cfg st stands names meant)

pub returns-in-Ok-clause-found : goal.returns-in-Ok-clause-found
returns-in-Ok-clause-found c = λ cfg st stands.
    let names = c.session_named-session.ensures.named cfg st stands in
    record {
      names = names;
      kind = c.session_named-session.ensures.found cfg st stands;
      asks = λ changes. subst (λ (o : Option Stream). AsksOf o c.args.request.now.query c.in-Ok.tuning c.decide_asked.new.pids)
          (c.stream_meant-stream.ensures.stream cfg st stands names) (c.in-Ok.ensures.asked changes);
    }

pub returns-in-Err-clause-decided : goal.returns-in-Err-clause-decided
returns-in-Err-clause-decided c = λ cfg st stands.
    let r = c.args.request.now in
    let names = c.session_named-session.ensures.named cfg st stands in
    let meant = c.stream_meant-stream.ensures.stream cfg st stands names in
    c.in-Err.ensures.refused cfg st stands meant ∙ first_after (setup_before r) (of_asked cfg st r) c.in_default-refuse_setup.ensures.refused
    ∙ first_after (names_before st r) (setup_before r ++ of_asked cfg st r) (c.in_default.ensures.refused cfg st stands names meant)
