use Rattle.std.proofs.Common.{refl, ◌∙◌}
use Rattle.satip_replay.proofs.RunLemmas.{midway_from, answered_more, answered_fails, stops_midway, ends_midway, fails_at_end}
use Rattle.satip_replay.proofs.running.run_events.Goals as goal

pub events-init : goal.events-init
events-init g c = (
  refl,
  λ events stands script. midway_from _ _ _ c.args.script.now events _ _ _ script c.of-lines.ensures.lines stands c.requires.empty,
)

pub returns-in-Err : goal.returns-in-Err
returns-in-Err g c = record {
  ends = λ events stands script. stops_midway _ _ _ _ events _ _ _ (c.events.invariant.1 events stands script);
}

pub returns-in-Failed : goal.returns-in-Failed
returns-in-Failed g c = record {
  ends = λ events stands script.
      answered_fails _ _ _ _ _ events _ _ _ _ _ _ _ _ (c.events.invariant.1 events stands script) c.in-Some.ensures.answered
      c.events.invariant.0 c.answer_next.ensures.setting c.in-Ok.ensures.printed c.in-Failed.ensures.passes;
}

pub events-preserved : goal.events-preserved
events-preserved g c = (
  c.answer_next.ensures.setting ∙ c.events.invariant.0,
  λ events stands script.
      answered_more _ _ _ _ _ events _ _ _ _ _ _ _ _ _ (c.events.invariant.1 events stands script) c.in-Some.ensures.answered
      c.events.invariant.0 c.answer_next.ensures.setting c.in-Ok.ensures.printed c.in-Whole.ensures.passes,
)

pub returns-in-Whole-pass_on : goal.returns-in-Whole-pass_on
returns-in-Whole-pass_on g c = record {
  ends = λ events stands script.
      ends_midway _ _ _ _ _ events _ _ c.events.lines c.answer_next.new.lines (c.events.invariant.1 events stands script) c.in_default.ensures.answered _
      c.in-Whole-pass_on.ensures.passes
      (c.in-Whole-pass_on.ensures.all refl refl);
}

pub returns-in-Failed-pass_on : goal.returns-in-Failed-pass_on
returns-in-Failed-pass_on g c = record {
  ends = λ events stands script.
      fails_at_end _ _ _ _ _ events _ _ c.events.lines c.answer_next.new.lines (c.events.invariant.1 events stands script) c.in_default.ensures.answered
      c.in-Failed-pass_on.ensures.passes;
}
