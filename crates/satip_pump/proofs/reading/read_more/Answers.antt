use Rattle.std.proofs.Common.{List, ℕ, ◌++◌, ap, ◌∙◌, refl, rules}
use Rattle.satip_pump.proofs.ReadingLemmas.{ended_goes, failed_goes, read_goes}
use Rattle.satip_pump.proofs.reading.read_more.Goals as goal

pub returns-in-Got-clause-reads_on : goal.returns-in-Got-clause-reads_on
returns-in-Got-clause-reads_on g c = record {
  goes = λ first early reel stands.
      read_goes _ _ first _ early reel c.args.reading.now c.in-Some.source c.take.new.source c.take.new.self stands c.in-Some.is
      (c.take.ensures.packets ∙ c.make_space.ensures.packets)
      (λ told. c.in-Got.ensures.reads told ∙ ap (λ (rest : List ℕ). rest ++ (g.M.From.Source.feed c.in-Some.source).left) c.make_space.ensures.rest);
  recordings = refl;
  tune = search rules;
  lent = search rules;
  peak = refl;
}

pub returns-in-End-clause-reads_on : goal.returns-in-End-clause-reads_on
returns-in-End-clause-reads_on g c = record {
  goes = λ first early reel stands.
      ended_goes _ _ first _ _ early reel c.args.reading.now _ c.in-Some.source c.take.new.self stands c.in-Some.is c.requires.none
      (c.take.ensures.packets ∙ c.make_space.ensures.packets) (c.in-End.ensures.reads.0 ∙ c.make_space.ensures.rest)
      c.in-End.ensures.reads.1 c.hand_back.ensures.source c.hand_back.ensures.faults;
  recordings = c.hand_back.ensures.recordings;
  tune = search rules;
  lent = search rules;
  peak = c.hand_back.ensures.peak;
}

pub returns-in-Failed-clause-reads_on : goal.returns-in-Failed-clause-reads_on
returns-in-Failed-clause-reads_on g c = record {
  goes = λ first early reel stands.
      failed_goes _ _ first _ _ early reel c.args.reading.now _ c.in-Some.source c.take.new.self stands c.in-Some.is c.requires.none
      (c.take.ensures.packets ∙ c.make_space.ensures.packets) (c.in-Failed.ensures.reads.0 ∙ c.make_space.ensures.rest)
      c.hand_back-in-Failed.ensures.source (c.hand_back-in-Failed.ensures.fault c.in-Failed.ensures.reads.1);
  recordings = c.hand_back-in-Failed.ensures.recordings;
  tune = search rules;
  lent = search rules;
  peak = c.hand_back-in-Failed.ensures.peak;
}
