use Rattle.satip_audit.proofs.LegalLemmas.{judged_as_yes, legal_by}
use Rattle.satip_audit.proofs.verdict_law.yes_is_legal.Goals as goal

pub returns : goal.returns
returns c = record {
  law = record {
    legal = λ config text count servable values judged. legal_by config text count 0 servable values judged;
    judged = judged_as_yes;
  };
}
