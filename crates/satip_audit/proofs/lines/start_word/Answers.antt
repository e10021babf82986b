use Rattle.std.proofs.Common.{[], ◌∷◌, ◌++◌, decimal, codes, refl, ◌∙◌}
use Rattle.satip_entry_writer.specs.Lines.{start_line}
use Rattle.satip_audit.proofs.LineLemmas.{no_end, number_read}
use Rattle.satip_audit.proofs.lines.start_word.Goals as goal

pub returns-in_default : goal.returns-in_default
unfolding start_line
returns-in_default c = record { finds = λ now small is. absurd (c.in_default.ensures.finds (codes "start") (decimal now ++ 10 ∷ []) refl is) }

pub returns-in_default-cut : goal.returns-in_default-cut
unfolding start_line
returns-in_default-cut c = record {
  finds = λ now small is.
      absurd (c.in_default-cut.ensures.finds (decimal now) [] (no_end now small)
      (c.in-Some.ensures.finds (codes "start") (decimal now ++ 10 ∷ []) refl is).1);
}

pub returns : goal.returns
unfolding start_line
returns c = record {
  finds = λ now small is.
      let kind = c.in-Some.ensures.finds (codes "start") (decimal now ++ 10 ∷ []) refl is in
      let digits = c.in-Some-cut.ensures.finds (decimal now) [] (no_end now small) kind.1 in
      c.read_number.ensures.value ∙ number_read _ now small digits.0;
}
