use Rattle.std.proofs.Common.{[], ◌∷◌, ◌++◌, decimal, codes, refl}
use Rattle.satip_audit.proofs.lines.entry_words.Goals as goal

pub returns-in_default : goal.returns-in_default
returns-in_default c = record {
  finds = λ place caller digits p q lacks is.
      c.in_default.ensures.finds (codes "entry") (decimal place ++ 32 ∷ (decimal caller ++ 32 ∷ (digits ++ 10 ∷ []))) refl is;
}

pub returns-in_default-number_word : goal.returns-in_default-number_word
returns-in_default-number_word c = record {
  finds = λ place caller digits p q lacks is.
      let kind = c.in-Some.ensures.finds (codes "entry") (decimal place ++ 32 ∷ (decimal caller ++ 32 ∷ (digits ++ 10 ∷ []))) refl is in
      c.in_default-number_word.ensures.finds place (decimal caller ++ 32 ∷ (digits ++ 10 ∷ [])) p kind.1;
}

pub returns-in_default-number_word-2 : goal.returns-in_default-number_word-2
returns-in_default-number_word-2 c = record {
  finds = λ place caller digits p q lacks is.
      let kind = c.in-Some.ensures.finds (codes "entry") (decimal place ++ 32 ∷ (decimal caller ++ 32 ∷ (digits ++ 10 ∷ []))) refl is in
      let first = c.in-Some-number_word.ensures.finds place (decimal caller ++ 32 ∷ (digits ++ 10 ∷ [])) p kind.1 in
      c.in_default-number_word-2.ensures.finds caller (digits ++ 10 ∷ []) q first.1;
}

pub returns-in_default-cut : goal.returns-in_default-cut
returns-in_default-cut c = record {
  finds = λ place caller digits p q lacks is.
      let kind = c.in-Some.ensures.finds (codes "entry") (decimal place ++ 32 ∷ (decimal caller ++ 32 ∷ (digits ++ 10 ∷ []))) refl is in
      let first = c.in-Some-number_word.ensures.finds place (decimal caller ++ 32 ∷ (digits ++ 10 ∷ [])) p kind.1 in
      let second = c.in-Some-number_word-2.ensures.finds caller (digits ++ 10 ∷ []) q first.1 in
      c.in_default-cut.ensures.finds digits [] lacks second.1;
}

pub returns : goal.returns
returns c = record {
  finds = λ place caller digits p q lacks is.
      let kind = c.in-Some.ensures.finds (codes "entry") (decimal place ++ 32 ∷ (decimal caller ++ 32 ∷ (digits ++ 10 ∷ []))) refl is in
      let first = c.in-Some-number_word.ensures.finds place (decimal caller ++ 32 ∷ (digits ++ 10 ∷ [])) p kind.1 in
      let second = c.in-Some-number_word-2.ensures.finds caller (digits ++ 10 ∷ []) q first.1 in
      let last = c.in-Some-cut.ensures.finds digits [] lacks second.1 in
      (first.0, second.0, last.0);
}
