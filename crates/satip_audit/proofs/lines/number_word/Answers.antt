use Rattle.std.proofs.Common.{decimal}
use Rattle.satip_audit.proofs.LineLemmas.{no_space, none_read, same_number}
use Rattle.satip_audit.proofs.lines.number_word.Goals as goal

pub returns-in_default : goal.returns-in_default
returns-in_default c = record { finds = λ number rest small is. c.in_default.ensures.finds (decimal number) rest (no_space number small) is }

pub returns-in_default-read_number : goal.returns-in_default-read_number
returns-in_default-read_number c = record {
  finds = λ number rest small is.
      none_read _ number small (c.in-Some.ensures.finds (decimal number) rest (no_space number small) is).0 c.in_default-read_number.ensures.value;
}

pub returns : goal.returns
returns c = record {
  finds = λ number rest small is.
      let parts = c.in-Some.ensures.finds (decimal number) rest (no_space number small) is in
      (same_number _ number _ small parts.0 c.in-Some-read_number.ensures.value, parts.1);
}
