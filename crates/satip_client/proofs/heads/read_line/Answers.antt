use Rattle.std.proofs.Common.{◌++◌, slice_range, sym}
use Rattle.httparse.specs.Grammar.{print_end}
use Rattle.satip_client.proofs.Lines.{line-from, line-status, status-rest}
use Rattle.satip_client.proofs.heads.read_line.Goals as goal

pub returns-in_default-read_line_end-clause-none : goal.returns-in_default-read_line_end-clause-none
returns-in_default-read_line_end-clause-none c = λ digits reason end rest line.
    let status = line-status c.args.text.now digits reason end rest line in
    let behind = sym (status-rest c.args.text.now digits (reason ++ (print_end end ++ rest)) status) in
    c.in_default-read_line_end.ensures.none end rest (c.reason_end.ensures.only reason end rest line.is_reason behind).1

pub returns-clause-found : goal.returns-clause-found
returns-clause-found c =
    let status = c.in-Some.ensures.found in
    let ends = c.in-Some-read_line_end.ensures.found in
    record {
      within = c.in-Some-read_line_end.ensures.within;
      digits = status.0;
      reason = slice_range c.args.text.now 12 c.reason_end.result;
      end = ends.0;
      has = line-from c.args.text.now status.0 c.reason_end.result c.in-Some-read_line_end.end ends.0 status.1 c.reason_end.ensures.begin
          c.reason_end.ensures.reason ends.1;
      status = status.2;
    }
