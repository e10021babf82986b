use Rattle.std.proofs.Common.{subst}
use Rattle.satip_base.specs.Output.{Wrote}
use Rattle.satip_query.proofs.PrintLemmas.{query_fits, query_text-parts}
use Rattle.satip_query.proofs.QueryPrinted.{query_printed}
use Rattle.satip_query.proofs.printing.print.Goals as goal

pub print_keys-requires : goal.print_keys-requires
print_keys-requires c = record { room = query_fits c.args.query.now _ c.requires.allowed c.requires.room }

pub returns-clause-wrote : goal.returns-clause-wrote
returns-clause-wrote c =
    subst (λ bs. Wrote c.args.out.now bs c.print_keys.new.out) (query_text-parts c.args.query.now) c.print_keys.ensures.wrote

pub returns-clause-read_again : goal.returns-clause-read_again
returns-clause-read_again c = query_printed c.args.query.now c.requires.allowed
