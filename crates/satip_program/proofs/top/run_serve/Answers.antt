use Rattle.std.proofs.Common.{sym}
use Rattle.satip_tunnel_serve.proofs.Serve.StatusLemmas.{told_otherwise}
use Rattle.satip_config.specs.Lines.{Says}
use Rattle.satip_program.proofs.ServingLemmas.{fault_line}
use Rattle.satip_program.proofs.top.run_serve.Goals as goal

pub returns-clause-ends : goal.returns-clause-ends
returns-clause-ends g c =
    rw c.status.ensures.status
    (rw c.outcome-outcome.ensures.outcome
    (told_otherwise
    (fault_line
    (λ line. Says g.E.Sink.tells (g.E.Sink.drain c.args.errors.now) (g.E.Sink.drain c.tell.new.errors) line)
    c.serve_by-end.result.end (rw (sym c.outcome-outcome.ensures.outcome) c.tell.ensures.says)) c.serve_by-end.ensures.ends))

pub returns-clause-logs : goal.returns-clause-logs
returns-clause-logs g c = record { outcome = c.outcome-outcome.result; status_is = c.status.ensures.status; says = c.tell.ensures.says }
