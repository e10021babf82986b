use Rattle.satip_audit.proofs.ReplayLemmas.{Runs}
use Rattle.satip_audit.proofs.judging.replay_records.Given as goal

-- the entries before a place are what the server does
abbrev pub invariant-places : goal.invariant-places
invariant-places l = Runs l.records l.spots l.initial.server l.place l.server
