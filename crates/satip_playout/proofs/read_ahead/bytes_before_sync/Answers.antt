use Rattle.std.proofs.Common.{rules}
use Rattle.satip_ts.proofs.Sync.{from_sync-drop}
use Rattle.satip_playout.proofs.read_ahead.bytes_before_sync.Goals as goal

pub returns-clause-sync : goal.returns-clause-sync
returns-clause-sync c = from_sync-drop c.args.held.now _ (search rules)
