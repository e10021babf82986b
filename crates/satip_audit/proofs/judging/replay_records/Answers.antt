use Rattle.satip_audit.proofs.ReplayLemmas.{runs_more}
use Rattle.satip_audit.proofs.judging.replay_records.Goals as goal

pub places-preserved : goal.places-preserved
places-preserved c =
    runs_more c.args.records.now c.record_at-bytes.result.now c.args.spots.now _ c.args.server.now c.places.server c.does_so.new.server c.places.place
    c.places-test.true c.record_at-bytes.ensures.bytes c.places.invariant c.does_so.ensures.setting c.if-not-does_so.ensures.does
