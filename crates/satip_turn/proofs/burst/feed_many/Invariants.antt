-- The feed took just the entries that were made so far.
use Rattle.std.proofs.Common.{◌≡◌, false, None}
use Rattle.satip_turn.specs.Seats.{IsUnderWay}
use Rattle.satip_turn.proofs.burst.feed_many.Given as goal

abbrev pub invariant-loop-made : goal.invariant-loop-made
invariant-loop-made g l =
    (l.seat.table_id ≡ l.initial.seat.table_id)
    × IsUnderWay g.S.Served.setting g.S.Served.stands_for (g.F.Feed.has_taken l.initial.feed l.feed) l.initial.seat.me.0 l.made l.seat.me l.served l.place
    × (g.F.Feed.ended l.feed ≡ false) × (g.F.Feed.given l.feed ≡ None)
    × (g.F.Feed.took_last l.initial.feed l.initial.out → g.F.Feed.took_last l.feed l.out)
