-- The entry that was committed is the one that the feed took.
use Rattle.std.proofs.Common.{rules}
use Rattle.satip_turn.proofs.Bursts.{goes_on}
use Rattle.satip_turn.proofs.burst.feed_one.Goals as goal

pub returns-clause-going : goal.returns-clause-going
returns-clause-going g c first v made u = goes_on g.S.Served.setting g.S.Served.stands_for (g.F.Feed.has_taken first c.args.feed.now)
    (g.F.Feed.has_taken first c.took.new.self) v made c.args.place.now c.args.seat.now.me c.commit.new.seat.me c.args.served.now c.serve-answer.new.self
    c.next.new.event c.serve-answer.result c.serve-answer.new.out u
    (λ ts h. c.took.ensures.taken first ts c.next.new.event (search rules) (c.next.ensures.taken first ts h))
    c.commit.ensures.committed c.serve-answer.ensures.same
    (c.serve-answer.ensures.stands c.args.seat.now.me.0.whole c.args.seat.now.me.0.number c.requires.served.stands_for)
