use Rattle.std.proofs.Common.{◌≡◌, ◌++◌, take, ap, ◌∙◌}
use Rattle.satip_rtsp_interleaved.specs.Held.{Held}
use Rattle.satip_rtsp_interleaved.proofs.ParterLemmas.{feed_follows}
use Rattle.satip_rtsp_interleaved.proofs.parting.Parter.feed.Goals as goal

pub returns-clause-follows : goal.returns-clause-follows
returns-clause-follows c =
    let taken = take c.feed.result c.args.piece.now in
    let same : c.self.inside.to_come ≡ c.args.self.now.to_come = ap (λ (h : Held). h.to_come) c.self.view_is in
    let grown : c.feed.new.self.bytes ≡ c.args.self.now.bytes ++ taken =
    c.feed.ensures.bytes ∙ ap (λ (h : Held). h.bytes ++ taken) c.self.view_is in
    feed_follows c.args.self.now.to_come c.self.inside.to_come c.args.self.now.bytes c.feed.new.self.bytes taken same grown
