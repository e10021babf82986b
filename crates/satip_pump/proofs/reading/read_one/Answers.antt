use Rattle.satip_pump.proofs.ReadingLemmas.{buffers, cut_goes, reads_then, uncut_goes}
use Rattle.satip_pump.proofs.reading.read_one.Goals as goal

pub returns-then-cut-clause-reads_on : goal.returns-then-cut-clause-reads_on
returns-then-cut-clause-reads_on g c =
    buffers _ _ _ c.args.reading.now c.cut.new.self
    (λ first early reel stands. cut_goes _ _ first _ early reel c.args.reading.now c.cut.new.self stands c.if-cut.ensures.cut)

pub returns-clause-reads_on : goal.returns-clause-reads_on
returns-clause-reads_on g c =
    reads_then _ _ _ _ _ _ _ _ (buffers _ _ _ c.args.reading.now c.cut.new.self
    (λ first early reel stands. uncut_goes _ _ first _ early reel c.args.reading.now c.cut.new.self stands c.if-cut.ensures.cut))
    c.read_more.ensures.reads_on
