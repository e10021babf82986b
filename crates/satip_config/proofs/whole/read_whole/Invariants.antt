use Rattle.std.proofs.Common.{◌≡◌, ◌-◌, length, vec_len}
use Rattle.satip_config.proofs.ReadLemmas.{Goes}
use Rattle.satip_config.proofs.whole.read_whole.Given as goal

-- the text is what was read so far
abbrev pub invariant-source : goal.invariant-source
invariant-source g l =
    (length l.buf ≡ 65536)
    × Goes g.S.Source.tells
    (g.S.Source.feed l.initial.source)
    (g.S.Source.feed l.source)
    l.limit l.text.items

-- each turn takes at least one byte, or is the last
abbrev pub decreases-source : goal.decreases-source
decreases-source g l = l.limit - vec_len l.text
