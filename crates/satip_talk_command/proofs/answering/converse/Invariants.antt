use Rattle.std.proofs.Common.{◌≡◌, ◌-◌, [], None, length}
use Rattle.satip_talk_command.proofs.TurnLemmas.{Goes}
use Rattle.satip_talk_command.proofs.answering.converse.Given as goal

-- what was taken so far was answered, the framer takes more, and no reply waits
abbrev pub invariant-input : goal.invariant-input
invariant-input g l =
    (l.conversation.framer.ended ≡ None)
    × (length l.buf ≡ 4096)
    × Goes g.I.Source.tells g.O.Sink.tells
    (g.I.Source.feed l.initial.input)
    (g.I.Source.feed l.input)
    (g.O.Sink.drain l.initial.output)
    (g.O.Sink.drain l.output)
    l.taken l.conversation.framer.bytes l.conversation.talker
    × (l.conversation.gathered ≡ [])

-- each turn takes at least one byte, or is the last
abbrev pub decreases-input : goal.decreases-input
decreases-input g l = 67108865 - l.taken
