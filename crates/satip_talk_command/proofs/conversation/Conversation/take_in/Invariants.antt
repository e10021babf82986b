use Rattle.std.proofs.Common.{◌≡◌, ℕ, List, ◌++◌, length, None}
use Rattle.satip_base.specs.Streams.{Drain}
use Rattle.satip_frame.specs.Stream.{skip_newlines}
use Rattle.satip_talk_command.specs.Hearing.{Stands}
use Rattle.satip_talk_command.proofs.conversation.Conversation.take_in.Given as goal

-- what the text asked so far was answered
abbrev pub invariant-requests : goal.invariant-requests
invariant-requests g l =
    (l.self.framer.ended ≡ None)
    × ((o : Drain) (text : List ℕ)
    → Stands g.O.Sink.tells o (g.O.Sink.drain l.initial.output)
    l.initial.self.gathered text (l.initial.self.framer.bytes ++ l.piece) l.initial.self.talker
    → Stands g.O.Sink.tells o (g.O.Sink.drain l.output)
    l.self.gathered text (l.self.framer.bytes ++ l.rest) l.self.talker)

-- each message takes some of the bytes
abbrev pub decreases-requests : goal.decreases-requests
decreases-requests g l = length (skip_newlines (l.self.framer.bytes ++ l.rest))
