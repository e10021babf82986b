use Rattle.satip_talk_command.proofs.TalkLemmas.{hears_sent, hears_part}
use Rattle.satip_talk_command.proofs.conversation.Conversation.send.Goals as goal

pub returns-in-Whole-clause-sends : goal.returns-in-Whole-clause-sends
returns-in-Whole-clause-sends g c = λ o text hears.
    hears_sent _ o _ _ _ text _ _ _ c.requires.sound hears c.in-Whole.ensures.puts

pub returns-in-Failed-clause-sends : goal.returns-in-Failed-clause-sends
returns-in-Failed-clause-sends g c = λ o text hears.
    hears_part _ o _ _ _ text _ _ _ c.requires.sound hears c.in-Failed.ensures.puts
