use Rattle.satip_talk_command.proofs.conversation.Conversation.hear.Goals as goal

pub returns-in-All-clause-hears : goal.returns-in-All-clause-hears
returns-in-All-clause-hears g c = λ o text stands.
    c.send.ensures.sends o _ (c.in-All.ensures.hears o text (rw c.requires.empty stands))

pub returns-in-Closed-clause-hears : goal.returns-in-Closed-clause-hears
returns-in-Closed-clause-hears g c = λ o text stands.
    c.send-in-Closed.ensures.sends o _ (c.in-Closed.ensures.hears o text (rw c.requires.empty stands))

pub returns-in-Failed-clause-hears : goal.returns-in-Failed-clause-hears
returns-in-Failed-clause-hears g c = λ o text stands.
    c.in-Failed.ensures.hears o text (rw c.requires.empty stands)
