use Rattle.std.proofs.Common.{◌∙◌, ap}
use Rattle.std.specs.Prelude.{None, Some}
use Rattle.satip_plain.specs.Types.{Query}
use Rattle.satip_stress.specs.declared.clients.Client.{Client}
use Rattle.satip_stress.specs.Making.{first, second, play, setup}
use Rattle.satip_stress.proofs.RunLemmas.{makes_asked, opens_by}
use Rattle.satip_stress.proofs.running.make_opening.Goals as goal

pub returns-clause-opens : goal.returns-clause-opens
returns-clause-opens c =
    let one = c.first_client-first.ensures.first in
    let two = c.second_client-second.ensures.second in
    opens_by _ _ _ _ _ _ c.requires.setting c.requires.opening c.requires.none
    c.tick.ensures.made c.tick.ensures.setting
    (makes_asked _ _ _ _ _ _ _ _ (ap (λ (x : Client). x.peer) one) c.draw_of_number.ensures.draw
    (c.make_setup-founding.ensures.request ∙ ap (λ (q : Query). setup 1 None q 1400) c.make_founding_query.ensures.query) c.request.ensures.made)
    c.request.ensures.setting
    (makes_asked _ _ _ _ _ _ _ _ (ap (λ (x : Client). x.peer) one) c.draw_of_number-2.ensures.draw
    (c.make_play-playing.ensures.request ∙ ap (λ (x : Client). play 2 x c.new.result) one ∙ ap (λ (q : Query). play 2 first q) c.new.ensures.empty)
    c.request-2.ensures.made)
    c.request-2.ensures.setting
    (makes_asked _ _ _ _ _ _ _ _ (ap (λ (x : Client). x.peer) two) c.draw_of_number-3.ensures.draw
    (c.make_setup-joining.ensures.request ∙ ap (λ (q : Query). setup 3 (Some 1) q 1500) c.new-2.ensures.empty) c.request-3.ensures.made)
    c.request-3.ensures.setting
    (makes_asked _ _ _ _ _ _ _ _ (ap (λ (x : Client). x.peer) two) c.draw_of_number-4.ensures.draw
    (c.make_play-playing-2.ensures.request ∙ ap (λ (x : Client). play 4 x c.new-3.result) two ∙ ap (λ (q : Query). play 4 second q) c.new-3.ensures.empty)
    c.request-4.ensures.made)
    c.request-4.ensures.setting
