use Rattle.std.proofs.Common.{◌≡◌, ◌+◌, ◌∷◌, ◌++◌, length, decimal, sym, ap, ◌∙◌, subst, arith}
use Rattle.std.specs.List.{flat_map}
use Rattle.satip_base.specs.Printed.{Printed}
use Rattle.satip_base.proofs.Writing.{◌then_printed◌}
use Rattle.satip_pids.specs.Bits.{members, members_above}
use Rattle.satip_pids.specs.Texts.{listed_text, next_text}
use Rattle.satip_pids.proofs.BitSets.{above_next, below-members, members_are, members_none}
use Rattle.satip_pids.proofs.PidTexts.{length-decimal_pid, length-listed_text, listed_text-cons, listed_text-nil}
use Rattle.satip_pids.proofs.texts.print_listed.Goals as goal

pub returns-in_default-clause-printed : goal.returns-in_default-clause-printed
returns-in_default-clause-printed c =
    let ws = c.args.words.now in
    subst (λ bs. Printed c.args.strip.now bs c.write.new.self) (sym (listed_text-nil (members ws) (ap length (members_none ws c.in_default.ensures.next))))
    c.write.ensures.printed

pub returns-in_default-clause-bound : goal.returns-in_default-clause-bound
returns-in_default-clause-bound c = length-listed_text (members c.args.words.now) c.requires.few (below-members c.args.words.now)

pub print_more-requires-clause-room : goal.print_more-requires-clause-room
print_more-requires-clause-room c =
    let ws = c.args.words.now in
    let first = c.in-Some.first in
    let parts : members ws ≡ first ∷ members_above ws (first + 1) = members_are ws ∙ above_next ws 0 first c.in-Some.ensures.next in
    omega (arith, ap length parts, length-decimal_pid first c.in-Some.ensures.next.below, c.write_number.ensures.printed.count, c.requires.few, c.requires.room)

pub returns-clause-printed : goal.returns-clause-printed
returns-clause-printed c =
    let ws = c.args.words.now in
    let first = c.in-Some.first in
    let parts : members ws ≡ first ∷ members_above ws (first + 1) = members_are ws ∙ above_next ws 0 first c.in-Some.ensures.next in
    let text : listed_text (members ws) ≡ decimal first ++ flat_map next_text (members_above ws (first + 1)) =
    ap listed_text parts ∙ listed_text-cons first (members_above ws (first + 1)) in
    subst (λ bs. Printed c.args.strip.now bs c.print_more.new.strip) (sym text) (c.write_number.ensures.printed then_printed c.print_more.ensures.printed)

pub returns-clause-bound : goal.returns-clause-bound
returns-clause-bound c = length-listed_text (members c.args.words.now) c.requires.few (below-members c.args.words.now)
