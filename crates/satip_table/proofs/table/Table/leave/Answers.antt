use Rattle.std.proofs.Common.{◌≡◌, ◌∙◌, Some, find, ap, sym, rules}
use Rattle.std.specs.Option.{option_map}
use Rattle.satip_table.specs.declared.session.Seat.{Seat}
use Rattle.satip_table.specs.Sessions.{has_id_of, owner_of, without}
use Rattle.satip_table.specs.Streams.{kept_streams}
use Rattle.satip_table.specs.Owners.{handed}
use Rattle.satip_table.specs.Living.{Living}
use Rattle.satip_table.specs.View.{living}
use Rattle.satip_table.proofs.HandingOn.{handed_on}
use Rattle.satip_table.proofs.TableLaws.{kept_same, stored_left}
use Rattle.satip_table.proofs.table.Table.leave.Goals as goal

pub remove-requires : goal.remove-requires
remove-requires c = record { rising = (c.self.inside.made, c.self.invariant.sound.counts) }

pub returns-in_default-clause-streams : goal.returns-in_default-clause-streams
returns-in_default-clause-streams c =
    let unchanged : c.remove.new.self ≡ c.self.inside.seats = search rules in
    sym (kept_same c.self.inside.seats c.self.inside.streams c.self.invariant.sound.owned)
    ∙ ap (λ ss. kept_streams ss c.self.inside.streams) (sym unchanged) ∙ ap (λ (v : Living). kept_streams c.remove.new.self v.streams) c.self.view_is

pub invariant_of-self-2 : goal.invariant_of-self-2
invariant_of-self-2 c =
    let v = living c.self.inside in
    let removed : c.remove.new.self ≡ without c.args.id c.self.inside.seats = search rules in
    let was : Some c.in-Some.stream ≡ option_map (λ (seat : Seat). seat.session.stream) (find (has_id_of c.args.id) c.self.inside.seats) = search rules in
    let first = c.first_member-first.ensures.first ∙ ap (λ ss. owner_of ss c.in-Some.stream) removed in
    let kept : c.hand_on.new.streams ≡ kept_streams c.remove.new.self c.self.inside.streams =
    c.hand_on.ensures.handed ∙ ap (λ o. handed c.in-Some.stream o c.self.inside.streams) first
    ∙ handed_on v c.args.id c.in-Some.stream c.self.invariant.sound was
    ∙ ap (λ ss. kept_streams ss c.self.inside.streams) (sym removed) in
    record { sound = stored_left v c.args.id c.remove.new.self c.hand_on.new.streams c.self.invariant.sound removed kept }

pub returns-clause-streams : goal.returns-clause-streams
returns-clause-streams c =
    let v = living c.self.inside in
    let removed : c.remove.new.self ≡ without c.args.id c.self.inside.seats = search rules in
    let was : Some c.in-Some.stream ≡ option_map (λ (seat : Seat). seat.session.stream) (find (has_id_of c.args.id) c.self.inside.seats) = search rules in
    let first = c.first_member-first.ensures.first ∙ ap (λ ss. owner_of ss c.in-Some.stream) removed in
    let kept : c.hand_on.new.streams ≡ kept_streams c.remove.new.self c.self.inside.streams =
    c.hand_on.ensures.handed ∙ ap (λ o. handed c.in-Some.stream o c.self.inside.streams) first
    ∙ handed_on v c.args.id c.in-Some.stream c.self.invariant.sound was
    ∙ ap (λ ss. kept_streams ss c.self.inside.streams) (sym removed) in
    kept ∙ ap (λ (w : Living). kept_streams c.remove.new.self w.streams) c.self.view_is

pub returns-clause-sound : goal.returns-clause-sound
returns-clause-sound c = (invariant_of-self-2 c).sound
