use Rattle.std.proofs.Common.{◌≡◌, ◌==◌, ◌&&◌, true, false, Some, None, sym, ap, ◌∙◌, rules}
use Rattle.std.specs.List.{slice_get}
use Rattle.std.specs.Option.{option_map}
use Rattle.satip_table.specs.declared.session.Seat.{Seat}
use Rattle.satip_table.specs.declared.session.Session.{Session as Row}
use Rattle.satip_state.proofs.Picking.{map_nothing}
use Rattle.satip_state.proofs.Viewing.{plays_none, plays_here, plays_further, seat_there}
use Rattle.satip_state.proofs.parts.Parts.is_playing.Goals as goal

pub returns-in_default : goal.returns-in_default
returns-in_default c =
    let told : None ≡ option_map (λ (seat : Seat). seat.session) (slice_get c.args.self.now.table.seats c.loop-place.place) = search rules in
    record {
      plays = plays_none c.args.number c.args.self.now.table.seats c.loop-place.place c.loop-place.invariant
          (map_nothing (λ (seat : Seat). seat.session) (slice_get c.args.self.now.table.seats c.loop-place.place) (sym told));
    }

pub returns-then-is_player : goal.returns-then-is_player
returns-then-is_player c =
    let told : Some c.in-Some.session.now ≡ option_map (λ (seat : Seat). seat.session) (slice_get c.args.self.now.table.seats c.loop-place.place) =
    search rules in
    let r = seat_there c.args.self.now.table.seats c.loop-place.place c.in-Some.session.now told in
    let plays : (c.in-Some.session.now.stream == c.args.number && c.in-Some.session.now.playing) ≡ true = search rules in
    record {
      plays = plays_here c.args.number c.args.self.now.table.seats c.loop-place.place r.0 c.loop-place.invariant r.1
          (ap (λ (s : Row). s.stream == c.args.number && s.playing) r.2 ∙ plays);
    }

pub loop-place-preserved : goal.loop-place-preserved
loop-place-preserved c =
    let told : Some c.in-Some.session.now ≡ option_map (λ (seat : Seat). seat.session) (slice_get c.args.self.now.table.seats c.loop-place.place) =
    search rules in
    let r = seat_there c.args.self.now.table.seats c.loop-place.place c.in-Some.session.now told in
    let idle : (c.in-Some.session.now.stream == c.args.number && c.in-Some.session.now.playing) ≡ false = search rules in
    plays_further c.args.number c.args.self.now.table.seats c.loop-place.place r.0 c.loop-place.invariant r.1
    (ap (λ (s : Row). s.stream == c.args.number && s.playing) r.2 ∙ idle)
