use Rattle.std.proofs.Common.{◌≡◌, ◌∙◌, ap, false, refl, arith}
use Rattle.satip_table.specs.declared.session.Session.{Session}
use Rattle.satip_table.specs.Sessions.{following_id}
use Rattle.satip_table.specs.Streams.{fresh, is_live, least_number}
use Rattle.satip_table.specs.Living.{Living, is_full}
use Rattle.satip_table.specs.View.{living}
use Rattle.satip_table.proofs.TableLaws.{number_least, number_within, room_left, session_id, stored_founded, streams_le}
use Rattle.satip_table.proofs.table.Table.found.Goals as goal

pub free_number-number-requires-clause-few : goal.free_number-number-requires-clause-few
free_number-number-requires-clause-few c =
    let room : is_full (living c.self.inside) ≡ false = ap is_full c.self.view_is ∙ c.requires.room in
    let left = room_left (living c.self.inside) c.self.invariant.sound room in
    let few = streams_le (living c.self.inside) c.self.invariant.sound in
    omega (arith, left.0, few)

pub begin-requires-clause-room : goal.begin-requires-clause-room
begin-requires-clause-room c =
    let room : is_full (living c.self.inside) ≡ false = ap is_full c.self.view_is ∙ c.requires.room in
    let left = room_left (living c.self.inside) c.self.invariant.sound room in
    let few = streams_le (living c.self.inside) c.self.invariant.sound in
    omega (arith, left.0, few)

pub add-requires : goal.add-requires
add-requires c =
    let room : is_full (living c.self.inside) ≡ false = ap is_full c.self.view_is ∙ c.requires.room in
    record { room = (room_left (living c.self.inside) c.self.invariant.sound room).0 }

pub invariant_of-self : goal.invariant_of-self
invariant_of-self c =
    let room : is_full (living c.self.inside) ≡ false = ap is_full c.self.view_is ∙ c.requires.room in
    let stream = fresh c.free_number-number.result c.new_session-session.result.id in
    record {
      sound = stored_founded (living c.self.inside) c.args.session c.new_session-session.result c.add.result c.free_number-number.result c.add.new.self stream
          c.begin.new.self c.self.invariant.sound room c.new_session-session.ensures.session c.add.ensures.within c.add.ensures.free
          c.free_number-number.ensures.number refl c.begin.ensures.put c.add.ensures.last;
    }

pub returns-clause-id : goal.returns-clause-id
returns-clause-id c =
    ap (λ (s : Session). s.id) c.new_session-session.ensures.session ∙ session_id c.self.inside.made c.args.session c.free_number-number.result
    ∙ ap (λ (v : Living). following_id v.made c.args.session) c.self.view_is

pub returns-clause-number : goal.returns-clause-number
returns-clause-number c =
    let room : is_full (living c.self.inside) ≡ false = ap is_full c.self.view_is ∙ c.requires.room in
    number_least (living c.self.inside) c.free_number-number.result c.self.invariant.sound room c.free_number-number.ensures.number
    ∙ ap (λ (v : Living). least_number (is_live v.streams)) c.self.view_is

pub returns-clause-within : goal.returns-clause-within
returns-clause-within c =
    let room : is_full (living c.self.inside) ≡ false = ap is_full c.self.view_is ∙ c.requires.room in
    number_within (living c.self.inside) c.free_number-number.result c.self.invariant.sound room c.free_number-number.ensures.number

pub returns-clause-sound : goal.returns-clause-sound
returns-clause-sound c = (invariant_of-self c).sound
