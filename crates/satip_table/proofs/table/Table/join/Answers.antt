use Rattle.std.proofs.Common.{◌≡◌, ◌∙◌, ap, false, true}
use Rattle.satip_table.specs.declared.session.Session.{Session}
use Rattle.satip_table.specs.Sessions.{following_id}
use Rattle.satip_table.specs.Streams.{is_live}
use Rattle.satip_table.specs.Living.{Living, is_full}
use Rattle.satip_table.specs.View.{living}
use Rattle.satip_table.proofs.TableLaws.{room_left, session_id, stored_joined}
use Rattle.satip_table.proofs.table.Table.join.Goals as goal

pub add-requires : goal.add-requires
add-requires c =
    let room : is_full (living c.self.inside) ≡ false = ap is_full c.self.view_is ∙ c.requires.room in
    record { room = (room_left (living c.self.inside) c.self.invariant.sound room).0 }

pub invariant_of-self : goal.invariant_of-self
invariant_of-self c =
    let room : is_full (living c.self.inside) ≡ false = ap is_full c.self.view_is ∙ c.requires.room in
    let lives : is_live c.self.inside.streams c.args.stream ≡ true = ap (λ (v : Living). is_live v.streams c.args.stream) c.self.view_is ∙ c.requires.lives in
    record {
      sound = stored_joined (living c.self.inside) c.args.session c.new_session-session.result c.add.result c.args.stream c.add.new.self
          c.self.invariant.sound room c.new_session-session.ensures.session c.add.ensures.within c.add.ensures.free lives c.add.ensures.last;
    }

pub returns-clause-id : goal.returns-clause-id
returns-clause-id c =
    ap (λ (s : Session). s.id) c.new_session-session.ensures.session ∙ session_id c.self.inside.made c.args.session c.args.stream
    ∙ ap (λ (v : Living). following_id v.made c.args.session) c.self.view_is

pub returns-clause-sound : goal.returns-clause-sound
returns-clause-sound c = (invariant_of-self c).sound
