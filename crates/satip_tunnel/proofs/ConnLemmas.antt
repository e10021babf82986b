-- One connection of either kind, by what serving it ensures.
use Rattle.std.proofs.Common.{◌≡◌, ◌∙◌, ℕ, ◌+◌, false, List, [], length, refl, sym, ap, subst}
use Rattle.rand_chacha.specs.ChaCha.{ChaCha}
use Rattle.satip_base.specs.declared.network.Peer.{Peer}
use Rattle.satip_base.specs.declared.identity.Draw.{Draw}
use Rattle.satip_plain.specs.Histories.{Item}
use Rattle.satip_plain.specs.declared.setting.Setting.{Setting}
use Rattle.satip_turn.specs.Shown.{Cell}
use Rattle.satip_interleave.specs.Calling.{SameCaller, ShownPass, known_by, outers}
use Rattle.satip_interleave.proofs.Entries.{inners-append, outers-append}
use Rattle.satip_interleave.specs.Histories.{TunnelItem, inners}
use Rattle.satip_tunnel.specs.declared.ends.TunnelEnd.{TunnelEnd}
use Rattle.satip_tunnel.specs.Seats.{Seat, seated}
use Rattle.satip_tunnel.specs.Served.{ServesTunnel}
use Rattle.satip_worker.specs.Drawing.{draw_at, before_draw}
use Rattle.satip_worker.specs.Answers.{ends_with_last}
use Rattle.satip_worker.specs.Ends.{LineEnds}
use Rattle.satip_worker.specs.HttpRun.{HttpRun}
use Rattle.satip_worker.specs.Served.{ServesConn as ServesAny}
use Rattle.satip_world.specs.declared.doors.ConnEnd.{ConnEnd}
use Rattle.satip_world.specs.declared.doors.ConnEnd.TheVariants.{Spent, Want}
use Rattle.satip_world.specs.declared.doors.DoorKind.TheVariants.{Rtsp, Http}
use Rattle.satip_world.specs.Lines.{Line}
use Rattle.satip_world.specs.Outboxes.{Outbox}
use Rattle.satip_tunnel.specs.declared.ends.TunnelEnd.TheVariants.{Full as tunnel_full, Broken as tunnel_broken, Done as tunnel_done, ReadFault as tunnel_unread, WriteFault as tunnel_lost, Spent as tunnel_spent}
use Rattle.satip_tunnel.specs.ConnRun.{ServesConn, conn_end}
use Rattle.satip_tunnel.proofs.ListLemmas.{same_behind, none_behind}

-- an RTSP connection
pub rtsp_served : (tells : Type 0) (before after : ChaCha) (o n : Seat) (l m : Line) (end : TunnelEnd) (back : ConnEnd) (peer : Peer)
    (key : List ℕ) (stream from : ℕ) → back ≡ conn_end end → before ≡ before_draw key stream from → ServesTunnel tells before after o n l m end
    → (to : ℕ) × (after ≡ before_draw key stream to)
    × ServesConn tells (draw_at key stream) from to o n l (record { kind = Rtsp; peer = peer; line = m; end = back })
rtsp_served tells before after o n l m end back peer key stream from is are s =
    let taken = s.takes key stream from are in (
      from + length s.draws,
      taken.1,
      record {
        entries = s.entries;
        served = record {
          tunnel_end = end;
          end_is = is;
          draws = s.draws;
          draws_are = taken.0;
          to_is = refl;
          received = s.received;
          sent = s.sent;
          run = s.run;
          carries = s.carries;
          line_ends = s.line_ends;
        };
        grows = s.grows;
      },
    )

-- it ends as spent only where the tunnel's connection does
pub only_spent : (end : TunnelEnd) → conn_end end ≡ Spent → end ≡ tunnel_spent
only_spent tunnel_full e = cc e
only_spent tunnel_broken e = cc e
only_spent tunnel_done e = cc e
only_spent tunnel_unread e = cc e
only_spent tunnel_lost e = cc e
only_spent tunnel_spent e = refl

-- and never for want of memory
pub never_wants : (end : TunnelEnd) → conn_end end ≡ Want → ⊥
never_wants tunnel_full e = cc e
never_wants tunnel_broken e = cc e
never_wants tunnel_done e = cc e
never_wants tunnel_unread e = cc e
never_wants tunnel_lost e = cc e
never_wants tunnel_spent e = cc e

-- an HTTP connection, all of whose entries are the server's
pub http_served : (tells : Type 0) (outlet_tells : Type 0) (k k' : Cell Setting) (p q : ShownPass) (a b : Outbox) (l m : Line) (end : ConnEnd) (peer : Peer)
    (drawn : ℕ → Draw) (from to : ℕ) → SameCaller k p k' q
    → ServesAny tells outlet_tells Http peer (record { drawn = drawn; from = from; to = to })
    (record { stage = record { may_want = false; known = known_by p; outbox = a }; line = l })
    (record { stage = record { may_want = false; known = known_by q; outbox = b }; line = m }) end
    → ServesConn tells drawn from to (seated k p) (seated k' q) l (record { kind = Http; peer = peer; line = m; end = end })
http_served tells outlet_tells k k' p q a b l m end peer drawn from to same s =
    let more : List TunnelItem = same.own.rest in
    let new : inners more ≡ s.entries =
    same_behind (inners p.own) (inners more) s.entries (sym (inners-append p.own more) ∙ sym (ap inners same.own.whole) ∙ s.makes.adds.own) in
    let none : outers more ≡ [] =
    none_behind (outers p.own) (outers more) (sym (outers-append p.own more) ∙ sym (ap outers same.own.whole) ∙ same.others) in
    let R : List Item → Type 0 = λ es. HttpRun peer drawn from to s.received s.sent end es in
    let L : List Item → Type 0 = λ es. LineEnds end l m (ends_with_last es) in
    record {
      entries = more;
      served = record {
        alone = none;
        received = s.received;
        sent = s.sent;
        run = subst R (sym new) s.run;
        carries = s.carries;
        line_ends = subst L (sym new) s.line_ends;
      };
      grows = record { cell = same.server; keeps = same.pass; seen = same.seen; own = same.own.whole };
    }
