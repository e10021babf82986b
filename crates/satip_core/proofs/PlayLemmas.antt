-- What an accepted PLAY does.
use Rattle.std.proofs.Common.{◌≡◌, ◌∙◌, ℕ, true, false, cond, List, [], ◌++◌, map, find, Option, Some, None, option_map, ap, sym, subst, append-nil}
use Rattle.std.specs.Option.{option_map_or}
use Rattle.std.proofs.lemmas.Option.{same_Some}
use Rattle.satip_base.specs.Output.{Output, Wrote, empty}
use Rattle.satip_rtsp.specs.Replies.{play_reply}
use Rattle.satip_plain.specs.declared.answers.Answer.{Answer}
use Rattle.satip_plain.specs.declared.answers.Answer.TheVariants.{Replied}
use Rattle.satip_plain.specs.Types.{Config, Request, SessionId}
use Rattle.satip_plain.specs.State.{Session, State}
use Rattle.satip_plain.specs.Sending.{Move, settle, then_move}
use Rattle.satip_plain.specs.Streams.{change_by}
use Rattle.satip_plain.specs.Refusals.{session_named}
use Rattle.satip_plain.specs.Steps.{Outcome, accepted, change_session, is_session, next_number, play_of}
use Rattle.satip_plain.specs.Histories.{datagram}
use Rattle.satip_state.specs.Kept.{Kept}
use Rattle.satip_state.specs.Looks.{rtsp_number}
use Rattle.satip_state.specs.Standing.{StandsFor, Moved}
use Rattle.satip_state.proofs.Picking.{map_some}
use Rattle.satip_core.specs.declared.places.Party.{Party}
use Rattle.satip_core.specs.Doing.{Did}
use Rattle.satip_core.specs.RefusalRows.{party_of}
use Rattle.satip_core.proofs.KindLemmas.{kind, kind_changed, kind_played}

rtsp_next : (o : Option Session) → option_map (λ (s : Session). s.http) o ≡ Some false → rtsp_number o ≡ option_map_or next_number o 0
rtsp_next None e = absurd (cc)
rtsp_next (Some s) e = ap (λ b. cond b 0 (next_number s)) (same_Some s.http false e)

-- the session of this id plays the stream of this number
abbrev playing : SessionId → Move → Move
playing id m = then_move m (λ now. settle (change_session id (λ x. record x { playing = true }) now))

abbrev play_at : Config → Request → State → SessionId → ℕ → Outcome
play_at c r st id number =
    let m = playing id (change_by c number r.query st) in
    accepted m (play_reply r.cseq id c.address number (option_map_or next_number (find (is_session id) m.state.sessions) 0))

pub did_play : (c : Config) (v w : Kept) (o p n : Output) (r : Request) (st : State) (party : Party) (address seq : ℕ) (said : Answer)
    → o ≡ empty → said ≡ Replied (record { status = 200; closing = false })
    → Some party ≡ option_map party_of (session_named st r.session) → kind party.id st.sessions ≡ Some false
    → Moved c v o p (change_by c party.stream r.query st)
    → StandsFor c w (change_session party.id (λ x. record x { playing = true }) (change_by c party.stream r.query st).state)
    → seq ≡ rtsp_number (find (is_session party.id) (change_session party.id (λ x. record x { playing = true }) (change_by c party.stream r.query st).state).sessions)
    → address ≡ c.address
    → Wrote p (play_reply r.cseq party.id address party.stream seq) n
    → Did c w said n (option_map_or (play_of c r st) (session_named st r.session) (accepted (settle st) []))
did_play c v w o p n r st party address seq said cleared same named kinded moved stands number at wrote =
    let m = map_some party_of (session_named st r.session) party (sym named) in
    let changed : Move = change_by c party.stream r.query st in
    let after : List Session = (change_session party.id (λ x. record x { playing = true }) changed.state).sessions in
    let rtsp : kind party.id after ≡ Some false = kind_played party.id party.id changed.state.sessions ∙ kind_changed c party.stream r.query st party.id ∙ kinded in
    let next : seq ≡ option_map_or next_number (find (is_session party.id) after) 0 = number ∙ rtsp_next (find (is_session party.id) after) rtsp in
    let reply : List ℕ = play_reply r.cseq party.id c.address party.stream (option_map_or next_number (find (is_session party.id) after) 0) in
    let did : Did c w said n (play_at c r st party.id party.stream) = record {
      stands = stands;
      answer = same;
      reply = wrote.reply ∙ ap (λ (bs : List ℕ). bs ++ play_reply r.cseq party.id address party.stream seq)
          (moved.sent.reply ∙ ap (λ (x : Output). x.reply) cleared)
          ∙ ap (λ (a : ℕ). play_reply r.cseq party.id a party.stream seq) at ∙ ap (λ (s : ℕ). play_reply r.cseq party.id c.address party.stream s) next;
      datagrams = wrote.datagrams ∙ moved.sent.datagrams ∙ ap (λ (x : Output). x.datagrams ++ map datagram changed.sent) cleared
          ∙ ap (map datagram) (sym (append-nil changed.sent));
    } in
    subst (Did c w said n) (ap (λ (x : Party). play_at c r st x.id x.stream) (sym m.2)
    ∙ ap (λ (o : Option Session). option_map_or (play_of c r st) o (accepted (settle st) [])) (sym m.1)) did
