-- In a legal history of a tunnel each answer suits its event.
use Rattle.std.proofs.Common.{◌≡◌, ◌≢◌, ◌∙◌, ℕ, Bool, true, false, List, [], ◌∷◌, ◌++◌, Option, Some, None, refl, sym, ap, subst}
use Rattle.satip_base.specs.Output.{Output}
use Rattle.satip_base.specs.declared.network.Peer.{Peer}
use Rattle.satip_base.specs.declared.identity.Draw.{Draw}
use Rattle.satip_rtsp_interleaved.specs.Requests.{asked_by_tunnel}
use Rattle.satip_frame.specs.Said.{Said}
use Rattle.satip_frame.specs.declared.framing.Break.{Break}
use Rattle.satip_frame.specs.declared.framing.Break.TheVariants.{Bad, TooLong}
use Rattle.satip_rtsp.specs.declared.requests.Refusal.{Refusal}
use Rattle.satip_rtsp.specs.declared.requests.Refusal.TheVariants.{Broken as RefusedBroken, TooLong as RefusedTooLong, NoCseq, Version, Method as BadMethod, Require, Target as BadTarget, Query as QueryAt}
use Rattle.satip_rtsp.specs.Asked.{asked, broken_request}
use Rattle.satip_rtsp.proofs.Causes.{causes}
use Rattle.satip_base.specs.History.{entry}
use Rattle.satip_interleave.specs.declared.lane.Drained.{Drained}
use Rattle.satip_interleave.specs.declared.lane.Drained.TheVariants.{Frames as drained_frames, Empty as drained_empty, Broken as drained_broken, Gone as drained_gone}
use Rattle.satip_interleave.specs.Lanes.{PlainLanes, no_lanes, entered_number, drain_answer, lane_of, is_held}
use Rattle.satip_plain.specs.declared.answers.Answer.{Answer}
use Rattle.satip_plain.specs.declared.answers.Answer.TheVariants.{Replied as AnswerReplied, Get, Beat, Work, Pulled, Closed}
use Rattle.satip_plain.specs.declared.answers.Replied.{Replied}
use Rattle.satip_plain.specs.declared.events.Event.TheVariants.{Request as Asks}
use Rattle.satip_plain.specs.declared.setting.Setting.{Setting}
use Rattle.satip_rtsp.specs.declared.requests.Request.{Request}
use Rattle.satip_plain.specs.Suits.{Suits, closes}
use Rattle.satip_turn.specs.Shown.{Turned}
use Rattle.satip_interleave.specs.Calling.{ShownPass}
use Rattle.satip_interleave.proofs.Calling.{made_by}
use Rattle.satip_interleave.specs.declared.events.TunnelEvent.{TunnelEvent}
use Rattle.satip_interleave.specs.declared.events.TunnelEvent.TheVariants.{Inner, Enter, Drain, Leave}
use Rattle.satip_interleave.specs.declared.events.TunnelAnswer.{TunnelAnswer}
use Rattle.satip_interleave.specs.declared.events.TunnelAnswer.TheVariants.{Inner as InnerAnswer, Lane, Full, Frames, Empty, Broken, Gone, Left}
use Rattle.satip_interleave.specs.Answers.{IsAnswered, IsInner}
use Rattle.satip_interleave.specs.Tunnels.{lane_told, drain_told, left_told}
use Rattle.satip_interleave.specs.Histories.{LanesFrom, TunnelItem, TunnelLegal, lanes_from, moved}
use Rattle.satip_tunnel.specs.Events.{SuitsTunnel}

last_answer : (lanes : PlainLanes) (h : List TunnelItem) (t : TunnelItem) → LanesFrom lanes (h ++ t ∷ [])
    → IsAnswered (lanes_from lanes h) t.event t.answer t.out
last_answer lanes [] t all = all.0
last_answer lanes (u ∷ us) t all = last_answer (moved lanes u) us t all.1

enter_suits : (number : Option ℕ) (answer : TunnelAnswer) → answer ≡ lane_told number → SuitsTunnel Enter answer
enter_suits None answer is = subst (λ (a : TunnelAnswer). SuitsTunnel Enter a) (sym is) tt
enter_suits (Some lane) answer is = subst (λ (a : TunnelAnswer). SuitsTunnel Enter a) (sym is) tt

drain_suits : (lane : ℕ) (drained : Drained) (answer : TunnelAnswer) → answer ≡ drain_told drained → SuitsTunnel (Drain lane) answer
drain_suits lane (drained_frames count) answer is = subst (λ (a : TunnelAnswer). SuitsTunnel (Drain lane) a) (sym is) tt
drain_suits lane drained_empty answer is = subst (λ (a : TunnelAnswer). SuitsTunnel (Drain lane) a) (sym is) tt
drain_suits lane drained_broken answer is = subst (λ (a : TunnelAnswer). SuitsTunnel (Drain lane) a) (sym is) tt
drain_suits lane drained_gone answer is = subst (λ (a : TunnelAnswer). SuitsTunnel (Drain lane) a) (sym is) tt

leave_suits : (lane : ℕ) (held : Bool) (answer : TunnelAnswer) → answer ≡ left_told held → SuitsTunnel (Leave lane) answer
leave_suits lane true answer is = subst (λ (a : TunnelAnswer). SuitsTunnel (Leave lane) a) (sym is) tt
leave_suits lane false answer is = subst (λ (a : TunnelAnswer). SuitsTunnel (Leave lane) a) (sym is) tt

lanes_suit : (lanes : PlainLanes) (event : TunnelEvent) (answer : TunnelAnswer) (out : Output) → (IsInner answer → SuitsTunnel event answer)
    → IsAnswered lanes event answer out → SuitsTunnel event answer
lanes_suit lanes (Inner event) answer out inner is = inner is
lanes_suit lanes Enter answer out inner is = enter_suits (entered_number lanes) answer is.told
lanes_suit lanes (Drain lane) answer out inner is = drain_suits lane (drain_answer (lane_of lane lanes.held)) answer is.told
lanes_suit lanes (Leave lane) answer out inner is = leave_suits lane (is_held lane lanes) answer is.told

server_suits : (c : Setting) (p q : ShownPass) (event : TunnelEvent) (answer : TunnelAnswer) (out : Output)
    → TunnelLegal c q.seen → Turned p q (entry p.number event answer out ∷ []) → IsInner answer
    → (lanes : PlainLanes) → IsAnswered lanes event answer out → SuitsTunnel event answer
server_suits c p q (Inner event) (InnerAnswer answer) out lawful turned is lanes told =
    (made_by c p q event event (InnerAnswer answer) answer out refl refl lawful turned).suits
server_suits c p q Enter answer out lawful turned is lanes told = enter_suits (entered_number lanes) answer told.told
server_suits c p q (Drain lane) answer out lawful turned is lanes told = drain_suits lane (drain_answer (lane_of lane lanes.held)) answer told.told
server_suits c p q (Leave lane) answer out lawful turned is lanes told = leave_suits lane (is_held lane lanes) answer told.told
server_suits c p q (Inner event) (Lane lane) out lawful turned is lanes told = absurd is
server_suits c p q (Inner event) Full out lawful turned is lanes told = absurd is
server_suits c p q (Inner event) (Frames count) out lawful turned is lanes told = absurd is
server_suits c p q (Inner event) Empty out lawful turned is lanes told = absurd is
server_suits c p q (Inner event) Broken out lawful turned is lanes told = absurd is
server_suits c p q (Inner event) Gone out lawful turned is lanes told = absurd is
server_suits c p q (Inner event) Left out lawful turned is lanes told = absurd is

-- the answer of the last entry suits its event
pub suits_by : (c : Setting) (p q : ShownPass) (event : TunnelEvent) (answer : TunnelAnswer) (out : Output)
    → TunnelLegal c q.seen → Turned p q (entry p.number event answer out ∷ []) → SuitsTunnel event answer
suits_by c p q event answer out lawful turned =
    let t : TunnelItem = entry p.number event answer out in
    let L : List TunnelItem → Type 0 = λ h. LanesFrom no_lanes h in
    let whole : q.seen ≡ (p.seen ++ turned.between) ++ t ∷ [] = turned.seen ∙ ap (λ (h : List TunnelItem). h ++ t ∷ []) turned.looked in
    let told = last_answer no_lanes (p.seen ++ turned.between) t (subst L whole lawful.lanes) in
    let lanes = lanes_from no_lanes (p.seen ++ turned.between) in
    lanes_suit lanes event answer out (λ is. server_suits c p q event answer out lawful turned is lanes told) told

-- a request is answered with a reply, which is a closing one exactly where what was asked is no message
pub record RepliedSo (request : Request) (answer : TunnelAnswer) : Type 0 where
  pub replied : Replied
  pub is : answer ≡ InnerAnswer (AnswerReplied replied)
  pub closing : replied.closing ≡ closes request.refusal

replied_by : (peer : Peer) (draw : Draw) (request : Request) (answer : Answer) → Suits (Asks peer draw request) answer
    → RepliedSo request (InnerAnswer answer)
replied_by peer draw request (AnswerReplied replied) suits = record { replied = replied; is = refl; closing = suits }
replied_by peer draw request (Get answer) suits = absurd suits
replied_by peer draw request (Beat beat) suits = absurd suits
replied_by peer draw request (Work work) suits = absurd suits
replied_by peer draw request (Pulled pulled) suits = absurd suits
replied_by peer draw request (Closed closed) suits = absurd suits

pub replied_so : (peer : Peer) (draw : Draw) (request : Request) (answer : TunnelAnswer) → SuitsTunnel (Inner (Asks peer draw request)) answer
    → RepliedSo request answer
replied_so peer draw request (InnerAnswer answer) suits = replied_by peer draw request answer suits
replied_so peer draw request (Lane lane) suits = absurd suits
replied_so peer draw request Full suits = absurd suits
replied_so peer draw request (Frames count) suits = absurd suits
replied_so peer draw request Empty suits = absurd suits
replied_so peer draw request Broken suits = absurd suits
replied_so peer draw request Gone suits = absurd suits
replied_so peer draw request Left suits = absurd suits

-- what was asked of no closing kind
pub goes_on : (refusal : Option Refusal) → refusal ≢ Some RefusedBroken → refusal ≢ Some RefusedTooLong → closes refusal ≡ false
goes_on None broken_request long = refl
goes_on (Some RefusedBroken) broken_request long = absurd (broken_request refl)
goes_on (Some RefusedTooLong) broken_request long = absurd (long refl)
goes_on (Some NoCseq) broken_request long = refl
goes_on (Some Version) broken_request long = refl
goes_on (Some BadMethod) broken_request long = refl
goes_on (Some (Require kept)) broken_request long = refl
goes_on (Some BadTarget) broken_request long = refl
goes_on (Some (QueryAt fault)) broken_request long = refl

-- a message closes no connection
pub message_goes_on : (said : Said) → closes (asked_by_tunnel said).refusal ≡ false
message_goes_on said = let by = causes said in goes_on (asked said).refusal by.not_broken by.not_too_long

-- what is no message closes it
pub broken_closes : (cause : Break) → closes (broken_request cause).refusal ≡ true
broken_closes Bad = refl
broken_closes TooLong = refl
