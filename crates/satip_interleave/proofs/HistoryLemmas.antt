-- A tunnel stands for a history, and for one more entry after its step.
use Rattle.std.proofs.Common.{◌≡◌, ℕ, List, [], ◌∷◌, ◌++◌, append-nil, append_assoc, refl, sym, ap, subst, ◌∙◌}
use Rattle.satip_base.specs.Output.{Output}
use Rattle.satip_base.specs.History.{entry}
use Rattle.satip_core.specs.Held.{Held as HeldServer}
use Rattle.satip_core.specs.Serving.{StandsAfter}
use Rattle.satip_interleave.specs.Lanes.{PlainLanes, no_lanes}
use Rattle.satip_plain.specs.Histories.{Item}
use Rattle.satip_interleave.specs.declared.events.TunnelEvent.{TunnelEvent}
use Rattle.satip_interleave.specs.declared.events.TunnelEvent.TheVariants.{Inner, Enter, Drain, Leave}
use Rattle.satip_interleave.specs.declared.events.TunnelAnswer.{TunnelAnswer}
use Rattle.satip_interleave.specs.declared.events.TunnelAnswer.TheVariants.{Inner as InnerAnswer, Lane, Full, Frames, Empty, Broken, Gone, Left}
use Rattle.satip_interleave.specs.Held.{Held}
use Rattle.satip_interleave.specs.Tunnels.{moved_by}
use Rattle.satip_interleave.specs.Answers.{IsAnswered}
use Rattle.satip_interleave.specs.Histories.{LanesFrom, TunnelItem, inner_by, inners, lanes_after, lanes_from, moved}
use Rattle.satip_interleave.specs.Standing.{MatchInner, Stands}

inners-append : (h k : List TunnelItem) → inners (h ++ k) ≡ inners h ++ inners k
inners-append [] k = refl
inners-append (t ∷ ts) k =
    ap (λ rest. inner_by t.caller t.event t.answer t.out ++ rest) (inners-append ts k)
    ∙ sym (append_assoc (inner_by t.caller t.event t.answer t.out) (inners ts) (inners k))

lanes_from-append : (lanes : PlainLanes) (h k : List TunnelItem) → lanes_from lanes (h ++ k) ≡ lanes_from (lanes_from lanes h) k
lanes_from-append lanes [] k = refl
lanes_from-append lanes (t ∷ ts) k = lanes_from-append (moved lanes t) ts k

answered_more : (lanes : PlainLanes) (h k : List TunnelItem) → LanesFrom lanes h → LanesFrom (lanes_from lanes h) k → LanesFrom lanes (h ++ k)
answered_more lanes [] k a b = b
answered_more lanes (t ∷ ts) k a b = (a.0, answered_more (moved lanes t) ts k a.1 b)

-- one more of the server's entries, or none
server_more : (old new : HeldServer) (h : List Item) (n : ℕ) (event : TunnelEvent) (answer : TunnelAnswer) (out : Output)
    → MatchInner old event answer out new → StandsAfter old h → StandsAfter new (h ++ inner_by n event answer out)
server_more old new h n (Inner e) (InnerAnswer a) out done stands = done.stands h n stands
server_more old new h n (Inner e) (Lane number) out done stands = absurd done
server_more old new h n (Inner e) Full out done stands = absurd done
server_more old new h n (Inner e) (Frames count) out done stands = absurd done
server_more old new h n (Inner e) Empty out done stands = absurd done
server_more old new h n (Inner e) Broken out done stands = absurd done
server_more old new h n (Inner e) Gone out done stands = absurd done
server_more old new h n (Inner e) Left out done stands = absurd done
server_more old new h n Enter answer out done stands =
    subst (λ s. StandsAfter s (h ++ [])) (sym done) (subst (λ k. StandsAfter old k) (sym (append-nil h)) stands)
server_more old new h n (Drain lane) answer out done stands =
    subst (λ s. StandsAfter s (h ++ [])) (sym done) (subst (λ k. StandsAfter old k) (sym (append-nil h)) stands)
server_more old new h n (Leave lane) answer out done stands =
    subst (λ s. StandsAfter s (h ++ [])) (sym done) (subst (λ k. StandsAfter old k) (sym (append-nil h)) stands)

-- one more entry
pub stands_more : (old new : Held) (h : List TunnelItem) (n : ℕ) (event : TunnelEvent) (answer : TunnelAnswer) (out : Output)
    → IsAnswered old.lanes event answer out → new.lanes ≡ moved_by event out.datagrams old.lanes
    → MatchInner old.server event answer out new.server → Stands old h → Stands new (h ++ entry n event answer out ∷ [])
stands_more old new h n event answer out answered lanes server stands =
    let t : TunnelItem = entry n event answer out in
    let last : inners (t ∷ []) ≡ inner_by n event answer out = append-nil (inner_by n event answer out) in
    let whole : inners (h ++ t ∷ []) ≡ inners h ++ inner_by n event answer out =
    inners-append h (t ∷ []) ∙ ap (λ rest. inners h ++ rest) last in
    let is : IsAnswered (lanes_after h) event answer out = subst (λ l. IsAnswered l event answer out) stands.lanes answered in
    record {
      server = subst (λ k. StandsAfter new.server k) (sym whole) (server_more old.server new.server (inners h) n event answer out server stands.server);
      lanes = lanes ∙ ap (moved_by event out.datagrams) stands.lanes ∙ sym (lanes_from-append no_lanes h (t ∷ []));
      answered = answered_more no_lanes h (t ∷ []) stands.answered (is, tt);
    }
