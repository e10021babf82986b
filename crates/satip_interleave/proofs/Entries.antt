-- The entries of the server and of the lanes among those of a tunnel.
use Rattle.std.proofs.Common.{◌≡◌, ◌∙◌, ℕ, ◌+◌, List, [], ◌∷◌, ◌++◌, length, append_assoc, arith, refl, sym, ap}
use Rattle.satip_base.specs.Output.{Output}
use Rattle.satip_base.specs.History.{entry, entries}
use Rattle.satip_base.specs.Lists.{Each}
use Rattle.satip_base.proofs.Owned.{entries-append}
use Rattle.satip_interleave.specs.Lanes.{PlainLanes, no_lanes}
use Rattle.satip_plain.specs.declared.events.Event.{Event}
use Rattle.satip_plain.specs.declared.setting.Setting.{Setting}
use Rattle.satip_interleave.specs.declared.events.TunnelEvent.{TunnelEvent}
use Rattle.satip_interleave.specs.declared.events.TunnelEvent.TheVariants.{Inner, Enter, Drain, Leave}
use Rattle.satip_interleave.specs.declared.events.TunnelAnswer.{TunnelAnswer}
use Rattle.satip_interleave.specs.declared.events.TunnelAnswer.TheVariants.{Inner as InnerAnswer, Lane, Full, Frames, Empty, Broken, Gone, Left}
use Rattle.satip_interleave.specs.Answers.{IsAnswered, IsInner}
use Rattle.satip_interleave.specs.Histories.{LanesFrom, TunnelItem, TunnelLegal, inner_by, inners, lanes_from, moved}
use Rattle.satip_interleave.specs.Calling.{outer_by, outers}
use Rattle.satip_interleave.specs.Taking.{AreAnswered, IsInnerEvent, TunnelTaken, inner_taken, inners_taken}

pub inners-append : (h k : List TunnelItem) → inners (h ++ k) ≡ inners h ++ inners k
inners-append [] k = refl
inners-append (t ∷ ts) k =
    ap (λ rest. inner_by t.caller t.event t.answer t.out ++ rest) (inners-append ts k)
    ∙ sym (append_assoc (inner_by t.caller t.event t.answer t.out) (inners ts) (inners k))

pub outers-append : (h k : List TunnelItem) → outers (h ++ k) ≡ outers h ++ outers k
outers-append [] k = refl
outers-append (t ∷ ts) k =
    ap (λ rest. outer_by t.event t ++ rest) (outers-append ts k)
    ∙ sym (append_assoc (outer_by t.event t) (outers ts) (outers k))

-- the last entries are answered over the lanes that those before them left
pub lanes_behind : (lanes : PlainLanes) (h k : List TunnelItem) → LanesFrom lanes (h ++ k) → LanesFrom (lanes_from lanes h) k
lanes_behind lanes [] k all = all
lanes_behind lanes (t ∷ ts) k all = lanes_behind (moved lanes t) ts k all.1

-- the server answered the last event, where it is one of the server
pub last_answered : (c : Setting) (h : List TunnelItem) (n : ℕ) (event : Event) (answer : TunnelAnswer) (out : Output)
    → TunnelLegal c (h ++ entry n (Inner event) answer out ∷ []) → IsInner answer
last_answered c h n event answer out legal = (lanes_behind no_lanes h (entry n (Inner event) answer out ∷ []) legal.lanes).0

answered_inner : (lanes : PlainLanes) (event : TunnelEvent) (answer : TunnelAnswer) (out : Output) → IsInnerEvent event → IsAnswered lanes event answer out
    → IsInner answer
answered_inner lanes (Inner event) answer out is answered = answered
answered_inner lanes Enter answer out is answered = absurd is
answered_inner lanes (Drain lane) answer out is answered = absurd is
answered_inner lanes (Leave lane) answer out is answered = absurd is

all_answered_from : (lanes : PlainLanes) (n : ℕ) (ts : List TunnelTaken) → Each (λ (t : TunnelTaken). IsInnerEvent t.event) ts → LanesFrom lanes (entries n ts)
    → AreAnswered ts
all_answered_from lanes n [] events all = tt
all_answered_from lanes n (t ∷ ts) events all =
    (answered_inner lanes t.event t.answer t.out events.0 all.0, all_answered_from (moved lanes (entry n t.event t.answer t.out)) n ts events.1 all.1)

-- and each of several last events
pub all_answered : (c : Setting) (h : List TunnelItem) (n : ℕ) (ts : List TunnelTaken) → Each (λ (t : TunnelTaken). IsInnerEvent t.event) ts
    → TunnelLegal c (h ++ entries n ts) → AreAnswered ts
all_answered c h n ts events legal = all_answered_from (lanes_from no_lanes h) n ts events (lanes_behind no_lanes h (entries n ts) legal.lanes)

inner_entry : (n : ℕ) (event : TunnelEvent) (answer : TunnelAnswer) (out : Output) → inner_by n event answer out ≡ entries n (inner_taken event answer out)
inner_entry n (Inner event) (InnerAnswer answer) out = refl
inner_entry n (Inner event) (Lane lane) out = refl
inner_entry n (Inner event) Full out = refl
inner_entry n (Inner event) (Frames count) out = refl
inner_entry n (Inner event) Empty out = refl
inner_entry n (Inner event) Broken out = refl
inner_entry n (Inner event) Gone out = refl
inner_entry n (Inner event) Left out = refl
inner_entry n Enter answer out = refl
inner_entry n (Drain lane) answer out = refl
inner_entry n (Leave lane) answer out = refl

-- the server's entries of what was taken
pub inners_of_taken : (n : ℕ) (ts : List TunnelTaken) → inners (entries n ts) ≡ entries n (inners_taken ts)
inners_of_taken n [] = refl
inners_of_taken n (t ∷ ts) =
    ap (λ front. front ++ inners (entries n ts)) (inner_entry n t.event t.answer t.out)
    ∙ ap (λ back. entries n (inner_taken t.event t.answer t.out) ++ back) (inners_of_taken n ts)
    ∙ sym (entries-append n (inner_taken t.event t.answer t.out) (inners_taken ts))

no_outer : (event : TunnelEvent) (t : TunnelItem) (rest : List TunnelItem) → IsInnerEvent event → outer_by event t ++ rest ≡ rest
no_outer (Inner event) t rest is = refl
no_outer Enter t rest is = absurd is
no_outer (Drain lane) t rest is = absurd is
no_outer (Leave lane) t rest is = absurd is

-- none of them is of the lanes
pub no_outers : (n : ℕ) (ts : List TunnelTaken) → Each (λ (t : TunnelTaken). IsInnerEvent t.event) ts → outers (entries n ts) ≡ []
no_outers n [] events = refl
no_outers n (t ∷ ts) events = no_outer t.event (entry n t.event t.answer t.out) (outers (entries n ts)) events.0 ∙ no_outers n ts events.1

one_inner : (event : TunnelEvent) (answer : TunnelAnswer) (out : Output) (n : ℕ) (ts : List TunnelTaken) → IsInnerEvent event → IsInner answer
    → length (inners_taken ts) ≡ n → length (inner_taken event answer out ++ inners_taken ts) ≡ n + 1
one_inner (Inner event) (InnerAnswer answer) out n ts is told e = omega arith
one_inner (Inner event) (Lane lane) out n ts is told e = absurd told
one_inner (Inner event) Full out n ts is told e = absurd told
one_inner (Inner event) (Frames count) out n ts is told e = absurd told
one_inner (Inner event) Empty out n ts is told e = absurd told
one_inner (Inner event) Broken out n ts is told e = absurd told
one_inner (Inner event) Gone out n ts is told e = absurd told
one_inner (Inner event) Left out n ts is told e = absurd told
one_inner Enter answer out n ts is told e = absurd is
one_inner (Drain lane) answer out n ts is told e = absurd is
one_inner (Leave lane) answer out n ts is told e = absurd is

-- and they are as many, where the server answered each
pub all_inner : (ts : List TunnelTaken) → Each (λ (t : TunnelTaken). IsInnerEvent t.event) ts → AreAnswered ts → length (inners_taken ts) ≡ length ts
all_inner [] events answers = refl
all_inner (t ∷ ts) events answers =
    let e = one_inner t.event t.answer t.out (length ts) ts events.0 answers.0 (all_inner ts events.1 answers.1) in
    omega (arith, e)
