-- The knowledge of a caller of the shared tunnel, and the part of it that stays the same.
use Rattle.std.specs.Prelude.{◌≡◌, ℕ, ◌+◌, ◌<◌, ◌≤◌, ◌^◌, List, [], ◌∷◌, ◌++◌, length, refl}
use Rattle.std.proofs.Common.{arith}
use mathlib.Core.Path.{ap, ◌∙◌}
use Rattle.satip_base.specs.Output.{Output}
use Rattle.satip_base.specs.Lists.{Begins}
use Rattle.satip_base.proofs.Prefixes.{begins_refl, begins_trans}
use Rattle.satip_plain.specs.declared.setting.Setting.{Setting}
use Rattle.satip_plain.specs.Known.{Known}
use Rattle.satip_turn.specs.Shown.{Cell, Shown, Keeps}
use Rattle.satip_interleave.specs.declared.events.TunnelEvent.{TunnelEvent}
use Rattle.satip_interleave.specs.declared.events.TunnelEvent.TheVariants.{Inner, Enter, Drain, Leave}
use Rattle.satip_interleave.specs.declared.events.TunnelAnswer.{TunnelAnswer}
use Rattle.satip_interleave.specs.declared.events.TunnelAnswer.TheVariants.{Inner as InnerAnswer, Lane, Full, Frames, Empty, Broken, Gone, Left}
use Rattle.satip_plain.specs.Histories.{Item}
use Rattle.satip_interleave.specs.Histories.{TunnelItem, inner_by, inners}

-- the contract's view of a pass of the shared tunnel
abbrev pub ShownPass : Type 0
ShownPass = Shown TunnelEvent TunnelAnswer Output Setting

-- the server's entries that the pass has seen, those that it made, and the number of entries of the history that it has seen, the lanes' included
abbrev pub known_by : ShownPass → Known
known_by p = record { seen = inners p.seen; own = inners p.own; length = length p.seen }

-- the entry if its event is one of the lanes, and no entry if it is one of the server
abbrev pub outer_by : TunnelEvent → TunnelItem → List TunnelItem
outer_by (Inner event) t = []
outer_by event t = t ∷ []

-- the entries of the lanes, in order
abbrev pub outers : List TunnelItem → List TunnelItem
outers [] = []
outers (t ∷ ts) = outer_by t.event t ++ outers ts

-- the second caller has the same tunnel, and its pass the same number, kept rows and numbers of passes made. The entries that the first has seen and made are
-- prefixes of those of the second, which made none of the lanes' entries since
pub record SameCaller (k : Cell Setting) (p : ShownPass) (l : Cell Setting) (q : ShownPass) : Type 0 where
  pub server : l ≡ k
  pub pass : Keeps p q
  pub seen : Begins p.seen q.seen
  pub own : Begins p.own q.own
  pub others : outers q.own ≡ outers p.own

-- each caller is the same as itself
pub same_caller : (k : Cell Setting) (p : ShownPass) → SameCaller k p k p
same_caller k p = record {
  server = refl;
  pass = record { number = refl; kept = refl; made = refl };
  seen = begins_refl p.seen;
  own = begins_refl p.own;
  others = refl;
}

-- a caller that is the same as the second is the same as the first
pub same_caller_then : (k : Cell Setting) (p : ShownPass) (l : Cell Setting) (q : ShownPass) (m : Cell Setting) (r : ShownPass)
    → SameCaller k p l q → SameCaller l q m r → SameCaller k p m r
same_caller_then k p l q m r a b = record {
  server = b.server ∙ a.server;
  pass = record { number = b.pass.number ∙ a.pass.number; kept = b.pass.kept ∙ a.pass.kept; made = b.pass.made ∙ a.pass.made };
  seen = begins_trans p.seen q.seen r.seen a.seen b.seen;
  own = begins_trans p.own q.own r.own a.own b.own;
  others = b.others ∙ a.others;
}

-- the same caller has the same setting
pub same_caller_setting : (k : Cell Setting) (p : ShownPass) (l : Cell Setting) (q : ShownPass) → SameCaller k p l q → l.setting ≡ k.setting
same_caller_setting k p l q a = ap (λ (c : Cell Setting). c.setting) a.server

one_at_most : (n : ℕ) (event : TunnelEvent) (answer : TunnelAnswer) (out : Output) (more : List Item) (most : ℕ) → length more ≤ most
    → length (inner_by n event answer out ++ more) ≤ most + 1
one_at_most n (Inner event) (InnerAnswer answer) out more most le = omega arith
one_at_most n (Inner event) (Lane lane) out more most le = omega arith
one_at_most n (Inner event) Full out more most le = omega arith
one_at_most n (Inner event) (Frames count) out more most le = omega arith
one_at_most n (Inner event) Empty out more most le = omega arith
one_at_most n (Inner event) Broken out more most le = omega arith
one_at_most n (Inner event) Gone out more most le = omega arith
one_at_most n (Inner event) Left out more most le = omega arith
one_at_most n Enter answer out more most le = omega arith
one_at_most n (Drain lane) answer out more most le = omega arith
one_at_most n (Leave lane) answer out more most le = omega arith

fewer : (h : List TunnelItem) → length (inners h) ≤ length h
fewer [] = omega arith
fewer (t ∷ ts) = let le = one_at_most t.caller t.event t.answer t.out (inners ts) (length ts) (fewer ts) in omega (arith, le)

-- the server's entries are at most as many as all entries
pub inners_short : (h : List TunnelItem) → length h < 2 ^ 64 → length (inners h) < 2 ^ 64
inners_short h short = let le = fewer h in omega (arith, le)
