-- What becomes of one session: what it is given, what leaves it, and what it is then.
use Rattle.std.proofs.Common.{◌≡◌, ℕ, ◌+◌, ◌≤◌, Bool, true, false, List, [], ◌++◌, map, length, sum, Option, Some, None, refl, ap, sym, subst, ◌∙◌, if◌then◌else◌, append-nil, append_assoc, length-append}
use Rattle.std.proofs.lemmas.List.{length-map, map-append}
use Rattle.std.proofs.lemmas.Grind.{flat_map-append}
use Rattle.satip_plain.specs.State.{Session, held}
use Rattle.satip_plain.specs.Steps.{most_queued}
use Rattle.satip_laws.specs.Makings.{IsKept}
use Rattle.satip_laws.proofs.Told.{Told, told_of, told_of-append, all_of}

-- how many packets a session holds at most
abbrev pub most_of : Bool → ℕ
most_of true = most_queued
most_of false = 6

-- no more left than was given, and what is held is within its limit
pub record Fine (x : Session) : Type 0 where
  pub within : sum x.sizes ≤ length x.picked
  pub few : length (held x) ≤ most_of x.http

-- x becomes y as it is given packets, and these groups leave it
pub record Becomes (x : Session) (got : List (List ℕ)) (groups : List (List (List ℕ))) (y : Session) : Type 0 where
  pub kept : IsKept x y
  pub picked : y.picked ≡ x.picked ++ got
  pub sizes : y.sizes ≡ x.sizes ++ map length groups
  pub fine : Fine x → Fine y
  pub whole : Fine x → held x ++ got ≡ all_of groups ++ held y

-- x ends: nothing of an RTSP session is left
pub record Ends (x : Session) (got : List (List ℕ)) (groups : List (List (List ℕ))) : Type 0 where
  pub rest : List (List ℕ)
  pub whole : Fine x → held x ++ got ≡ all_of groups ++ rest
  pub none : x.http ≡ false → rest ≡ []

abbrev pub Follows : Session → List (List ℕ) → List (List (List ℕ)) → Option Session → Type 0
Follows x got groups None = Ends x got groups
Follows x got groups (Some y) = Becomes x got groups y

-- what the groups tell where they leave as RTP datagrams
abbrev pub told_by : Session → List (List (List ℕ)) → List Told
told_by x groups = if x.http then [] else told_of x.first x.ssrc (length x.sizes) groups

-- from x on: what is told of it, what it is given, what its pulls take, and what it is then
pub record Evolves (x : Session) (ts : List Told) (got took : List (List ℕ)) (o : Option Session) : Type 0 where
  pub groups : List (List (List ℕ))
  pub tells : ts ≡ told_by x groups
  pub takes : x.http ≡ true → took ≡ all_of groups
  pub follows : Follows x got groups o

-- the same of a session that may not be there
abbrev pub Runs : Option Session → List Told → List (List ℕ) → List (List ℕ) → Option Session → Type 0
Runs None ts got took o = (ts ≡ []) × (got ≡ []) × (took ≡ []) × (o ≡ None)
Runs (Some x) ts got took o = Evolves x ts got took o

kept_then : (x y z : Session) → IsKept x y → IsKept y z → IsKept x z
kept_then x y z p q = record { id = q.id ∙ p.id; http = q.http ∙ p.http; stream = q.stream ∙ p.stream; ssrc = q.ssrc ∙ p.ssrc; first = q.first ∙ p.first }

pub kept_same : (x : Session) → IsKept x x
kept_same x = record { id = refl; http = refl; stream = refl; ssrc = refl; first = refl }

whole_then : {X : Type 0} → (h ga gb ca hy cb hz : List X) → h ++ ga ≡ ca ++ hy → hy ++ gb ≡ cb ++ hz → h ++ (ga ++ gb) ≡ (ca ++ cb) ++ hz
whole_then h ga gb ca hy cb hz p q =
    sym (append_assoc h ga gb) ∙ ap (λ l. l ++ gb) p ∙ append_assoc ca hy gb ∙ ap (λ l. ca ++ l) q ∙ sym (append_assoc ca cb hz)

all_of-append : (gs hs : List (List (List ℕ))) → all_of (gs ++ hs) ≡ all_of gs ++ all_of hs
all_of-append gs hs = flat_map-append (λ g. g) gs hs

becomes_then : (x : Session) (g : List (List ℕ)) (gs : List (List (List ℕ))) (y : Session) (h : List (List ℕ)) (hs : List (List (List ℕ))) (z : Session)
    → Becomes x g gs y → Becomes y h hs z → Becomes x (g ++ h) (gs ++ hs) z
becomes_then x g gs y h hs z p q = record {
  kept = kept_then x y z p.kept q.kept;
  picked = q.picked ∙ ap (λ l. l ++ h) p.picked ∙ append_assoc x.picked g h;
  sizes = q.sizes ∙ ap (λ l. l ++ map length hs) p.sizes ∙ append_assoc x.sizes (map length gs) (map length hs)
      ∙ ap (λ l. x.sizes ++ l) (sym (map-append length gs hs));
  fine = λ f. q.fine (p.fine f);
  whole = λ f. whole_then (held x) g h (all_of gs) (held y) (all_of hs) (held z) (p.whole f) (q.whole (p.fine f))
      ∙ ap (λ l. l ++ held z) (sym (all_of-append gs hs));
}

ends_then : (x : Session) (g : List (List ℕ)) (gs : List (List (List ℕ))) (y : Session) (h : List (List ℕ)) (hs : List (List (List ℕ)))
    → Becomes x g gs y → Ends y h hs → Ends x (g ++ h) (gs ++ hs)
ends_then x g gs y h hs p q = record {
  rest = q.rest;
  whole = λ f. whole_then (held x) g h (all_of gs) (held y) (all_of hs) q.rest (p.whole f) (q.whole (p.fine f))
      ∙ ap (λ l. l ++ q.rest) (sym (all_of-append gs hs));
  none = λ e. q.none (p.kept.http ∙ e);
}

follows_then : (x : Session) (g : List (List ℕ)) (gs : List (List (List ℕ))) (y : Session) (h : List (List ℕ)) (hs : List (List (List ℕ))) (o : Option Session)
    → Becomes x g gs y → Follows y h hs o → Follows x (g ++ h) (gs ++ hs) o
follows_then x g gs y h hs None p q = ends_then x g gs y h hs p q
follows_then x g gs y h hs (Some z) p q = becomes_then x g gs y h hs z p q

told_then : (b : Bool) (first ssrc n m : ℕ) (gs hs : List (List (List ℕ))) → m ≡ n + length gs
    → (if b then [] else told_of first ssrc n gs) ++ (if b then [] else told_of first ssrc m hs) ≡ (if b then [] else told_of first ssrc n (gs ++ hs))
told_then true first ssrc n m gs hs e = refl
told_then false first ssrc n m gs hs e = rw e (told_of-append first ssrc n gs hs)

told_by_then : (x y : Session) (g : List (List ℕ)) (gs hs : List (List (List ℕ))) → Becomes x g gs y → told_by x gs ++ told_by y hs ≡ told_by x (gs ++ hs)
told_by_then x y g gs hs p =
    let k : IsKept x y = p.kept in
    let many : length y.sizes ≡ length x.sizes + length gs =
    ap length p.sizes ∙ length-append x.sizes (map length gs) ∙ ap (λ n. length x.sizes + n) (length-map gs length) in
    let same : told_by y hs ≡ (if x.http then [] else told_of x.first x.ssrc (length y.sizes) hs) = rw (k.http, k.first, k.ssrc) refl in
    ap (λ l. told_by x gs ++ l) same ∙ told_then x.http x.first x.ssrc (length x.sizes) (length y.sizes) gs hs many

-- one after another
pub evolves_then : (x : Session) (a : List Told) (g t : List (List ℕ)) (o : Option Session) (b : List Told) (h u : List (List ℕ)) (o' : Option Session)
    → Evolves x a g t o → Runs o b h u o' → Evolves x (a ++ b) (g ++ h) (t ++ u) o'
evolves_then x a g t None b h u o' p q = rw (q.0, q.1, q.2, q.3, append-nil a, append-nil g, append-nil t) p
evolves_then x a g t (Some y) b h u o' p q = record {
  groups = p.groups ++ q.groups;
  tells = ap (λ l. l ++ b) p.tells ∙ ap (λ l. told_by x p.groups ++ l) q.tells ∙ told_by_then x y g p.groups q.groups p.follows;
  takes = λ e. ap (λ l. l ++ u) (p.takes e) ∙ ap (λ l. all_of p.groups ++ l) (q.takes (p.follows.kept.http ∙ e)) ∙ sym (all_of-append p.groups q.groups);
  follows = follows_then x g p.groups y h q.groups o' p.follows q.follows;
}

pub runs_then : (o : Option Session) (a : List Told) (g t : List (List ℕ)) (o' : Option Session) (b : List Told) (h u : List (List ℕ)) (o'' : Option Session)
    → Runs o a g t o' → Runs o' b h u o'' → Runs o (a ++ b) (g ++ h) (t ++ u) o''
runs_then None a g t None b h u o'' p q = (rw (p.0, q.0) refl, rw (p.1, q.1) refl, rw (p.2, q.2) refl, q.3)
runs_then None a g t (Some y) b h u o'' p q = cc
runs_then (Some x) a g t o' b h u o'' p q = evolves_then x a g t o' b h u o'' p q

-- where nothing is given and nothing leaves
pub becomes_same : (x y : Session) → IsKept x y → y.picked ≡ x.picked → y.sizes ≡ x.sizes → Becomes x [] [] y
becomes_same x y kept picked sizes =
    let hold : held y ≡ held x = rw (picked, sizes) refl in
    record {
      kept = kept;
      picked = picked ∙ sym (append-nil x.picked);
      sizes = sizes ∙ sym (append-nil x.sizes);
      fine = λ f. record { within = rw (picked, sizes) f.within; few = rw (hold, kept.http) f.few };
      whole = λ f. append-nil (held x) ∙ sym hold;
    }

told_none : (b : Bool) (first ssrc n : ℕ) → [] ≡ (if b then [] else told_of first ssrc n [])
told_none true first ssrc n = refl
told_none false first ssrc n = refl

pub evolves_same : (x y : Session) → IsKept x y → y.picked ≡ x.picked → y.sizes ≡ x.sizes → Evolves x [] [] [] (Some y)
evolves_same x y kept picked sizes = record {
  groups = [];
  tells = told_none x.http x.first x.ssrc (length x.sizes);
  takes = λ e. refl;
  follows = becomes_same x y kept picked sizes;
}

pub runs_still : (o : Option Session) → Runs o [] [] [] o
runs_still None = (refl, refl, refl, refl)
runs_still (Some x) = evolves_same x x (kept_same x) refl refl

-- whoever evolves stays within its limits
pub runs_fine : (o : Option Session) (ts : List Told) (g t : List (List ℕ)) (o' : Option Session) (y : Session) → Runs o ts g t o'
    → ((x : Session) → o ≡ Some x → Fine x) → o' ≡ Some y → Fine y
runs_fine None ts g t o' y r fine e = cc
runs_fine (Some x) ts g t None y r fine e = cc
runs_fine (Some x) ts g t (Some z) y r fine e = subst Fine (some_is z y e) (r.follows.fine (fine x refl))
  where
    some_is : (a b : Session) → Some a ≡ Some b → a ≡ b
    some_is a b e = cc
