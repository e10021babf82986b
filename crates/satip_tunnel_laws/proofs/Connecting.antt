-- What the drains of one connection took, among the entries of its caller's others.
use Rattle.std.proofs.Common.{◌≡◌, ◌∙◌, ℕ, ◌==◌, Bool, true, false, List, [], ◌∷◌, ◌++◌, append-nil, append_assoc, refl, sym, ap, subst, inl, inr}
use Rattle.std.specs.List.{flat_map}
use Rattle.satip_base.specs.History.{kept_if, own_of}
use Rattle.satip_base.specs.Lists.{Each, Has}
use Rattle.satip_base.proofs.Elements.{Each-append, Has-append_left, Has-append_right, each_follows, each_has}
use Rattle.satip_interleave.specs.Calls.{IsRising}
use Rattle.satip_interleave.specs.declared.events.TunnelEvent.{TunnelEvent}
use Rattle.satip_interleave.specs.declared.events.TunnelEvent.TheVariants.{Inner, Enter, Drain, Leave}
use Rattle.satip_interleave.specs.declared.events.TunnelAnswer.{TunnelAnswer}
use Rattle.satip_interleave.specs.declared.events.TunnelAnswer.TheVariants.{Inner as InnerAnswer, Lane, Full, Frames, Empty, Broken, Gone, Left}
use Rattle.satip_interleave.specs.Histories.{TunnelItem}
use Rattle.satip_interleave.specs.Laws.{LaneNumbersRise, number_in, numbers_in}
use Rattle.satip_tunnel_laws.specs.LaneFrames.{drained, drained_by, drains, enters}
use Rattle.satip_tunnel_laws.specs.Owners.{ConnectionsTakeFirst, DrainsGiven, DrainsOwn, EntersDrainOwn, IsLaneOf, IsOfGiven, LanesAreOwn, PartsDrainOwn, given_by, touches}
use Rattle.satip_tunnel_laws.proofs.Owning.{among_own, given_once, not_touched, rising_later, touched_if, was_given}

-- the numbers given to one caller rise as well

rising_push : (low : ℕ) (answer : TunnelAnswer) (xs ys : List ℕ) → ((high : ℕ) → IsRising high xs → IsRising high ys) → IsRising low (number_in answer ++ xs)
    → IsRising low (number_in answer ++ ys)
rising_push low (InnerAnswer answer) xs ys then_ys rises = then_ys low rises
rising_push low (Lane number) xs ys then_ys rises = (rises.0, then_ys number rises.1)
rising_push low Full xs ys then_ys rises = then_ys low rises
rising_push low (Frames count) xs ys then_ys rises = then_ys low rises
rising_push low Empty xs ys then_ys rises = then_ys low rises
rising_push low Broken xs ys then_ys rises = then_ys low rises
rising_push low Gone xs ys then_ys rises = then_ys low rises
rising_push low Left xs ys then_ys rises = then_ys low rises

rising_own : (n : ℕ) (h : List TunnelItem) (low : ℕ) → IsRising low (numbers_in h) → IsRising low (numbers_in (own_of n h))
rising_own n [] low rises = tt
rising_own n (t ∷ ts) low rises = each (t.caller == n) (λ (high : ℕ) (rest : IsRising high (numbers_in ts)). rising_own n ts high rest)
  where
    each : (b : Bool) → ((high : ℕ) → IsRising high (numbers_in ts) → IsRising high (numbers_in (own_of n ts)))
        → IsRising low (numbers_in (kept_if b t (own_of n ts)))
    each true rest = rising_push low t.answer (numbers_in ts) (numbers_in (own_of n ts)) rest rises
    each false rest = rest low (rising_later low t.answer (numbers_in ts) rises)

rising_behind : (a b : List TunnelItem) (low : ℕ) → IsRising low (numbers_in (a ++ b)) → IsRising low (numbers_in b)
rising_behind [] b low rises = rises
rising_behind (t ∷ ts) b low rises = rising_behind ts b low (rising_later low t.answer (numbers_in (ts ++ b)) rises)

-- no number is given in two parts
pub given_apart : (x : ℕ) (a b : List TunnelItem) (low : ℕ) (d e : TunnelItem) → IsRising low (numbers_in (a ++ b)) → Has d a → enters x d.event d.answer ≡ true
    → Has e b → enters x e.event e.answer ≡ true → ⊥
given_apart x [] b low d e rises in_a is_d in_b is_e = in_a
given_apart x (t ∷ ts) b low d e rises (inl same) is_d in_b is_e =
    given_once x t (ts ++ b) low e rises (ap (λ (u : TunnelItem). enters x u.event u.answer) (sym same) ∙ is_d) (Has-append_right e ts b in_b) is_e
given_apart x (t ∷ ts) b low d e rises (inr in_a) is_d in_b is_e =
    given_apart x ts b low d e (rising_later low t.answer (numbers_in (ts ++ b)) rises) in_a is_d in_b is_e

-- entries that don't touch a lane

abbrev Untouched : ℕ → List TunnelItem → Type 0
Untouched x es = Each (λ (t : TunnelItem). touches x t.event ≡ true → ⊥) es

-- a part in which the lane isn't given
not_given : (x : ℕ) (es : List TunnelItem) → DrainsOwn es → ((e : TunnelItem) → Has e es → enters x e.event e.answer ≡ true → ⊥) → Untouched x es
not_given x es own never =
    each_has (λ (t : TunnelItem). touches x t.event ≡ true → ⊥) es (λ (t : TunnelItem) (has : Has t es). was_given x ⊥ es [] own (λ none. none) never t has)

drained_none : (x : ℕ) (es : List TunnelItem) → Untouched x es → drained es x ≡ []
drained_none x [] never = refl
drained_none x (t ∷ ts) never = ap (λ front. front ++ drained ts x) (not_touched x t.event t.answer t.out.reply never.0) ∙ drained_none x ts never.1

drained-append : (x : ℕ) (a b : List TunnelItem) → drained (a ++ b) x ≡ drained a x ++ drained b x
drained-append x [] b = refl
drained-append x (t ∷ ts) b =
    ap (λ rest. drained_by x t.event t.answer t.out.reply ++ rest) (drained-append x ts b)
    ∙ sym (append_assoc (drained_by x t.event t.answer t.out.reply) (drained ts x) (drained b x))

drained_within : (x : ℕ) (a es b : List TunnelItem) → Untouched x a → Untouched x b → drained (a ++ (es ++ b)) x ≡ drained es x
drained_within x a es b none_a none_b =
    drained-append x a (es ++ b)
    ∙ ap (λ front. front ++ drained (es ++ b) x) (drained_none x a none_a)
    ∙ drained-append x es b
    ∙ ap (λ back. drained es x ++ back) (drained_none x b none_b)
    ∙ append-nil (drained es x)

-- where an entry of the caller stands in the history
record StandsIn (n : ℕ) (h a : List TunnelItem) (t : TunnelItem) (b : List TunnelItem) : Type 0 where
  before : List TunnelItem
  later : List TunnelItem
  whole : h ≡ before ++ t ∷ later
  first : own_of n before ≡ a
  rest : own_of n later ≡ b

cons_is : (t u : TunnelItem) (ts us : List TunnelItem) → t ∷ ts ≡ u ∷ us → (t ≡ u) × (ts ≡ us)
cons_is t u ts us e = (cc e, cc e)

stands_in : (n : ℕ) (h a b : List TunnelItem) (t : TunnelItem) → own_of n h ≡ a ++ t ∷ b → StandsIn n h a t b
stands_in n [] [] b t e = absurd (cc e)
stands_in n [] (u ∷ us) b t e = absurd (cc e)
stands_in n (v ∷ vs) a b t e = each (v.caller == n) refl a e (λ (c : List TunnelItem) (more : own_of n vs ≡ c ++ t ∷ b). stands_in n vs c b t more)
  where
    each : (k : Bool) → (v.caller == n) ≡ k → (a : List TunnelItem) → kept_if k v (own_of n vs) ≡ a ++ t ∷ b
        → ((c : List TunnelItem) → own_of n vs ≡ c ++ t ∷ b → StandsIn n vs c t b) → StandsIn n (v ∷ vs) a t b
    each false is a e rest =
        let r = rest a e in
        record {
          before = v ∷ r.before;
          later = r.later;
          whole = ap (λ more. v ∷ more) r.whole;
          first = ap (λ k. kept_if k v (own_of n r.before)) is ∙ r.first;
          rest = r.rest;
        }
    each true is [] e rest =
        let parts = cons_is v t (own_of n vs) b e in
        record { before = []; later = vs; whole = ap (λ (u : TunnelItem). u ∷ vs) parts.0; first = refl; rest = parts.1 }
    each true is (u ∷ us) e rest =
        let parts = cons_is v u (own_of n vs) (us ++ t ∷ b) e in
        let r = rest us parts.1 in
        record {
          before = v ∷ r.before;
          later = r.later;
          whole = ap (λ more. v ∷ more) r.whole;
          first = ap (λ k. kept_if k v (own_of n r.before)) is ∙ ap (λ more. v ∷ more) r.first ∙ ap (λ (w : TunnelItem). w ∷ us) parts.0;
          rest = r.rest;
        }

pub connections_take_first : LaneNumbersRise → LanesAreOwn → ConnectionsTakeFirst
connections_take_first rise lanes c h before entries numbers caller x legal callers part given =
    let numbers_rise : IsRising 0 (numbers_in (before ++ (entries ++ part.after))) =
    subst (λ es. IsRising 0 (numbers_in es)) part.whole (rising_own caller h 0 (rise c h legal)) in
    let in_rest : Has given.item (entries ++ part.after) = Has-append_left given.item entries part.after given.has in
    let none_before : Untouched x before = not_given x before part.before_own
    (λ (e : TunnelItem) (has : Has e before) (is : enters x e.event e.answer ≡ true).
    given_apart x before (entries ++ part.after) 0 e given.item numbers_rise has is in_rest given.given) in
    let none_after : Untouched x part.after = not_given x part.after part.after_own
    (λ (e : TunnelItem) (has : Has e part.after) (is : enters x e.event e.answer ≡ true).
    given_apart x entries part.after 0 given.item e (rising_behind before (entries ++ part.after) 0 numbers_rise) given.has given.given has is) in
    let among = among_own caller h given.item (subst (Has given.item) (sym part.whole) (Has-append_right given.item before (entries ++ part.after) in_rest)) in
    let own : IsLaneOf h caller x =
    lanes c h numbers caller x legal callers (record { item = given.item; has = among.has; given = given.given; is_of = given.is_of }) in
    record {
      taken = own.taken;
      joined = own.joined ∙ ap (λ es. drained es x) part.whole ∙ drained_within x before entries part.after none_before none_after;
      first = own.first;
      all = λ some ends.
          let split : own_of caller h ≡ (before ++ some) ++ ends.last ∷ (ends.later ++ part.after) =
          part.whole
          ∙ ap (λ es. before ++ (es ++ part.after)) ends.whole
          ∙ ap (λ es. before ++ es) (append_assoc some (ends.last ∷ ends.later) part.after)
          ∙ sym (append_assoc before some (ends.last ∷ (ends.later ++ part.after))) in
          let at = stands_in caller h (before ++ some) (ends.later ++ part.after) ends.last split in
          let drained_by_it = among_own caller h ends.last (subst (Has ends.last) (sym split)
          (Has-append_right ends.last (before ++ some) (ends.last ∷ (ends.later ++ part.after)) (inl refl))) in
          let no_drain : Each (λ (t : TunnelItem). drains x t.event ≡ false) (own_of caller at.later) =
          subst (Each (λ (t : TunnelItem). drains x t.event ≡ false)) (sym at.rest)
          (Each-append (λ (t : TunnelItem). drains x t.event ≡ false) ends.later part.after ends.no_more
          (each_follows (λ (t : TunnelItem). touches x t.event ≡ true → ⊥) (λ (t : TunnelItem). drains x t.event ≡ false)
          (λ (t : TunnelItem) never. touched_if x t.event never) part.after none_after)) in
          record {
            earlier = at.before;
            later = at.later;
            whole = at.whole;
            is_of = drained_by_it.is_of;
            is_own = at.first;
            all = own.all at.before (record {
              last = ends.last;
              later = at.later;
              whole = at.whole;
              drained = ends.drained;
              empty = ends.empty;
              no_more = no_drain;
            });
          };
    }

-- parts of a caller's entries

of_more : (given more : List ℕ) → ((n : ℕ) → Has n given → Has n more) → (event : TunnelEvent) → IsOfGiven given event → IsOfGiven more event
of_more given more within (Inner event) own = tt
of_more given more within Enter own = tt
of_more given more within (Drain number) own = within number own
of_more given more within (Leave number) own = within number own

within_both : (front given more : List ℕ) → ((n : ℕ) → Has n given → Has n more) → (n : ℕ) → Has n (front ++ given) → Has n (front ++ more)
within_both [] given more within n has = within n has
within_both (x ∷ xs) given more within n (inl same) = inl same
within_both (x ∷ xs) given more within n (inr has) = inr (within_both xs given more within n has)

drains_more : (es : List TunnelItem) (given more : List ℕ) → ((n : ℕ) → Has n given → Has n more) → DrainsGiven given es → DrainsGiven more es
drains_more [] given more within own = tt
drains_more (t ∷ ts) given more within own = (
  of_more given more within t.event own.0,
  drains_more ts (given_by t.event t.answer ++ given) (given_by t.event t.answer ++ more) (within_both (given_by t.event t.answer) given more within) own.1,
)

pub drains_both : (es rest : List TunnelItem) (given : List ℕ) → DrainsGiven given es → DrainsOwn rest → DrainsGiven given (es ++ rest)
drains_both [] rest given own more = drains_more rest [] given (λ n none. absurd none) more
drains_both (t ∷ ts) rest given own more = (own.0, drains_both ts rest (given_by t.event t.answer ++ given) own.1 more)

pub parts_drain_own : PartsDrainOwn
parts_drain_own [] own = tt
parts_drain_own (es ∷ more) own = drains_both es (flat_map (λ (part : List TunnelItem). part) more) [] own.0 (parts_drain_own more own.1)

drains_each : (ts : List TunnelItem) (given more : List ℕ) → ((n : ℕ) → Has n given → Has n more) → Each (λ (u : TunnelItem). IsOfGiven given u.event) ts
    → DrainsGiven more ts
drains_each [] given more within own = tt
drains_each (t ∷ ts) given more within own = (
  of_more given more within t.event own.0,
  drains_each ts given (given_by t.event t.answer ++ more) (λ n has. Has-append_right n (given_by t.event t.answer) more (within n has)) own.1,
)

pub enters_drain_own : EntersDrainOwn
enters_drain_own t ts is own = (
  subst (IsOfGiven []) (sym is) tt,
  drains_each ts (given_by t.event t.answer) (given_by t.event t.answer ++ []) (λ n has. Has-append_left n (given_by t.event t.answer) [] has) own,
)
