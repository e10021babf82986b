-- Journals that are made of sinks one after another, and sinks that come back.
use Rattle.std.proofs.Common.{◌≡◌, ◌∙◌, ℕ, ◌+◌, Bool, true, false, ◌||◌, List, [], ◌∷◌, ◌++◌, length, refl, sym, ap, subst, arith, append_assoc}
use Rattle.std.proofs.lemmas.List.{map-append}
use Rattle.satip_journal.specs.declared.crew.JournalGear.{JournalGear}
use Rattle.satip_journal_serve.specs.SinkGears.{AreOpen, has_failed, sinks_of}

-- the next sink has a journal too
pub next_sink : {K : Type 0} (whole left after : List K) (gs more : List (JournalGear K)) (g : JournalGear K) → whole ≡ sinks_of gs ++ left
    → left ≡ g.sink ∷ after → more ≡ gs ++ g ∷ [] → whole ≡ sinks_of more ++ after
next_sink {K} whole left after gs more g are next is =
    are ∙ ap (λ (l : List K). sinks_of gs ++ l) next ∙ sym (append_assoc (sinks_of gs) (g.sink ∷ []) after)
    ∙ ap (λ (l : List K). l ++ after) (sym (ap sinks_of is ∙ map-append (λ (j : JournalGear K). j.sink) gs (g ∷ [])))

pub are_append : {K : Type 0} (n m : ℕ) (gs hs : List (JournalGear K)) → AreOpen n gs → AreOpen m hs → m ≡ n + length gs → AreOpen n (gs ++ hs)
are_append n m [] hs a b is =
    let same : m ≡ n = omega (arith, is) in
    subst (λ (i : ℕ). AreOpen i hs) same b
are_append n m (g ∷ gs) hs a b is = (a.0, a.1, are_append (n + 1) m gs hs a.2 b (omega (arith, is)))

-- the sinks of journals behind others, when one of them came back
pub back_sink : {K : Type 0} (old sinks more : List K) (all left after : List (JournalGear K)) (g : JournalGear K)
    → sinks ++ sinks_of left ≡ old ++ sinks_of all
    → left ≡ g ∷ after → more ≡ sinks ++ g.sink ∷ [] → more ++ sinks_of after ≡ old ++ sinks_of all
back_sink {K} old sinks more all left after g are next is =
    ap (λ (l : List K). l ++ sinks_of after) is ∙ append_assoc sinks (g.sink ∷ []) (sinks_of after)
    ∙ ap (λ (l : List K). sinks ++ l) (sym (ap sinks_of next)) ∙ are

or_assoc : (a b c : Bool) → ((a || b) || c) ≡ (a || (b || c))
or_assoc true b c = refl
or_assoc false b c = refl

pub back_failed : {K : Type 0} (failed : Bool) (now all : Bool) (left after : List (JournalGear K)) (g : JournalGear K) → (failed || has_failed left) ≡ all
    → left ≡ g ∷ after → now ≡ (failed || g.failed) → (now || has_failed after) ≡ all
back_failed failed now all left after g are next is =
    ap (λ (b : Bool). b || has_failed after) is ∙ or_assoc failed g.failed (has_failed after)
    ∙ ap (λ b. failed || b) (sym (ap has_failed next)) ∙ are

or_false : (b : Bool) → (b || false) ≡ b
or_false true = refl
or_false false = refl

pub none_left : {K : Type 0} (failed all : Bool) (left : List (JournalGear K)) → (failed || has_failed left) ≡ all → left ≡ [] → failed ≡ all
none_left failed all left are none = sym (or_false failed) ∙ ap (λ b. failed || b) (sym (ap has_failed none)) ∙ are

pub failed_append : {K : Type 0} (gs hs : List (JournalGear K)) → has_failed (gs ++ hs) ≡ (has_failed gs || has_failed hs)
failed_append [] hs = refl
failed_append (g ∷ gs) hs = ap (λ b. g.failed || b) (failed_append gs hs) ∙ sym (or_assoc g.failed (has_failed gs) (has_failed hs))

pub all_failed : {K : Type 0} (root ticker : JournalGear K) (ws ps : List (JournalGear K)) (first second third last one two all : Bool)
    → one ≡ (third || last) → two ≡ (second || one) → all ≡ (first || two) → first ≡ root.failed → second ≡ has_failed ws → third ≡ has_failed ps
    → last ≡ ticker.failed → all ≡ (root.failed || has_failed (ws ++ (ps ++ ticker ∷ [])))
all_failed root ticker ws ps first second third last one two all one_is two_is all_is a b c d =
    let inner : one ≡ has_failed (ps ++ ticker ∷ []) =
    one_is ∙ (λ i. c i || d i) ∙ ap (λ f. has_failed ps || f) (sym (or_false ticker.failed)) ∙ sym (failed_append ps (ticker ∷ [])) in
    let outer : two ≡ has_failed (ws ++ (ps ++ ticker ∷ [])) = two_is ∙ (λ i. b i || inner i) ∙ sym (failed_append ws (ps ++ ticker ∷ [])) in
    all_is ∙ (λ i. a i || outer i)

pub sinks_append : {K : Type 0} (gs hs : List (JournalGear K)) → sinks_of (gs ++ hs) ≡ sinks_of gs ++ sinks_of hs
sinks_append gs hs = map-append (λ g. g.sink) gs hs

pub all_sinks : {K : Type 0} (whole behind rest last none : List K) (bare : K) (ws ps : List (JournalGear K)) (ticker : JournalGear K) → whole ≡ bare ∷ behind
    → behind ≡ sinks_of ws ++ rest → rest ≡ sinks_of ps ++ last → last ≡ ticker.sink ∷ none → none ≡ []
    → whole ≡ bare ∷ sinks_of (ws ++ (ps ++ ticker ∷ []))
all_sinks {K} whole behind rest last none bare ws ps ticker a b c d e =
    let inner : rest ≡ sinks_of (ps ++ ticker ∷ []) =
    c ∙ (λ i. sinks_of ps ++ d i) ∙ (λ i. sinks_of ps ++ ticker.sink ∷ e i) ∙ sym (sinks_append ps (ticker ∷ [])) in
    let outer : behind ≡ sinks_of (ws ++ (ps ++ ticker ∷ [])) = b ∙ (λ i. sinks_of ws ++ inner i) ∙ sym (sinks_append ws (ps ++ ticker ∷ [])) in
    a ∙ ap (λ (l : List K). bare ∷ l) outer

pub all_back : {K : Type 0} (old one two three four : List K) (root ticker : JournalGear K) (ws ps : List (JournalGear K)) → old ≡ []
    → one ≡ old ++ root.sink ∷ []
    → two ≡ one ++ sinks_of ws → three ≡ two ++ sinks_of ps → four ≡ three ++ ticker.sink ∷ []
    → four ≡ sinks_of (root ∷ (ws ++ (ps ++ ticker ∷ [])))
all_back {K} old one two three four root ticker ws ps none a b c d =
    let first : one ≡ root.sink ∷ [] = a ∙ ap (λ (l : List K). l ++ root.sink ∷ []) none in
    let joined : sinks_of (ws ++ (ps ++ ticker ∷ [])) ≡ sinks_of ws ++ (sinks_of ps ++ ticker.sink ∷ []) =
    sinks_append ws (ps ++ ticker ∷ []) ∙ ap (λ (l : List K). sinks_of ws ++ l) (sinks_append ps (ticker ∷ [])) in
    d ∙ ap (λ (l : List K). l ++ ticker.sink ∷ []) (c ∙ ap (λ (l : List K). l ++ sinks_of ps) (b ∙ ap (λ (l : List K). l ++ sinks_of ws) first))
    ∙ ap (λ (l : List K). root.sink ∷ l) (append_assoc (sinks_of ws) (sinks_of ps) (ticker.sink ∷ []) ∙ sym joined)
