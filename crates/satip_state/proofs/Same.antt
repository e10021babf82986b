-- The comparison of tunings in code is that of the plain server.
use Rattle.std.proofs.Common.{◌≡◌, ◌∙◌, ℕ, ◌==◌, ◌&&◌, nat_eq, Bool, true, false, List, Option, Some, None, refl, ap, sym, unwrap_or}
use denote.Enum.Bare.{Bare, sameb, same_true, true_same}
use denote.Enum.Declared.{Declared}
use mathlib.Core.Bool.{beq}
use Rattle.std.specs.Bool.{Decides, one_answer}
use Rattle.std.specs.Option.{option_eq}
use Rattle.std.proofs.lemmas.Slice.Eq.{bytes_eq-Decides}
use Rattle.satip_tune.specs.contracts.signal.Pol as pol
use Rattle.satip_tune.specs.contracts.signal.RollOff as roll_off
use Rattle.satip_tune.specs.contracts.signal.System as system
use Rattle.satip_tune.specs.contracts.signal.Modulation as modulation
use Rattle.satip_tune.specs.contracts.signal.Fec as fec
use Rattle.satip_tune.specs.Words.{pol_text, system_text, modulation_text, roll_off_text, fec_text, pilots_text_of, pol_named, system_named, modulation_named, roll_off_named, fec_named, pilots_named_of}
use Rattle.satip_tune.proofs.WordLaws.{pol_printed, system_printed, modulation_printed, roll_off_printed, fec_printed, pilots_printed}
use Rattle.satip_plain.specs.Types.{Tuning}
use Rattle.satip_plain.specs.SameTuning.{same_by, tuning_eq}

-- words that are read back as their values are the same where their texts are
by_text : {X : Type 0} (text : X → List ℕ) (named : List ℕ → Option X) → ((x : X) → named (text x) ≡ Some x) → (x y : X) → Decides (same_by text x y) (x ≡ y)
by_text text named printed x y = (
  (λ e. ap (λ o. unwrap_or o x) (sym (printed x) ∙ ap named ((bytes_eq-Decides (text x) (text y)).0 e) ∙ printed y)),
  (λ e. (bytes_eq-Decides (text x) (text y)).1 (ap text e)),
)

-- values without fields
same_word : (D : Declared) → Bare D.parts → (text : D.D → List ℕ) (named : List ℕ → Option D.D) → ((x : D.D) → named (text x) ≡ Some x) → (x y : D.D)
    → sameb D x y ≡ same_by text x y
same_word D bare text named printed x y = one_answer _ _ (same_true D bare x y, true_same D x y) (by_text text named printed x y)

same_pilots : (x y : Bool) → beq x y ≡ same_by pilots_text_of x y
same_pilots x y = one_answer _ _ (decided x y) (by_text pilots_text_of pilots_named_of pilots_printed x y)
  where
    decided : (a b : Bool) → Decides (beq a b) (a ≡ b)
    decided true true = ((λ e. refl), (λ e. refl))
    decided true false = ((λ e. sym e), (λ e. sym e))
    decided false true = ((λ e. e), (λ e. e))
    decided false false = ((λ e. refl), (λ e. refl))

same_given : {X : Type 0} (E F : X → X → Bool) → ((x y : X) → E x y ≡ F x y) → (a b : Option X) → option_eq E a b ≡ option_eq F a b
same_given E F same None None = refl
same_given E F same None (Some y) = refl
same_given E F same (Some x) None = refl
same_given E F same (Some x) (Some y) = same x y

assoc : (a b c : Bool) → (a && (b && c)) ≡ ((a && b) && c)
assoc true b c = refl
assoc false b c = refl

regroup : (a b c d e f g h i j : Bool) → (a && (b && (c && (d && (e && (f && (g && (h && (i && j)))))))))
    ≡ (((((((((a && b) && c) && d) && e) && f) && g) && h) && i) && j)
regroup a b c d e f g h i j =
    assoc a b _ ∙ assoc (a && b) c _ ∙ assoc ((a && b) && c) d _ ∙ assoc (((a && b) && c) && d) e _ ∙ assoc ((((a && b) && c) && d) && e) f _
    ∙ assoc (((((a && b) && c) && d) && e) && f) g _ ∙ assoc ((((((a && b) && c) && d) && e) && f) && g) h _
    ∙ assoc (((((((a && b) && c) && d) && e) && f) && g) && h) i j

each_same : (a b c d e f g h i j : Bool) (d2 e2 f2 g2 h2 j2 : Bool) → d ≡ d2 → e ≡ e2 → f ≡ f2 → g ≡ g2 → h ≡ h2 → j ≡ j2
    → (((((((((a && b) && c) && d) && e) && f) && g) && h) && i) && j) ≡ (((((((((a && b) && c) && d2) && e2) && f2) && g2) && h2) && i) && j2)
each_same a b c d e f g h i j d2 e2 f2 g2 h2 j2 p q r s t u =
    ap (λ x. (((((((((a && b) && c) && x) && e) && f) && g) && h) && i) && j)) p
    ∙ ap (λ x. (((((((((a && b) && c) && d2) && x) && f) && g) && h) && i) && j)) q
    ∙ ap (λ x. (((((((((a && b) && c) && d2) && e2) && x) && g) && h) && i) && j)) r
    ∙ ap (λ x. (((((((((a && b) && c) && d2) && e2) && f2) && x) && h) && i) && j)) s
    ∙ ap (λ x. (((((((((a && b) && c) && d2) && e2) && f2) && g2) && x) && i) && j)) t
    ∙ ap (λ x. (((((((((a && b) && c) && d2) && e2) && f2) && g2) && h2) && i) && x)) u

-- the comparison of the derived `==`
abbrev pub derived_eq : Tuning → Tuning → Bool
derived_eq a b =
    option_eq nat_eq a.fe b.fe && (a.src == b.src && (a.freq == b.freq && (sameb pol.the_type a.pol b.pol
    && (option_eq (λ x y. sameb roll_off.the_type x y) a.ro b.ro && (sameb system.the_type a.msys b.msys
    && (option_eq (λ x y. sameb modulation.the_type x y) a.mtype b.mtype && (option_eq beq a.plts b.plts
    && (a.sr == b.sr && option_eq (λ x y. sameb fec.the_type x y) a.fec b.fec))))))))

pub derived_same : (a b : Tuning) → derived_eq a b ≡ tuning_eq a b
derived_same a b =
    regroup (option_eq nat_eq a.fe b.fe) (a.src == b.src) (a.freq == b.freq) (sameb pol.the_type a.pol b.pol)
    (option_eq (λ x y. sameb roll_off.the_type x y) a.ro b.ro) (sameb system.the_type a.msys b.msys)
    (option_eq (λ x y. sameb modulation.the_type x y) a.mtype b.mtype) (option_eq beq a.plts b.plts)
    (a.sr == b.sr) (option_eq (λ x y. sameb fec.the_type x y) a.fec b.fec)
    ∙ each_same (option_eq nat_eq a.fe b.fe) (a.src == b.src) (a.freq == b.freq) _ _ _ _ _ (a.sr == b.sr) _ _ _ _ _ _ _
    (same_word pol.the_type tt pol_text pol_named pol_printed a.pol b.pol)
    (same_given (λ x y. sameb roll_off.the_type x y) (same_by roll_off_text)
    (same_word roll_off.the_type tt roll_off_text roll_off_named roll_off_printed) a.ro b.ro)
    (same_word system.the_type tt system_text system_named system_printed a.msys b.msys)
    (same_given (λ x y. sameb modulation.the_type x y) (same_by modulation_text)
    (same_word modulation.the_type tt modulation_text modulation_named modulation_printed) a.mtype b.mtype)
    (same_given beq (same_by pilots_text_of) same_pilots a.plts b.plts)
    (same_given (λ x y. sameb fec.the_type x y) (same_by fec_text) (same_word fec.the_type tt fec_text fec_named fec_printed) a.fec b.fec)
