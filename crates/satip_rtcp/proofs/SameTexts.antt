-- Views with the same front end, lock, tuning and PIDs have the same SES1 text.
use Rattle.std.proofs.Common.{◌≡◌, ℕ, zero, suc, ◌+◌, ◌-◌, ◌*◌, ◌<◌, ◌≤◌, ◌==◌, ◌||◌, ◌&&◌, nat_eq, inl, inr, Bool, true, false, List, [], ◌∷◌, length, Option, Some, None, All, refl, sym, ap, ◌∙◌, subst, arith, if◌then◌else◌}
use denote.Enum.Bare.{sameb, same_true}
use mathlib.Core.Bool.{beq}
use Rattle.std.specs.Int.{bit_at}
use Rattle.std.specs.Option.{option_eq}
use Rattle.std.proofs.lemmas.Bool.{and_parts, cases_lt, eqb-true, false≢true, ne_eqb}
use Rattle.std.proofs.lemmas.List.Elements.{All-head, All-tail}
use Rattle.satip_pids.specs.Rising.{IsRising, has_number}
use Rattle.satip_pids.specs.Pids.{Pids, Every, Only, IsPidRow, IsPidSet, has_pid}
use Rattle.satip_pids.proofs.BitSets.{absent_below, same_numbers}
use Rattle.satip_tune.specs.declared.tunings.Tuning.{Tuning}
use Rattle.satip_tune.specs.declared.signal.Pol.{Pol}
use Rattle.satip_tune.specs.declared.signal.System.{System}
use Rattle.satip_tune.specs.declared.signal.Modulation.{Modulation}
use Rattle.satip_tune.specs.declared.signal.RollOff.{RollOff}
use Rattle.satip_tune.specs.declared.signal.Fec.{Fec}
use Rattle.satip_tune.specs.contracts.signal.Pol as pol
use Rattle.satip_tune.specs.contracts.signal.RollOff as roll_off
use Rattle.satip_tune.specs.contracts.signal.System as system
use Rattle.satip_tune.specs.contracts.signal.Modulation as modulation
use Rattle.satip_tune.specs.contracts.signal.Fec as fec
use Rattle.satip_rtcp.specs.Ses1.{ses1}
use Rattle.satip_rtcp.specs.declared.views.StreamView.{StreamView}

-- ---- sets of PIDs

abbrev bit : Bool → ℕ
bit b = if b then 1 else 0

same_bit : (t u : Bool) → bit t ≡ bit u → t ≡ u
same_bit true true h = refl
same_bit true false h = absurd (omega (arith, h))
same_bit false true h = absurd (omega (arith, h))
same_bit false false h = refl

-- 64 PIDs more that both select or neither
pub same_more : (n a b : ℕ) (p q : Pids) → ((i : ℕ) → i < 64 → bit_at a i ≡ bit (has_pid p (64 * n + i)))
    → ((i : ℕ) → i < 64 → bit_at b i ≡ bit (has_pid q (64 * n + i))) → a ≡ b → ((pid : ℕ) → pid < 64 * n → has_pid p pid ≡ has_pid q pid)
    → (pid : ℕ) → pid < 64 * (n + 1) → has_pid p pid ≡ has_pid q pid
same_more n a b p q p_bits q_bits same so_far = λ pid h.
    elim (cases_lt pid (64 * n)) [
      | inl lt ↦ so_far pid lt
      | inr ge ↦
          let i : ℕ = pid - 64 * n in
          let low : i < 64 = omega (arith, h, ge) in
          let split : 64 * n + i ≡ pid = omega (arith, ge) in
          let bits : bit (has_pid p (64 * n + i)) ≡ bit (has_pid q (64 * n + i)) =
          sym (p_bits i low) ∙ ap (λ w. bit_at w i) same ∙ q_bits i low in
          subst (λ k. has_pid p k ≡ has_pid q k) split (same_bit (has_pid p (64 * n + i)) (has_pid q (64 * n + i)) bits)
    ]

-- a list of PIDs has no number above them
absent_above : (pids : List ℕ) (n : ℕ) → All (λ pid. pid < 8192) pids → 8192 ≤ n → has_number pids n ≡ false
absent_above [] n below ge = refl
absent_above (pid ∷ pids) n below ge =
    let first : pid < 8192 = All-head (λ p. p < 8192) pid pids below in
    ap (λ b. b || has_number pids n) (ne_eqb pid n (λ e. absurd (omega (arith, first, ge, e))))
    ∙ absent_above pids n (All-tail (λ p. p < 8192) pid pids below) ge

-- what is in a list and isn't its first number is in the rest
in_rest : (x n : ℕ) (xs : List ℕ) → (x ≡ n → ⊥) → has_number (x ∷ xs) n ≡ true → has_number xs n ≡ true
in_rest x n xs differs has = ap (λ b. b || has_number xs n) (sym (ne_eqb x n differs)) ∙ has

-- a rising list with all of these numbers is at least as long as they are many
holds_all : (count low : ℕ) (xs : List ℕ) → IsRising low xs → ((n : ℕ) → low ≤ n → n < low + count → has_number xs n ≡ true) → count ≤ length xs
holds_all zero low xs up has = omega arith
holds_all (suc count) low [] up has = absurd (false≢true (has low (omega arith) (omega arith)))
holds_all (suc count) low (x ∷ xs) up has =
    elim (cases_lt low x) [
      | inl lt ↦
          absurd (false≢true (sym (absent_below x (x ∷ xs) low (omega arith, up.1) lt) ∙ has low (omega arith) (omega arith)))
      | inr ge ↦
          let rest : (n : ℕ) → suc x ≤ n → n < suc x + count → has_number xs n ≡ true = λ n le lt.
          in_rest x n xs (λ e. absurd (omega (arith, le, e))) (has n (omega (arith, up.0, le)) (omega (arith, ge, lt))) in
          omega (arith, holds_all count (suc x) xs up.1 rest)
    ]

-- a list of at most 256 PIDs isn't the set of all
not_every : (pids : List ℕ) → IsPidRow pids → ((pid : ℕ) → pid < 8192 → has_number pids pid ≡ true) → ⊥
not_every pids row has = absurd (omega (arith, row.few, holds_all 257 0 pids row.rising (λ n le lt. has n (omega (arith, lt)))))

-- sets that select the same PIDs are equal
pub same_sets : (a b : Pids) → IsPidSet a → IsPidSet b → ((pid : ℕ) → pid < 8192 → has_pid a pid ≡ has_pid b pid) → a ≡ b
same_sets Every Every p q same = refl
same_sets Every (Only ys) p q same = absurd (not_every ys q (λ pid lt. sym (same pid lt)))
same_sets (Only xs) Every p q same = absurd (not_every xs p same)
same_sets (Only xs) (Only ys) p q same =
    ap Only (same_numbers 0 xs ys p.rising q.rising (λ n.
    elim (cases_lt n 8192) [
      | inl lt ↦ same n lt
      | inr ge ↦ absent_above xs n p.below ge ∙ sym (absent_above ys n q.below ge)
    ]))

-- ---- tunings

same_option : {X : Type 0} (E : X → X → Bool) → ((x y : X) → E x y ≡ true → x ≡ y) → (a b : Option X) → option_eq E a b ≡ true → a ≡ b
same_option E same None None h = refl
same_option E same None (Some y) h = absurd (false≢true h)
same_option E same (Some x) None h = absurd (false≢true h)
same_option E same (Some x) (Some y) h = ap Some (same x y h)

pub same_bool : (a b : Bool) → beq a b ≡ true → a ≡ b
same_bool true true h = refl
same_bool true false h = sym h
same_bool false true h = h
same_bool false false h = refl

-- the comparison of the derived `==`
abbrev pub derived_eq : Tuning → Tuning → Bool
derived_eq a b =
    option_eq nat_eq a.fe b.fe && (a.src == b.src && (a.freq == b.freq && (sameb pol.the_type a.pol b.pol
    && (option_eq (λ x y. sameb roll_off.the_type x y) a.ro b.ro && (sameb system.the_type a.msys b.msys
    && (option_eq (λ x y. sameb modulation.the_type x y) a.mtype b.mtype && (option_eq beq a.plts b.plts
    && (a.sr == b.sr && option_eq (λ x y. sameb fec.the_type x y) a.fec b.fec))))))))

same_fields : (a b : Tuning) → a.fe ≡ b.fe → a.src ≡ b.src → a.freq ≡ b.freq → a.pol ≡ b.pol → a.ro ≡ b.ro → a.msys ≡ b.msys → a.mtype ≡ b.mtype
    → a.plts ≡ b.plts → a.sr ≡ b.sr → a.fec ≡ b.fec → a ≡ b
same_fields a b fe src freq pol ro msys mtype plts sr fec =
    ap (λ (x : Option ℕ). record a { fe = x }) fe
    ∙ ap (λ (x : ℕ). record a { fe = b.fe; src = x }) src
    ∙ ap (λ (x : ℕ). record a { fe = b.fe; src = b.src; freq = x }) freq
    ∙ ap (λ (x : Pol). record a { fe = b.fe; src = b.src; freq = b.freq; pol = x }) pol
    ∙ ap (λ (x : Option RollOff). record a { fe = b.fe; src = b.src; freq = b.freq; pol = b.pol; ro = x }) ro
    ∙ ap (λ (x : System). record b { msys = x; mtype = a.mtype; plts = a.plts; sr = a.sr; fec = a.fec }) msys
    ∙ ap (λ (x : Option Modulation). record b { mtype = x; plts = a.plts; sr = a.sr; fec = a.fec }) mtype
    ∙ ap (λ (x : Option Bool). record b { plts = x; sr = a.sr; fec = a.fec }) plts
    ∙ ap (λ (x : ℕ). record b { sr = x; fec = a.fec }) sr
    ∙ ap (λ (x : Option Fec). record b { fec = x }) fec

pub same_tuning : (a b : Tuning) → derived_eq a b ≡ true → a ≡ b
same_tuning a b h =
    let fe = and_parts _ _ h in
    let src = and_parts _ _ fe.1 in
    let freq = and_parts _ _ src.1 in
    let pols = and_parts _ _ freq.1 in
    let ro = and_parts _ _ pols.1 in
    let msys = and_parts _ _ ro.1 in
    let mtype = and_parts _ _ msys.1 in
    let plts = and_parts _ _ mtype.1 in
    let sr = and_parts _ _ plts.1 in
    same_fields a b (same_option nat_eq (λ x y. eqb-true x y) a.fe b.fe fe.0) (eqb-true a.src b.src src.0) (eqb-true a.freq b.freq freq.0)
    (same_true pol.the_type tt a.pol b.pol pols.0)
    (same_option (λ x y. sameb roll_off.the_type x y) (λ x y. same_true roll_off.the_type tt x y) a.ro b.ro ro.0)
    (same_true system.the_type tt a.msys b.msys msys.0)
    (same_option (λ x y. sameb modulation.the_type x y) (λ x y. same_true modulation.the_type tt x y) a.mtype b.mtype mtype.0)
    (same_option beq same_bool a.plts b.plts plts.0) (eqb-true a.sr b.sr sr.0)
    (same_option (λ x y. sameb fec.the_type x y) (λ x y. same_true fec.the_type tt x y) a.fec b.fec sr.1)

pub same_given : (a b : Option Tuning) → option_eq derived_eq a b ≡ true → a ≡ b
same_given a b h = same_option derived_eq same_tuning a b h

-- ---- texts

pub same_text : (a b : StreamView) → a.front ≡ b.front → a.locked ≡ b.locked → a.tuning ≡ b.tuning → a.pids ≡ b.pids → ses1 a ≡ ses1 b
unfolding ses1
same_text a b front locked tuning pids =
    ap (λ (x : ℕ). ses1 (record a { front = x })) front
    ∙ ap (λ (x : Bool). ses1 (record a { front = b.front; locked = x })) locked
    ∙ ap (λ (x : Option Tuning). ses1 (record a { front = b.front; locked = b.locked; tuning = x })) tuning
    ∙ ap (λ (x : Pids). ses1 (record a { front = b.front; locked = b.locked; tuning = b.tuning; pids = x })) pids
