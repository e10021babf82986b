-- What stands behind the frames at the front of a text, and when more bytes come.
use Rattle.std.proofs.Common.{◌≡◌, ℕ, zero, suc, ◌+◌, ◌*◌, ◌-◌, ◌/◌, ◌%◌, ◌<◌, ◌≤◌, Bool, true, false, cond, eqb, get_or, List, [], ◌∷◌, ◌++◌, length, drop, Option, Some, None, refl, sym, ap, ◌∙◌, subst, arith}
use Rattle.satip_frame.specs.Stream.{skip_newlines}
use Rattle.satip_frame.proofs.StreamLemmas.{skip_newlines-append}
use Rattle.satip_rtsp_interleaved.specs.Frames.{Spot, Between, Channel, High, Low, Inside, inside, is_line_end, move, passed, behind, frame, IsStart}

-- ---- the first byte of a message

pub between : (spot : Spot) (b : ℕ) → move spot b ≡ None → spot ≡ Between
between Between b e = refl
between Channel b e = cc e
between High b e = cc e
between (Low high) b e = cc e
between (Inside n) b e = cc e

no_end_by : (b : ℕ) (r : Bool) → cond r (Some Between) (cond (eqb b 36) (Some Channel) None) ≡ None → r ≡ false
no_end_by b true e = cc e
no_end_by b false e = refl

no_line_end : (spot : Spot) (b : ℕ) → move spot b ≡ None → is_line_end b ≡ false
no_line_end spot b e = no_end_by b (is_line_end b) (subst (λ s. move s b ≡ None) (between spot b e) e)

unskipped : (b : ℕ) (text : List ℕ) → is_line_end b ≡ false → skip_newlines (b ∷ text) ≡ b ∷ text
unskipped b text e = ap (λ r. cond r (skip_newlines text) (b ∷ text)) e

-- ---- line ends

behind_clean_by : (spot : Spot) (b : ℕ) (text : List ℕ) (o : Option Spot) → move spot b ≡ o
    → ((next : Spot) → skip_newlines (behind next text) ≡ behind next text)
    → skip_newlines (passed o (λ next. behind next text) (b ∷ text)) ≡ passed o (λ next. behind next text) (b ∷ text)
behind_clean_by spot b text None e again = unskipped b text (no_line_end spot b e)
behind_clean_by spot b text (Some next) e again = again next

-- no line end stands there
pub behind_clean : (spot : Spot) (text : List ℕ) → skip_newlines (behind spot text) ≡ behind spot text
behind_clean spot [] = refl
behind_clean spot (b ∷ text) = behind_clean_by spot b text (move spot b) refl (λ next. behind_clean next text)

behind_skipped_by : (b : ℕ) (text : List ℕ) (r : Bool) → is_line_end b ≡ r → behind Between text ≡ behind Between (skip_newlines text)
    → behind Between (b ∷ text) ≡ behind Between (cond r (skip_newlines text) (b ∷ text))
behind_skipped_by b text true e again =
    ap (λ r. passed (cond r (Some Between) (cond (eqb b 36) (Some Channel) None)) (λ next. behind next text) (b ∷ text)) e ∙ again
behind_skipped_by b text false e again = refl

-- line ends before it count nowhere
pub behind_skipped : (text : List ℕ) → behind Between text ≡ behind Between (skip_newlines text)
behind_skipped [] = refl
behind_skipped (b ∷ text) = behind_skipped_by b text (is_line_end b) refl (behind_skipped text)

-- whatever follows
pub same_behind : (a b : List ℕ) → skip_newlines a ≡ skip_newlines b → (more : List ℕ) → behind Between (a ++ more) ≡ behind Between (b ++ more)
same_behind a b e more =
    behind_skipped (a ++ more)
    ∙ ap (λ t. behind Between t) (skip_newlines-append a more ∙ ap (λ t. skip_newlines (t ++ more)) e ∙ sym (skip_newlines-append b more))
    ∙ sym (behind_skipped (b ++ more))

-- ---- more bytes

behind_some_by : (b : ℕ) (text more : List ℕ) (o : Option Spot) → 0 < length (passed o (λ next. behind next text) (b ∷ text))
    → ((next : Spot) → 0 < length (behind next text) → behind next (text ++ more) ≡ behind next text ++ more)
    → passed o (λ next. behind next (text ++ more)) (b ∷ (text ++ more)) ≡ passed o (λ next. behind next text) (b ∷ text) ++ more
behind_some_by b text more None some again = refl
behind_some_by b text more (Some next) some again = again next some

-- where a message began it stays
pub behind_some : (spot : Spot) (text more : List ℕ) → 0 < length (behind spot text) → behind spot (text ++ more) ≡ behind spot text ++ more
behind_some spot [] more some = absurd (omega (arith, some))
behind_some spot (b ∷ text) more some = behind_some_by b text more (move spot b) some (λ next. behind_some next text more)

behind_shorter_by : (b : ℕ) (text : List ℕ) (o : Option Spot) → ((next : Spot) → length (behind next text) ≤ length text)
    → length (passed o (λ next. behind next text) (b ∷ text)) ≤ length (b ∷ text)
behind_shorter_by b text None again = omega arith
behind_shorter_by b text (Some next) again = omega (arith, again next)

pub behind_shorter : (spot : Spot) (text : List ℕ) → length (behind spot text) ≤ length text
behind_shorter spot [] = omega arith
behind_shorter spot (b ∷ text) = behind_shorter_by b text (move spot b) (λ next. behind_shorter next text)

-- ---- what is passed over

-- the first bytes of a frame's last ones
pub inside_passed : (n k : ℕ) (bytes more : List ℕ) → k ≤ n → k ≤ length bytes
    → behind (inside n) (bytes ++ more) ≡ behind (inside (n - k)) (drop k bytes ++ more)
inside_passed n zero bytes more h l = ap (λ m. behind (inside m) (bytes ++ more)) (omega arith)
inside_passed zero (suc k) bytes more h l = absurd (omega (arith, h))
inside_passed (suc n) (suc k) [] more h l = absurd (omega (arith, l))
inside_passed (suc n) (suc k) (b ∷ bytes) more h l =
    inside_passed n k bytes more (omega (arith, h)) (omega (arith, l)) ∙ ap (λ m. behind (inside m) (drop k bytes ++ more)) (omega arith)

-- a beginning of a frame's head
pub head_open : (bytes : List ℕ) → length bytes < 4 → get_or bytes 0 0 ≡ 36 → behind Between bytes ≡ []
head_open [] h e = refl
head_open (a ∷ []) h e = ap (λ v. behind Between (v ∷ [])) e
head_open (a ∷ b ∷ []) h e = ap (λ v. behind Between (v ∷ b ∷ [])) e
head_open (a ∷ b ∷ c ∷ []) h e = ap (λ v. behind Between (v ∷ b ∷ c ∷ [])) e
head_open (a ∷ b ∷ c ∷ d ∷ bytes) h e = absurd (omega (arith, h))

-- a whole frame
pub frame_passed : (channel : ℕ) (bytes text : List ℕ) → behind Between (frame channel bytes ++ text) ≡ behind Between text
frame_passed channel bytes text =
    let n = length bytes in
    let sum : n / 256 * 256 + n % 256 ≡ n = omega arith in
    ap (λ m. behind (inside m) (bytes ++ text)) sum
    ∙ all_passed bytes text
  where
    all_passed : (bs more : List ℕ) → behind (inside (length bs)) (bs ++ more) ≡ behind Between more
    all_passed [] more = refl
    all_passed (b ∷ bs) more = all_passed bs more

-- ---- the first byte of a message

pub start_here : (bytes : List ℕ) → IsStart bytes → behind Between bytes ≡ bytes
start_here [] start = absurd start
start_here (b ∷ bytes) start = ap (λ o. passed o (λ next. behind next bytes) (b ∷ bytes)) start

pub start_clean : (bytes : List ℕ) → IsStart bytes → skip_newlines bytes ≡ bytes
start_clean [] start = absurd start
start_clean (b ∷ bytes) start = unskipped b bytes (no_line_end Between b start)
