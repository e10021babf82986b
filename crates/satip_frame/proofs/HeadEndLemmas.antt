-- An empty line ends in LF, so that one is looked for behind each LF and nowhere else.
use Rattle.std.proofs.Common.{◌≡◌, ℕ, ◌+◌, ◌-◌, ◌<◌, ◌≤◌, true, false, List, [], ◌∷◌, length, length-drop, length-take, take, drop, get_or, slice_range, sym, ap, ◌∙◌, subst, ⊎_elim, arith, IsTrue}
use Rattle.std.specs.Cmp.Lexicographic.{same_text}
use Rattle.std.proofs.lemmas.Bool.{cases_lt, or_cases}
use Rattle.std.proofs.lemmas.List.{get_or-drop, get_or-take}
use Rattle.memchr.specs.Find.{Nowhere, Passes, is_byte}
use Rattle.satip_frame.specs.Head.{ends_in_empty_line, HasNoEmptyLine}

last_of_two : (text : List ℕ) → 10 ∷ 10 ∷ [] ≡ drop (length text - 2) text → get_or text (length text - 1) 0 ≡ 10
last_of_two text same =
    let long : 2 ≡ length text - (length text - 2) = ap length same ∙ length-drop (length text - 2) text in
    let place : length text - 2 + 1 ≡ length text - 1 = omega (arith, long) in
    ap (λ k. get_or text k 0) (sym place) ∙ sym (get_or-drop (length text - 2) text 1 0) ∙ ap (λ l. get_or l 1 0) (sym same)

last_of_three : (text : List ℕ) → 10 ∷ 13 ∷ 10 ∷ [] ≡ drop (length text - 3) text → get_or text (length text - 1) 0 ≡ 10
last_of_three text same =
    let long : 3 ≡ length text - (length text - 3) = ap length same ∙ length-drop (length text - 3) text in
    let place : length text - 3 + 2 ≡ length text - 1 = omega (arith, long) in
    ap (λ k. get_or text k 0) (sym place) ∙ sym (get_or-drop (length text - 3) text 2 0) ∙ ap (λ l. get_or l 2 0) (sym same)

line_feed_last : (text : List ℕ) → IsTrue (ends_in_empty_line text) → get_or text (length text - 1) 0 ≡ 10
line_feed_last text ends =
    ⊎_elim (λ two. last_of_two text (same_text _ _ (sym two))) (λ three. last_of_three text (same_text _ _ (sym three))) (or_cases _ _ ends)

-- no empty line ends between two places without LF
pub no_line_between : (text : List ℕ) (at n : ℕ) → n ≤ length text → HasNoEmptyLine at text
    → ((j : ℕ) → at ≤ j → j < n → get_or text j 0 ≡ 10 → ⊥) → HasNoEmptyLine n text
no_line_between text at n inside none no_feed k below ends =
    ⊎_elim (λ past.
    let size : length (take k text) ≡ k = omega (arith, length-take k text) in
    let feed : get_or text (k - 1) 0 ≡ 10 =
    sym (get_or-take k text (k - 1) 0 (omega arith))
    ∙ ap (λ j. get_or (take k text) (j - 1) 0) (sym size)
    ∙ line_feed_last (take k text) ends in
    no_feed (k - 1) (omega arith) (omega arith) feed)
    (λ before. none k before ends) (cases_lt at k)

-- none ends in the bytes that a search passed
pub no_line_before : (text : List ℕ) (at limit step : ℕ) → at < limit → limit ≤ length text → step ≤ limit - at → HasNoEmptyLine at text
    → Nowhere (Passes (is_byte 10) (slice_range text at limit)) 0 step → HasNoEmptyLine (at + step) text
no_line_before text at limit step ordered inside within none nowhere =
    no_line_between text at (at + step) (omega arith) none λ j from below feed.
    let place : at + (j - at) ≡ j = omega arith in
    let same : get_or (slice_range text at limit) (j - at) 0 ≡ 10 =
    get_or-take (limit - at) (drop at text) (j - at) 0 (omega arith)
    ∙ get_or-drop at text (j - at) 0
    ∙ ap (λ i. get_or text i 0) place
    ∙ feed in
    nowhere (j - at) (omega arith) (omega arith) (ap (is_byte 10) same)

-- none ends at a place that was tested
pub no_line_at : (text : List ℕ) (n : ℕ) → HasNoEmptyLine (n - 1) text → ends_in_empty_line (take n text) ≡ false → HasNoEmptyLine n text
no_line_at text n none last k below ends =
    ⊎_elim (λ less. none k (omega arith) ends)
    (λ more.
    let same : k ≡ n = omega arith in
    let here : ends_in_empty_line (take n text) ≡ true = subst (λ j. IsTrue (ends_in_empty_line (take j text))) same ends in
    let both : true ≡ false = sym here ∙ last in cc)
    (cases_lt k n)
