-- What one job's sink was sent at last, and that its entries are of their types.
use Rattle.std.proofs.Common.{◌≡◌, ◌∙◌, ℕ, ◌+◌, List, [], ◌++◌, length, sym, ap, subst, arith, append-nil, length-append}
use Rattle.std.proofs.lemmas.List.{nil_from_length}
use Rattle.satip_base.specs.History.{own_of}
use Rattle.satip_base.specs.Lists.{Begins, Each}
use Rattle.satip_base.proofs.Owned.{own_of-append}
use Rattle.satip_plain.specs.Histories.{Item}
use Rattle.satip_journal.specs.Continuing.{own_at-append}
use Rattle.satip_journal_serve.specs.Journals.{journal_of}
use Rattle.satip_journal.specs.Keeping.{Kept, SameJournal}
use Rattle.satip_journal.specs.Logs.{Logs}
use Rattle.satip_journal.specs.Owning.{KnowsOwn}
use Rattle.satip_journal.specs.Places.{Placed, lines_of, own_at}
use Rattle.satip_entry_writer.specs.Entries.{IsTyped}
use Rattle.satip_journal.proofs.PlaceLemmas.{own_at_behind, own_at_none}

-- the entries of a caller that made none before some moment and none behind another
own_at_last : (n : ℕ) (before more after : List Item) → own_of n before ≡ [] → own_of n after ≡ []
    → own_at 0 n ((before ++ more) ++ after) ≡ own_at (length before) n more
own_at_last n before more after none no_more =
    own_at-append 0 n (before ++ more) after
    ∙ ap (λ (ps : List Placed). own_at 0 n (before ++ more) ++ ps) (own_at_none (0 + length (before ++ more)) n after no_more)
    ∙ append-nil (own_at 0 n (before ++ more)) ∙ own_at_behind n before more none

own_of_last : (n : ℕ) (before more after : List Item) → own_of n before ≡ [] → own_of n after ≡ []
    → own_of n ((before ++ more) ++ after) ≡ own_of n more
own_of_last n before more after none no_more =
    own_of-append n (before ++ more) after ∙ ap (λ (es : List Item). own_of n (before ++ more) ++ es) no_more
    ∙ append-nil (own_of n (before ++ more)) ∙ own_of-append n before more ∙ ap (λ (es : List Item). es ++ own_of n more) none

none_after : (n : ℕ) (seen after h : List Item) → h ≡ seen ++ after → own_of n h ≡ own_of n seen → own_of n after ≡ []
none_after n seen after h whole same =
    let cut : own_of n h ≡ own_of n seen ++ own_of n after = ap (own_of n) whole ∙ own_of-append n seen after in
    let long = ap (λ (es : List Item). length es) (sym same ∙ cut) in
    let both = length-append (own_of n seen) (own_of n after) in
    nil_from_length (own_of n after) (omega (arith, long, both))

-- a caller that had made no entry before, and has made all of its own by now
pub at_last : (tells : Type 0) (k l : Kept) (h : List Item) → SameJournal tells k l → KnowsOwn k.pass → KnowsOwn l.pass → k.pass.own ≡ []
    → Begins l.pass.seen h → own_of l.pass.number h ≡ l.pass.own
    → Logs tells k.drain l.drain k.failed l.failed (journal_of k.number l.pass.number h) × Each IsTyped (own_of l.pass.number h)
at_last tells k l h same own_before own_now new begins all =
    let n = k.pass.number in
    let m = l.pass.number in
    let number : m ≡ n = same.caller.pass.number in
    let before = k.pass.seen in
    let none : own_of n before ≡ [] = own_before ∙ new in
    let whole : h ≡ (before ++ same.more) ++ begins.rest = begins.whole ∙ ap (λ (s : List Item). s ++ begins.rest) same.seen in
    let behind : own_of m begins.rest ≡ [] = none_after m l.pass.seen begins.rest h begins.whole (all ∙ sym own_now) in
    let no_more : own_of n begins.rest ≡ [] = subst (λ (i : ℕ). own_of i begins.rest ≡ []) number behind in
    let places : own_at (length before) n same.more ≡ own_at 0 m h =
    sym (own_at_last n before same.more begins.rest none no_more) ∙ (λ i. own_at 0 (sym number i) (sym whole i)) in
    let entries : own_of n same.more ≡ own_of m h =
    sym (own_of_last n before same.more begins.rest none no_more) ∙ (λ i. own_of (sym number i) (sym whole i)) in
    let P : List Placed → Type 0 = λ ps. Logs tells k.drain l.drain k.failed l.failed (lines_of k.number ps) in
    (subst P places same.logs, subst (λ (es : List Item). Each IsTyped es) entries same.typed)
