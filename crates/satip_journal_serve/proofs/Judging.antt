-- Whole journals are judged `yes`.
use Rattle.std.proofs.Common.{◌≡◌, ◌∙◌, ℕ, Bool, false, List, [], ◌∷◌, ◌++◌, map, refl, ap, subst}
use Rattle.std.specs.List.Sorted.{IsPermutation}
use Rattle.satip_base.specs.Streams.{Drain}
use Rattle.satip_base.specs.Lists.{Each}
use Rattle.satip_plain.specs.declared.setting.Setting.{Setting}
use Rattle.satip_plain.specs.Histories.{Item, Legal}
use Rattle.satip_journal_serve.specs.Journals.{AreCallersOf, journals}
use Rattle.satip_entry_writer.specs.Entries.{IsTyped}
use Rattle.satip_journal_serve.proofs.OneHistory.{one_history}
use Rattle.satip_journal_serve.specs.Judged.{AreOneHistory}
use Rattle.satip_journal_serve.specs.Sent.{AreWhole, AreWritten, new_journals}
use Rattle.satip_journal_serve.proofs.Sending.{new_sent}

whole_texts : (tells : Type 0) (before after : List Drain) (texts : List (List ℕ)) → tells → Each (λ d. d.sent ≡ []) before → AreWhole tells before after texts
    → map (λ d. d.sent) after ≡ texts
whole_texts tells [] [] [] told fresh whole = refl
whole_texts tells [] [] (t ∷ ts) told fresh whole = absurd whole
whole_texts tells [] (n ∷ ns) [] told fresh whole = absurd whole
whole_texts tells [] (n ∷ ns) (t ∷ ts) told fresh whole = absurd whole
whole_texts tells (o ∷ os) [] [] told fresh whole = absurd whole
whole_texts tells (o ∷ os) [] (t ∷ ts) told fresh whole = absurd whole
whole_texts tells (o ∷ os) (n ∷ ns) [] told fresh whole = absurd whole
whole_texts tells (o ∷ os) (n ∷ ns) (t ∷ ts) told fresh whole =
    let here : n.sent ≡ t = whole.0.content told ∙ ap (λ (s : List ℕ). s ++ t) fresh.0 in
    λ i. here i ∷ whole_texts tells os ns ts told fresh.1 whole.1 i

pub judged_yes : (tells : Type 0) (c : Setting) (h : List Item) (callers : List ℕ) (failed : Bool) (drains : List Drain) → Legal c h → Each IsTyped h
    → AreCallersOf (0 ∷ callers) h → AreWritten tells failed (new_journals drains) drains (journals c.start 0 callers h) → failed ≡ false
    → AreOneHistory tells c h drains
judged_yes tells c h callers failed drains legal typed are written unfailed told texts permutation =
    let all : List (List ℕ) = journals c.start 0 callers h in
    let whole : AreWhole tells (new_journals drains) drains all = subst (λ (b : Bool). AreWritten tells b (new_journals drains) drains all) unfailed written in
    one_history c h 0 callers texts legal typed are
    (subst (λ (l : List (List ℕ)). IsPermutation l texts) (whole_texts tells (new_journals drains) drains all told (new_sent drains) whole) permutation)
