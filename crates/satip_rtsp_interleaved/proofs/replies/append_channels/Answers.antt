use Rattle.std.proofs.Common.{◌≡◌, ◌++◌, List, ℕ, ap, ◌∙◌, append_assoc}
use Rattle.satip_rtsp_interleaved.specs.Turned.{channel_line}
use Rattle.satip_rtsp_interleaved.proofs.replies.append_channels.Goals as goal

-- five texts, one after another
five : (items a b c d e r s t u v : List ℕ) → r ≡ items ++ a → s ≡ r ++ b → t ≡ s ++ c → u ≡ t ++ d → v ≡ u ++ e
    → v ≡ items ++ (a ++ b ++ c ++ d ++ e)
five items a b c d e r s t u v first second third fourth fifth =
    fifth ∙ ap (λ x. x ++ e) (fourth ∙ ap (λ x. x ++ d) (third ∙ ap (λ x. x ++ c) (second ∙ ap (λ x. x ++ b) first)))
    ∙ simp append_assoc

pub returns-clause-items : goal.returns-clause-items
unfolding channel_line
returns-clause-items c =
    five _ _ _ _ _ _ _ _ _ _ _ c.append.ensures.items (rw c.saturating_sub.ensures at c.append_number.ensures.items) c.append-2.ensures.items
    (rw c.saturating_sub-2.ensures at c.append_number-2.ensures.items) c.append-3.ensures.items
