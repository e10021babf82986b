-- What was written into an output that was cleared.
use Rattle.std.proofs.Common.{◌≡◌, ℕ, List, [], ◌++◌, ap, ◌∙◌}
use Rattle.satip_base.specs.Output.{Output, Wrote, empty}
use Rattle.satip_interleave.specs.Answers.{Writes}

pub written_first : (o n : Output) (bytes : List ℕ) → o ≡ empty → Wrote o bytes n → Writes bytes n
written_first o n bytes cleared wrote = record {
  written = wrote.reply ∙ ap (λ (x : Output). x.reply ++ bytes) cleared;
  unsent = wrote.datagrams ∙ ap (λ (x : Output). x.datagrams) cleared;
}

pub written_nothing : (o : Output) → o ≡ empty → Writes [] o
written_nothing o cleared = record { written = ap (λ (x : Output). x.reply) cleared; unsent = ap (λ (x : Output). x.datagrams) cleared }
