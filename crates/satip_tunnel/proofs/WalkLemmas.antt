-- Walks and wires of entries one after another.
use Rattle.std.proofs.Common.{◌≡◌, ◌∙◌, ℕ, List, [], ◌∷◌, ◌++◌, append_assoc, sym, ap, subst}
use Rattle.std.proofs.lemmas.List.Concat.{flat_map-append}
use Rattle.satip_interleave.specs.Histories.{TunnelItem}
use Rattle.satip_tunnel.specs.Walk.{Stance, Walk}
use Rattle.satip_tunnel.specs.Wire.{sent_by, wire, SentInPart}

-- one walk behind another
pub walk_then : (lane : ℕ) (from mid to : Stance) (xs ys : List TunnelItem) → Walk lane from xs mid → Walk lane mid ys to → Walk lane from (xs ++ ys) to
walk_then lane from mid to [] ys a b = subst (λ (s : Stance). Walk lane s ys to) a b
walk_then lane from mid to (t ∷ xs) ys a b = (a.0, a.1, walk_then lane a.0 mid to xs ys a.2 b)

pub wire-append : (xs ys : List TunnelItem) → wire (xs ++ ys) ≡ wire xs ++ wire ys
wire-append xs ys = flat_map-append (λ (t : TunnelItem). sent_by t.event t.answer t.out) xs ys

-- more was sent whole before
pub in_part_behind : (xs ys : List TunnelItem) (sent : List ℕ) → SentInPart ys sent → SentInPart (xs ++ ys) (wire xs ++ sent)
in_part_behind xs ys sent p = record {
  before = xs ++ p.before;
  last = p.last;
  entries_are = ap (λ (es : List TunnelItem). xs ++ es) p.entries_are ∙ sym (append_assoc xs p.before (p.last ∷ []));
  part = p.part;
  rest = p.rest;
  bytes = p.bytes;
  sent_is = ap (λ (s : List ℕ). wire xs ++ s) p.sent_is ∙ sym (append_assoc (wire xs) (wire p.before) p.part)
      ∙ ap (λ (s : List ℕ). s ++ p.part) (sym (wire-append xs p.before));
}
