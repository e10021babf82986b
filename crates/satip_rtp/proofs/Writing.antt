-- Lemmas on datagrams that are written piece by piece.
use Rattle.std.proofs.Common.{◌≡◌, ℕ, ◌+◌, ◌<◌, List, [], ◌∷◌, ◌++◌, length, take, get_or, refl, sym, ap, ◌∙◌, append-nil, append_assoc, arith}
use Rattle.std.proofs.lemmas.List.{take_more}
use Rattle.std.specs.List.{concat}
use Rattle.satip_base.specs.Output.{Output, Datagram, Extended, extended}

extended-nothing : (ds : List Datagram) → extended ds [] ≡ ds
extended-nothing [] = refl
extended-nothing (d ∷ []) = ap (λ (bytes : List ℕ). record { to = d.to; bytes = bytes } ∷ []) (append-nil d.bytes)
extended-nothing (d ∷ e ∷ ds) = ap (λ (rest : List Datagram). d ∷ rest) (extended-nothing (e ∷ ds))

-- nothing was appended
pub nothing_extended : (o : Output) → Extended o [] o
nothing_extended o = record {
  datagrams = sym (extended-nothing o.datagrams);
  count = refl;
  datagram_spare = omega arith;
  count_spare = refl;
  reply = refl;
  reply_spare = refl;
}

-- one more piece
concat-push : (pieces : List (List ℕ)) (piece : List ℕ) → concat (pieces ++ piece ∷ []) ≡ concat pieces ++ piece
concat-push [] piece = append-nil piece
concat-push (first ∷ pieces) piece = ap (λ t. first ++ t) (concat-push pieces piece) ∙ sym (append_assoc first (concat pieces) piece)

pub concat_more : (pieces : List (List ℕ)) (i : ℕ) → i < length pieces
    → concat (take (i + 1) pieces) ≡ concat (take i pieces) ++ get_or pieces i []
concat_more pieces i h = ap (λ t. concat t) (take_more pieces i [] h) ∙ concat-push (take i pieces) (get_or pieces i [])
