-- Datagrams that go to lanes, one after another.
use Rattle.std.proofs.Common.{◌≡◌, ℕ, ◌+◌, List, [], ◌∷◌, ◌++◌, take, Option, Some, None, IsSomeAnd, slice_get, refl, sym, ap, ◌∙◌}
use Rattle.std.proofs.lemmas.List.{take_more}
use Rattle.std.proofs.lemmas.Option.{slice_get_within, get_or_from_slice_get}
use Rattle.satip_base.specs.Output.{Datagram}
use Rattle.satip_interleave.specs.Lanes.{PlainLanes, put_to}
use Rattle.satip_interleave.specs.Tunnels.{put_all}

put_all-append : (a b : List Datagram) (lanes : PlainLanes) → put_all (a ++ b) lanes ≡ put_all b (put_all a lanes)
put_all-append [] b lanes = refl
put_all-append (d ∷ ds) b lanes = put_all-append ds b (put_to d.to d.bytes lanes)

-- one more datagram
pub brought_more : (first before after : PlainLanes) (all : List Datagram) (place : ℕ) → before ≡ put_all (take place all) first
    → IsSomeAnd (slice_get all place) (λ d. after ≡ put_to d.to d.bytes before) → after ≡ put_all (take (place + 1) all) first
brought_more first before after all place is next = one_more (slice_get all place) refl next
  where
    one_more : (found : Option Datagram) → slice_get all place ≡ found → IsSomeAnd found (λ d. after ≡ put_to d.to d.bytes before)
        → after ≡ put_all (take (place + 1) all) first
    one_more None e nothing = absurd nothing
    one_more (Some d) e put =
        let more : take (place + 1) all ≡ take place all ++ d ∷ [] =
        take_more all place d (slice_get_within all place d e)
        ∙ ap (λ (x : Datagram). take place all ++ x ∷ []) (get_or_from_slice_get all place d d e) in
        put ∙ ap (put_to d.to d.bytes) is ∙ sym (ap (λ ds. put_all ds first) more ∙ put_all-append (take place all) (d ∷ []) first)
