-- A round of turns: whom one finds after it, and what it tells of one session.
use Rattle.std.proofs.Common.{◌≡◌, ℕ, ◌≤◌, Bool, true, false, List, [], ◌∷◌, map, Option, Some, None, refl, ap, ◌∙◌, append-nil, option_and_then}
use Rattle.std.specs.List.{filter_map, cons_option, flat_map}
use Rattle.std.specs.Option.{option_map_or}
use Rattle.satip_plain.proofs.SameIds.{same_id_is}
use Rattle.satip_plain.specs.Types.{SessionId}
use Rattle.satip_plain.specs.State.{Session, same_id}
use Rattle.satip_plain.specs.Sending.{Sent, Turn}
use Rattle.satip_laws.proofs.Ids.{look, Apart, Below}
use Rattle.satip_laws.proofs.Told.{told, told-append}

abbrev pub sends_of : (Session → Turn) → List Session → List Sent
sends_of turn xs = flat_map (λ x. (turn x).sends) xs

abbrev pub after_of : (Session → Turn) → List Session → List Session
after_of turn xs = filter_map (λ x. (turn x).after) xs

-- the turn sends only the session's own datagrams, and keeps its id
pub record IsOwn (x : Session) (t : Turn) : Type 0 where
  pub id : (y : Session) → t.after ≡ Some y → y.id ≡ x.id
  pub others : (s : SessionId) → same_id x.id s ≡ false → told s t.sends ≡ []

-- what a round does to the session of an id is what its own turn does
pub record Round (s : SessionId) (turn : Session → Turn) (xs : List Session) : Type 0 where
  pub found : look s (after_of turn xs) ≡ option_and_then (λ x. (turn x).after) (look s xs)
  pub tells : told s (sends_of turn xs) ≡ option_map_or (λ x. told s (turn x).sends) (look s xs) []

found_here : (s : SessionId) (x : Session) (t : Turn) (ys : List Session) → IsOwn x t → same_id x.id s ≡ true → look s ys ≡ None
    → look s (cons_option t.after ys) ≡ t.after
found_here s x t ys own e none = by t.after refl
  where
    by : (o : Option Session) → t.after ≡ o → look s (cons_option o ys) ≡ o
    by None f = none
    by (Some y) f = let same : same_id y.id s ≡ true = ap (λ i. same_id i s) (own.id y f) ∙ e in rw same refl

found_later : (s : SessionId) (x : Session) (t : Turn) (ys : List Session) → IsOwn x t → same_id x.id s ≡ false → look s (cons_option t.after ys) ≡ look s ys
found_later s x t ys own e = by t.after refl
  where
    by : (o : Option Session) → t.after ≡ o → look s (cons_option o ys) ≡ look s ys
    by None f = refl
    by (Some y) f = let same : same_id y.id s ≡ false = ap (λ i. same_id i s) (own.id y f) ∙ e in rw same refl

round_step : (s : SessionId) (turn : Session → Turn) (x : Session) (xs : List Session) → IsOwn x (turn x) → look x.id xs ≡ None → Round s turn xs
    → (b : Bool) → same_id x.id s ≡ b → Round s turn (x ∷ xs)
round_step s turn x xs own apart rest true e =
    let none : look s xs ≡ None = rw (← same_id_is x.id s e) apart in
    let none_after : look s (after_of turn xs) ≡ None = rest.found ∙ (rw none refl) in
    let none_told : told s (sends_of turn xs) ≡ [] = rest.tells ∙ (rw none refl) in
    record {
      found = found_here s x (turn x) (after_of turn xs) own e none_after ∙ (rw e refl);
      tells = told-append s (turn x).sends (sends_of turn xs) ∙ (rw (none_told, e) (append-nil (told s (turn x).sends)));
    }
round_step s turn x xs own apart rest false e = record {
  found = found_later s x (turn x) (after_of turn xs) own e ∙ rest.found ∙ (rw e refl);
  tells = told-append s (turn x).sends (sends_of turn xs) ∙ (rw (own.others s e, e) rest.tells);
}

pub round : (s : SessionId) (turn : Session → Turn) → ((x : Session) → IsOwn x (turn x)) → (xs : List Session) → Apart xs → Round s turn xs
round s turn own [] apart = record { found = refl; tells = refl }
round s turn own (x ∷ xs) apart = round_step s turn x xs (own x) apart.0 (round s turn own xs apart.1) (same_id x.id s) refl

apart_cons : (o : Option Session) (i : SessionId) (ys : List Session) → ((y : Session) → o ≡ Some y → y.id ≡ i) → look i ys ≡ None → Apart ys
    → Apart (cons_option o ys)
apart_cons None i ys same none apart = apart
apart_cons (Some y) i ys same none apart = (rw (same y refl) none, apart)

-- a round keeps ids apart
pub round_apart : (turn : Session → Turn) → ((x : Session) → IsOwn x (turn x)) → (xs : List Session) → Apart xs → Apart (after_of turn xs)
round_apart turn own [] apart = tt
round_apart turn own (x ∷ xs) apart =
    apart_cons (turn x).after x.id (after_of turn xs) (own x).id
    ((round x.id turn own xs apart.1).found ∙ (rw apart.0 refl)) (round_apart turn own xs apart.1)

below_cons : (made : ℕ) (o : Option Session) (x : Session) (ys : List Session) → ((y : Session) → o ≡ Some y → y.id ≡ x.id) → x.id.count ≤ made → Below made ys
    → Below made (cons_option o ys)
below_cons made None x ys same few below = below
below_cons made (Some y) x ys same few below = (rw (same y refl) few, below)

pub round_below : (made : ℕ) (turn : Session → Turn) → ((x : Session) → IsOwn x (turn x)) → (xs : List Session) → Below made xs → Below made (after_of turn xs)
round_below made turn own [] below = tt
round_below made turn own (x ∷ xs) below =
    below_cons made (turn x).after x (after_of turn xs) (own x).id below.0 (round_below made turn own xs below.1)

-- a change of each is a round in which nothing is sent
abbrev pub changing : (Session → Session) → Session → Turn
changing f x = record { sends = []; after = Some (f x) }

pub after_of-changing : (f : Session → Session) (xs : List Session) → after_of (changing f) xs ≡ map f xs
after_of-changing f [] = refl
after_of-changing f (x ∷ xs) = ap (λ ys. f x ∷ ys) (after_of-changing f xs)

pub sends_of-changing : (f : Session → Session) (xs : List Session) → sends_of (changing f) xs ≡ []
sends_of-changing f [] = refl
sends_of-changing f (x ∷ xs) = sends_of-changing f xs
