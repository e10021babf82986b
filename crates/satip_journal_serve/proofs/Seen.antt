-- What a call left, as contracts see it.
use Rattle.std.proofs.Common.{Option, Some, None, option_map, IfSome, IsNone, MatchOption, inl, inr, refl}
use Rattle.satip_serve.specs.Servings.{IsOneOf, IsNeitherOf}

pub some_seen : {S T : Type 0} (see : S → T) (P : T → Type 0) (x : Option S) → IfSome x (λ s. P (see s)) → IfSome (option_map see x) P
some_seen see P None is = tt
some_seen see P (Some s) is = is

pub always_seen : {S T : Type 0} (P : Type 0) (see : S → T) (x : Option S) → IfSome x (λ _. P) → IfSome (option_map see x) (λ _. P)
always_seen P see None is = tt
always_seen P see (Some s) is = is

pub none_seen : {S T : Type 0} (see : S → T) (x : Option S) → IsNone (option_map see x) → IsNone x
none_seen see None is = refl
none_seen see (Some s) is = absurd (cc is)

one_seen : {S T U V : Type 0} (see : S → U) (view : T → V) (x : Option S) (y : Option T) → IsOneOf x y → IsOneOf (option_map see x) (option_map view y)
one_seen see view (Some s) None one = inl (refl, refl)
one_seen see view None (Some t) one = inr (refl, refl)
one_seen see view (Some s) (Some t) (inl one) = absurd (cc one.1)
one_seen see view (Some s) (Some t) (inr one) = absurd (cc one.0)
one_seen see view None None (inl one) = absurd (cc one.0)
one_seen see view None None (inr one) = absurd (cc one.1)

neither_seen : {S T U V : Type 0} (see : S → U) (view : T → V) (x : Option S) (y : Option T) → IsNeitherOf x y
    → IsNeitherOf (option_map see x) (option_map view y)
neither_seen see view None None neither = (refl, refl)
neither_seen see view (Some s) y neither = absurd (cc neither.0)
neither_seen see view None (Some t) neither = absurd (cc neither.1)

pub kits_seen : {G S T U V : Type 0} (see : S → U) (view : T → V) (given : Option G) (x : Option S) (y : Option T)
    → MatchOption given (IsNeitherOf x y) (λ _. IsOneOf x y)
    → MatchOption given (IsNeitherOf (option_map see x) (option_map view y)) (λ _. IsOneOf (option_map see x) (option_map view y))
kits_seen see view None x y is = neither_seen see view x y is
kits_seen see view (Some g) x y is = one_seen see view x y is
