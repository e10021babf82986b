-- What is told of a session by its id and stream, and which refusal is the first.
use Rattle.std.proofs.Common.{◌≡◌, ◌∙◌, ℕ, ◌==◌, ◌&&◌, ◌||◌, not, Bool, true, false, List, [], ◌∷◌, ◌++◌, Option, None, Some, is_none, is_some, option_map, Result, Ok, Err, cond, refl, sym, ap}
use Rattle.std.specs.Option.{option_map_or}
use Rattle.std.specs.Result.{result_err}
use Rattle.satip_plain.specs.State.{Session, State, owner, same_id}
use Rattle.satip_query.specs.declared.bodies.RefusalBody.TheVariants.{CheckSyntax}
use Rattle.satip_plain.specs.Types.{Key, Tuning}
use Rattle.satip_plain.specs.Refusals.{Refused, first_given, where_true, of_tuning, owns, telling}
use Rattle.satip_state.specs.Looks.{owner_id}
use Rattle.satip_core.specs.RefusalRows.{number_in, of_another, owns_of, party_of}

pub none_mapped : {X : Type 0} {Y : Type 0} (f : X → Y) (o : Option X) → is_none (option_map f o) ≡ is_none o
none_mapped f None = refl
none_mapped f (Some x) = refl

pub number_party : (o : Option Session) → number_in (option_map party_of o) ≡ option_map (λ s. s.stream) o
number_party None = refl
number_party (Some s) = refl

pub another_party : (o : Option Session) (stream : Option ℕ)
    → of_another (option_map party_of o) stream ≡ option_map_or (λ s. option_map_or (λ number. not (s.stream == number)) stream false) o false
another_party None stream = refl
another_party (Some s) stream = refl

owner_same : (s : Session) (o : Option Session)
    → option_map_or (λ id. same_id id s.id) (option_map (λ (x : Session). x.id) o) false ≡ option_map_or (λ (x : Session). same_id x.id s.id) o false
owner_same s None = refl
owner_same s (Some x) = refl

pub owns_party : (st : State) (number : ℕ) (o : Option Session) → owns_of (option_map party_of o) (owner_id st number) ≡ owns st number o
owns_party st number None = refl
owns_party st number (Some s) = owner_same s (owner st number)

-- the first place refuses, or the next ones do
pub first_now : (b : Bool) (refused : Refused) (more : List (Option Refused)) → true ≡ b → Some refused ≡ first_given (where_true b refused ∷ more)
first_now b refused more e = ap (λ x. first_given (where_true x refused ∷ more)) e

pub first_later : (b : Bool) (refused : Refused) (more : List (Option Refused)) → false ≡ b → first_given more ≡ first_given (where_true b refused ∷ more)
first_later b refused more e = ap (λ x. first_given (where_true x refused ∷ more)) e

pub none_is : {X : Type 0} (o : Option X) (r : Bool) → is_some o ≡ not r → r ≡ is_none o
none_is None true e = refl
none_is None false e = e
none_is (Some x) true e = e
none_is (Some x) false e = refl

pub and_same : {a b c d : Bool} → a ≡ b → c ≡ d → (a && c) ≡ (b && d)
and_same {a = a} {d = d} e f = ap (λ x. a && x) f ∙ ap (λ x. x && d) e

pub or_same : {a b c d : Bool} → a ≡ b → c ≡ d → (a || c) ≡ (b || d)
or_same {a = a} {d = d} e f = ap (λ x. a || x) f ∙ ap (λ x. x || d) e

-- a test that is made first
pub tried_first : {a b : Bool} (c : Bool) → a ≡ b → a ≡ true → c ≡ (b && c)
tried_first c same holds = ap (λ x. x && c) (sym holds ∙ same)

pub failed_first : {a b : Bool} (c : Bool) → a ≡ b → a ≡ false → false ≡ (b && c)
failed_first c same fails = ap (λ x. x && c) (sym fails ∙ same)

pub first_none : (o : Option Refused) (more : List (Option Refused)) → None ≡ o → first_given more ≡ first_given (o ∷ more)
first_none o more e = ap (λ x. first_given (x ∷ more)) e

-- the first of two lists, one after the other
pub first_before : (refused : Refused) (some more : List (Option Refused)) → Some refused ≡ first_given some → Some refused ≡ first_given (some ++ more)
first_before refused [] more e = absurd (cc)
first_before refused (None ∷ some) more e = first_before refused some more e
first_before refused (Some x ∷ some) more e = e

pub first_after : (some more : List (Option Refused)) → None ≡ first_given some → first_given more ≡ first_given (some ++ more)
first_after [] more e = refl
first_after (None ∷ some) more e = first_after some more e
first_after (Some x ∷ some) more e = absurd (cc)

-- a change that lacks a needed key is refused first
pub key_first : (b : Bool) (tuning : Result Tuning Key) (key : Key) (more : List (Option Refused)) → Some key ≡ cond b (result_err tuning) None
    → Some (telling 400 (CheckSyntax key)) ≡ first_given (cond b (of_tuning tuning) None ∷ more)
key_first true (Ok t) key more e = absurd (cc)
key_first true (Err k) key more e = ap (λ o. first_given (option_map (λ k. telling 400 (CheckSyntax k)) o ∷ more)) e
key_first false tuning key more e = absurd (cc)

pub key_later : (b : Bool) (tuning : Result Tuning Key) (more : List (Option Refused)) → None ≡ cond b (result_err tuning) None
    → first_given more ≡ first_given (cond b (of_tuning tuning) None ∷ more)
key_later true (Ok t) more e = refl
key_later true (Err k) more e = absurd (cc)
key_later false tuning more e = refl
