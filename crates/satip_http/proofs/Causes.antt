-- Where each refusal comes.
use Rattle.std.proofs.Common.{◌≡◌, ◌≢◌, ◌↔◌, ℕ, ◌≤◌, ◌<◌, Bool, true, false, cond, List, drop, Option, Some, None, Result, Ok, Err, codes, nat_eq, refl, ap, sym, arith}
use Rattle.std.specs.List.{starts_with}
use Rattle.std.specs.Str.{bytes_eq}
use Rattle.satip_frame.specs.Said.{Said}
use Rattle.satip_query.specs.Reading.{query_of}
use Rattle.satip_query.specs.declared.faults.QueryFault.{QueryFault}
use Rattle.satip_query.specs.declared.queries.Query.{Query}
use Rattle.satip_http.specs.Gets.{AsksAtFault, IsGet, asked_get, is_path, is_served_text, query_in, refused, rest_text, get_of_path, get_of_query, get_of_rest}
use Rattle.satip_http.specs.declared.requests.HttpRefusal.{HttpRefusal}
use Rattle.satip_http.specs.declared.requests.HttpRefusal.TheVariants.{Broken, TooLong, Version, Method, Target, NotFound, Query as QueryAt}
use Rattle.satip_http.specs.declared.requests.HttpRequest.{HttpRequest}

-- the place of a refusal in the order in which the causes are looked at
abbrev pub place : Option HttpRefusal → ℕ
place None = 7
place (Some Broken) = 0
place (Some TooLong) = 1
place (Some Version) = 2
place (Some Method) = 3
place (Some Target) = 4
place (Some NotFound) = 5
place (Some (QueryAt fault)) = 6

either : (k : ℕ) (b : Bool) (x y : HttpRequest) → k ≤ place x.refusal → k ≤ place y.refusal → k ≤ place (cond b x y).refusal
either k true x y a b = a
either k false x y a b = b

query_place : (found : Result Query QueryFault) → 4 ≤ place (get_of_query found).refusal
query_place (Err fault) = omega arith
query_place (Ok query) = omega arith

asking_place : (found : Result Query QueryFault) → 6 ≤ place (get_of_query found).refusal
asking_place (Err fault) = omega arith
asking_place (Ok query) = omega arith

path_place : (path : List ℕ) → 4 ≤ place (get_of_path path).refusal
path_place path =
    let missing : 4 ≤ place (refused NotFound).refusal = omega arith in
    let wrong : 4 ≤ place (refused Target).refusal = omega arith in
    let neither : HttpRequest = cond (starts_with nat_eq path (codes "/")) (refused NotFound) (refused Target) in
    let last : 4 ≤ place neither.refusal = either 4 (starts_with nat_eq path (codes "/")) (refused NotFound) (refused Target) missing wrong in
    either 4 (starts_with nat_eq path (codes "/?")) (get_of_query (query_of (drop 2 path))) neither (query_place (query_of (drop 2 path))) last

rest_place : (rest : List ℕ) → 4 ≤ place (get_of_rest rest).refusal
unfolding get_of_rest
rest_place rest =
    either 4 (starts_with nat_eq rest (codes "?")) (get_of_query (query_of (drop 1 rest))) (get_of_path rest) (query_place (query_of (drop 1 rest)))
    (path_place rest)

-- a refusal that comes later is another one
later : (a : Option HttpRefusal) (b : HttpRefusal) (k : ℕ) → k ≤ place a → place (Some b) < k → a ≡ Some b → ⊥
later a b k high low e = omega (arith, ap place e)

-- what a version and a method make of the request of a target
abbrev pub chosen : Bool → Bool → HttpRequest → HttpRequest
chosen served get r = cond served (cond get r (refused Method)) (refused Version)

-- what a target, once its beginnings were looked at, makes of the request
abbrev pub chosen_rest : Bool → Bool → Bool → Result Query QueryFault → Result Query QueryFault → HttpRequest
chosen_rest asks slash_asks slash behind_mark behind_path =
    cond asks (get_of_query behind_mark) (cond slash_asks (get_of_query behind_path) (cond slash (refused NotFound) (refused Target)))

-- the query so found
abbrev pub chosen_query : Bool → Bool → List ℕ → List ℕ → Option (List ℕ)
chosen_query asks slash_asks behind_mark behind_path = cond asks (Some behind_mark) (cond slash_asks (Some behind_path) None)

-- where the refusals of a target come
pub record RestCauses (slash : Bool) (text : Option (List ℕ)) (refusal : Option HttpRefusal) : Type 0 where
  pub target : (refusal ≡ Some Target) ↔ ((slash ≡ false) × (text ≡ None))
  pub not_found : (refusal ≡ Some NotFound) ↔ ((slash ≡ true) × (text ≡ None))
  pub query : (fault : QueryFault) → (refusal ≡ Some (QueryAt fault)) ↔ AsksAtFault fault text

query_by : (fault : QueryFault) (found : Result Query QueryFault) → ((get_of_query found).refusal ≡ Some (QueryAt fault)) ↔ (found ≡ Err fault)
query_by fault (Ok query) = (λ e. absurd (cc), λ e. absurd (cc))
query_by fault (Err other) = (λ e. cc, λ e. cc)

asking : (slash : Bool) (text : List ℕ) → RestCauses slash (Some text) (get_of_query (query_of text)).refusal
asking slash text = record {
  target = (λ e. absurd (later _ Target 6 (asking_place (query_of text)) (omega arith) e), λ e. absurd (let no : Some text ≡ None = e.1 in cc));
  not_found = (λ e. absurd (later _ NotFound 6 (asking_place (query_of text)) (omega arith) e), λ e. absurd (let no : Some text ≡ None = e.1 in cc));
  query = λ fault. query_by fault (query_of text);
}

rest_causes : (asks slash_asks slash : Bool) (behind_mark behind_path : List ℕ)
    → RestCauses slash (chosen_query asks slash_asks behind_mark behind_path)
    (chosen_rest asks slash_asks slash (query_of behind_mark) (query_of behind_path)).refusal
rest_causes true slash_asks slash behind_mark behind_path = asking slash behind_mark
rest_causes false true slash behind_mark behind_path = asking slash behind_path
rest_causes false false true behind_mark behind_path = record {
  target = (λ e. absurd (cc), λ e. absurd (let no : true ≡ false = e.0 in cc));
  not_found = (λ e. (refl, refl), λ e. refl);
  query = λ fault. (λ e. absurd (cc), λ e. absurd e);
}
rest_causes false false false behind_mark behind_path = record {
  target = (λ e. (refl, refl), λ e. refl);
  not_found = (λ e. absurd (cc), λ e. absurd (let no : false ≡ true = e.0 in cc));
  query = λ fault. (λ e. absurd (cc), λ e. absurd e);
}

pub causes_of_rest : (rest : List ℕ) → RestCauses (is_path rest) (query_in rest) (get_of_rest rest).refusal
unfolding get_of_rest
causes_of_rest rest =
    rest_causes (starts_with nat_eq rest (codes "?")) (starts_with nat_eq rest (codes "/?")) (is_path rest) (drop 1 rest) (drop 2 rest)

-- the same of a message, where it is a GET
pub record TargetCauses (m : Said) (refusal : Option HttpRefusal) : Type 0 where
  pub target : (refusal ≡ Some Target) ↔ (IsGet m × (is_path (rest_text m.target) ≡ false) × (query_in (rest_text m.target) ≡ None))
  pub not_found : (refusal ≡ Some NotFound) ↔ (IsGet m × (is_path (rest_text m.target) ≡ true) × (query_in (rest_text m.target) ≡ None))
  pub query : (fault : QueryFault) → (refusal ≡ Some (QueryAt fault)) ↔ (IsGet m × AsksAtFault fault (query_in (rest_text m.target)))

-- a refusal for what comes before the target is none of these
no_get : (m : Said) (refusal : HttpRefusal) → place (Some refusal) < 4 → (IsGet m → ⊥) → TargetCauses m (Some refusal)
no_get m refusal low never = record {
  target = (λ e. absurd (later (Some Target) refusal 4 (omega arith) low (sym e)), λ e. absurd (never e.0));
  not_found = (λ e. absurd (later (Some NotFound) refusal 4 (omega arith) low (sym e)), λ e. absurd (never e.0));
  query = λ fault. (λ e. absurd (later (Some (QueryAt fault)) refusal 4 (omega arith) low (sym e)), λ e. absurd (never e.0));
}

of_get : (m : Said) → IsGet m → TargetCauses m (get_of_rest (rest_text m.target)).refusal
of_get m is =
    let found : RestCauses (is_path (rest_text m.target)) (query_in (rest_text m.target)) (get_of_rest (rest_text m.target)).refusal =
    causes_of_rest (rest_text m.target) in
    record {
      target = (λ e. (is, (found.target.0 e).0, (found.target.0 e).1), λ e. found.target.1 (e.1, e.2));
      not_found = (λ e. (is, (found.not_found.0 e).0, (found.not_found.0 e).1), λ e. found.not_found.1 (e.1, e.2));
      query = λ fault. (λ e. (is, (found.query fault).0 e), λ e. (found.query fault).1 e.1);
    }

target_causes_by : (m : Said) (served get : Bool) → is_served_text m.version ≡ served → bytes_eq m.method (codes "GET") ≡ get
    → TargetCauses m (chosen served get (get_of_rest (rest_text m.target))).refusal
target_causes_by m false get v g = no_get m Version (omega arith) (λ is. let no : is_served_text m.version ≡ true = is.version in cc)
target_causes_by m true false v g = no_get m Method (omega arith) (λ is. let no : bytes_eq m.method (codes "GET") ≡ true = is.method in cc)
target_causes_by m true true v g = of_get m (record { version = v; method = g })

pub target_causes : (m : Said) → TargetCauses m (asked_get m).refusal
unfolding asked_get
target_causes m = target_causes_by m (is_served_text m.version) (bytes_eq m.method (codes "GET")) refl refl

-- where the first refusals of a message come
pub record Causes (served get : Bool) (refusal : Option HttpRefusal) : Type 0 where
  pub version : (refusal ≡ Some Version) ↔ (served ≡ false)
  pub method : (refusal ≡ Some Method) ↔ ((served ≡ true) × (get ≡ false))
  pub not_broken : refusal ≢ Some Broken
  pub not_too_long : refusal ≢ Some TooLong

causes_of : (served get : Bool) (r : HttpRequest) → 4 ≤ place r.refusal → Causes served get (chosen served get r).refusal
causes_of false get r high = record {
  version = (λ e. refl, λ e. refl);
  method = (λ e. absurd (cc), λ e. absurd (let no : false ≡ true = e.0 in cc));
  not_broken = λ e. cc;
  not_too_long = λ e. cc;
}
causes_of true false r high = record {
  version = (λ e. absurd (cc), λ e. absurd (cc));
  method = (λ e. (refl, refl), λ e. refl);
  not_broken = λ e. cc;
  not_too_long = λ e. cc;
}
causes_of true true r high = record {
  version = (λ e. absurd (later r.refusal Version 4 high (omega arith) e), λ e. absurd (cc));
  method = (λ e. absurd (later r.refusal Method 4 high (omega arith) e), λ e. absurd (let no : true ≡ false = e.1 in cc));
  not_broken = λ e. later r.refusal Broken 4 high (omega arith) e;
  not_too_long = λ e. later r.refusal TooLong 4 high (omega arith) e;
}

pub causes : (m : Said) → Causes (is_served_text m.version) (bytes_eq m.method (codes "GET")) (asked_get m).refusal
unfolding asked_get
causes m = causes_of (is_served_text m.version) (bytes_eq m.method (codes "GET")) (get_of_rest (rest_text m.target)) (rest_place (rest_text m.target))
