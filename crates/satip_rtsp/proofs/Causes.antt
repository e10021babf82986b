-- Where each refusal comes.
use Rattle.std.proofs.Common.{◌≡◌, ◌≢◌, ◌↔◌, ℕ, ◌≤◌, Bool, true, false, List, Option, Some, None, IsSome, Result, Ok, Err, codes, refl, ap, arith, sym, subst, ◌<◌}
use Rattle.std.specs.Str.{bytes_eq}
use Rattle.satip_frame.specs.Said.{Said, first_value}
use Rattle.satip_query.specs.declared.faults.QueryFault.{QueryFault}
use Rattle.satip_query.specs.declared.queries.Query.{Query}
use Rattle.satip_rtsp.specs.Targets.{TargetParts, target_of}
use Rattle.satip_rtsp.specs.Asked.{IsServed, asked, asked_with, cseq_of, is_options_method, method_named, query_read, requirement, required_in, with_method, with_query, with_required, with_target, with_version}
use Rattle.satip_rtsp.specs.declared.requests.Method.{Method}
use Rattle.satip_rtsp.specs.declared.requests.Request.{Request}
use Rattle.satip_rtsp.specs.declared.requests.Refusal.{Refusal}
use Rattle.satip_rtsp.specs.declared.requests.Refusal.TheVariants.{Broken, TooLong, NoCseq, Version, Method as BadMethod, Require, Target as BadTarget, Query as QueryAt}

-- the place of a refusal in the order in which the causes are looked at
abbrev pub place : Option Refusal → ℕ
place None = 8
place (Some Broken) = 0
place (Some TooLong) = 1
place (Some NoCseq) = 2
place (Some Version) = 3
place (Some BadMethod) = 4
place (Some (Require kept)) = 5
place (Some BadTarget) = 6
place (Some (QueryAt fault)) = 7

query_place : (n : ℕ) (m : Said) (method : Method) (target : TargetParts) (found : Result Query QueryFault)
    → 5 ≤ place (with_query n m method target found).refusal
query_place n m method target (Err fault) = omega arith
query_place n m method target (Ok query) = omega arith

target_place : (n : ℕ) (m : Said) (method : Method) (found : Option TargetParts) → 5 ≤ place (with_target n m method found).refusal
target_place n m method None = omega arith
target_place n m method (Some target) = query_place n m method target (query_read method target.query)

required_place : (n : ℕ) (m : Said) (method : Method) (found : Option (List ℕ)) → 5 ≤ place (with_required n m method found).refusal
required_place n m method (Some kept) = omega arith
required_place n m method None = target_place n m method (target_of (is_options_method method) m.target)

method_place : (n : ℕ) (m : Said) (found : Option Method) → 4 ≤ place (with_method n m found).refusal
method_place n m None = omega arith
method_place n m (Some method) = omega (arith, required_place n m method (requirement (first_value (codes "Require") m.headers)))

version_place : (n : ℕ) (m : Said) (found : Bool) → 3 ≤ place (with_version n m found).refusal
version_place n m false = omega arith
version_place n m true = omega (arith, method_place n m (method_named m.method))

asked_place : (cseq : Option ℕ) (m : Said) → 2 ≤ place (asked_with cseq m).refusal
asked_place None m = omega arith
asked_place (Some n) m = omega (arith, version_place n m (bytes_eq m.version (codes "RTSP/1.0")))

-- a refusal that comes later is another one
later : (a : Option Refusal) (b : Refusal) (k : ℕ) → k ≤ place a → place (Some b) < k → a ≡ Some b → ⊥
later a b k high low e = omega (arith, ap place e)

method_by : (n : ℕ) (m : Said) (found : Option Method) → ((with_method n m found).refusal ≡ Some BadMethod) ↔ (found ≡ None)
method_by n m None = (λ e. refl, λ e. refl)
method_by n m (Some method) =
    (λ e. absurd (later _ BadMethod 5 (required_place n m method (requirement (first_value (codes "Require") m.headers))) (omega arith) e), λ e. absurd (cc))

version_by : (n : ℕ) (m : Said) (found : Bool) → ((with_version n m found).refusal ≡ Some Version) ↔ (found ≡ false)
version_by n m false = (λ e. refl, λ e. refl)
version_by n m true = (λ e. absurd (later _ Version 4 (method_place n m (method_named m.method)) (omega arith) e), λ e. absurd (cc))

method_of : (n : ℕ) (m : Said) (found : Bool) → ((with_version n m found).refusal ≡ Some BadMethod) ↔ ((found ≡ true) × (method_named m.method ≡ None))
method_of n m false = (λ e. absurd (cc), λ e. absurd (let no : false ≡ true = e.0 in cc))
method_of n m true = (λ e. (refl, (method_by n m (method_named m.method)).0 e), λ e. (method_by n m (method_named m.method)).1 e.1)

-- a query is looked at last, and a target before it
last_place : (n : ℕ) (m : Said) (method : Method) (target : TargetParts) (found : Result Query QueryFault)
    → 7 ≤ place (with_query n m method target found).refusal
last_place n m method target (Err fault) = omega arith
last_place n m method target (Ok query) = omega arith

behind_required : (n : ℕ) (m : Said) (method : Method) (found : Option TargetParts) → 6 ≤ place (with_target n m method found).refusal
behind_required n m method None = omega arith
behind_required n m method (Some target) = omega (arith, last_place n m method target (query_read method target.query))

same_kept : (a b : List ℕ) → Some (Require a) ≡ Some (Require b) → Some a ≡ Some b
same_kept a b e = cc

required_by : (n : ℕ) (m : Said) (method : Method) (kept : List ℕ) (found : Option (List ℕ))
    → ((with_required n m method found).refusal ≡ Some (Require kept)) ↔ (found ≡ Some kept)
required_by n m method kept None =
    (λ e. absurd (later _ (Require kept) 6 (behind_required n m method (target_of (is_options_method method) m.target)) (omega arith) e), λ e. absurd (cc))
required_by n m method kept (Some value) = (λ e. same_kept value kept e, λ e. cc)

target_by : (n : ℕ) (m : Said) (method : Method) (found : Option TargetParts)
    → ((with_target n m method found).refusal ≡ Some BadTarget) ↔ (found ≡ None)
target_by n m method None = (λ e. refl, λ e. refl)
target_by n m method (Some target) =
    (λ e. absurd (later _ BadTarget 7 (last_place n m method target (query_read method target.query)) (omega arith) e), λ e. absurd (cc))

query_by : (n : ℕ) (m : Said) (method : Method) (target : TargetParts) (fault : QueryFault) (found : Result Query QueryFault)
    → ((with_query n m method target found).refusal ≡ Some (QueryAt fault)) ↔ (found ≡ Err fault)
query_by n m method target fault (Ok query) = (λ e. absurd (cc), λ e. absurd (cc))
query_by n m method target fault (Err other) = (λ e. cc, λ e. cc)

-- a message that is served is looked at for what it requires
served : (m : Said) (method : Method) (is : IsServed m method) → asked m ≡ with_required is.number m method (required_in m)
unfolding asked
served m method is =
    let numbered : asked_with (cseq_of m) m ≡ with_version is.number m (bytes_eq m.version (codes "RTSP/1.0")) = ap (λ cseq. asked_with cseq m) is.cseq in
    let versed : with_version is.number m (bytes_eq m.version (codes "RTSP/1.0")) ≡ with_method is.number m (method_named m.method) =
    ap (with_version is.number m) is.version in
    let named : with_method is.number m (method_named m.method) ≡ with_required is.number m method (required_in m) = ap (with_method is.number m) is.named in
    cc

-- where the later refusals of a message come
pub record LaterCauses (m : Said) (refusal : Option Refusal) : Type 0 where
  pub require : (method : Method) (kept : List ℕ) → IsServed m method → (refusal ≡ Some (Require kept)) ↔ (required_in m ≡ Some kept)
  pub target : (method : Method) → IsServed m method → required_in m ≡ None
      → (refusal ≡ Some BadTarget) ↔ (target_of (is_options_method method) m.target ≡ None)
  pub query : (method : Method) (target : TargetParts) (fault : QueryFault) → IsServed m method → required_in m ≡ None
      → target_of (is_options_method method) m.target ≡ Some target → (refusal ≡ Some (QueryAt fault)) ↔ (query_read method target.query ≡ Err fault)

refused_as : (r : Request) (refusal : Refusal) (cause : Type 0) (s : Request) → r ≡ s → ((s.refusal ≡ Some refusal) ↔ cause)
    → (r.refusal ≡ Some refusal) ↔ cause
refused_as r refusal cause s e by = subst (λ x. (x.refusal ≡ Some refusal) ↔ cause) (sym e) by

pub later_causes : (m : Said) → LaterCauses m (asked m).refusal
later_causes m = record {
  require = λ method kept is. refused_as (asked m) (Require kept) (required_in m ≡ Some kept) (with_required is.number m method (required_in m))
      (served m method is)
      (required_by is.number m method kept (required_in m));
  target = λ method is none.
      let reached : asked m ≡ with_target is.number m method (target_of (is_options_method method) m.target) =
      cc (served m method is, ap (with_required is.number m method) none) in
      refused_as (asked m) BadTarget (target_of (is_options_method method) m.target ≡ None)
      (with_target is.number m method (target_of (is_options_method method) m.target)) reached
      (target_by is.number m method (target_of (is_options_method method) m.target));
  query = λ method target fault is none named.
      let reached : asked m ≡ with_query is.number m method target (query_read method target.query) =
      cc (served m method is, ap (with_required is.number m method) none, ap (with_target is.number m method) named) in
      refused_as (asked m) (QueryAt fault) (query_read method target.query ≡ Err fault)
      (with_query is.number m method target (query_read method target.query)) reached
      (query_by is.number m method target fault (query_read method target.query));
}

-- where the first refusals of a message come
pub record Causes (m : Said) (refusal : Option Refusal) : Type 0 where
  pub no_cseq : (refusal ≡ Some NoCseq) ↔ (cseq_of m ≡ None)
  pub version : (refusal ≡ Some Version) ↔ (IsSome (cseq_of m) × (bytes_eq m.version (codes "RTSP/1.0") ≡ false))
  pub method : (refusal ≡ Some BadMethod) ↔ (IsSome (cseq_of m) × (bytes_eq m.version (codes "RTSP/1.0") ≡ true) × (method_named m.method ≡ None))
  pub not_broken : refusal ≢ Some Broken
  pub not_too_long : refusal ≢ Some TooLong

no_cseq_by : (m : Said) (cseq : Option ℕ) → ((asked_with cseq m).refusal ≡ Some NoCseq) ↔ (cseq ≡ None)
no_cseq_by m None = (λ e. refl, λ e. refl)
no_cseq_by m (Some n) = (λ e. absurd (later _ NoCseq 3 (version_place n m (bytes_eq m.version (codes "RTSP/1.0"))) (omega arith) e), λ e. absurd (cc))

version_from : (m : Said) (cseq : Option ℕ) → ((asked_with cseq m).refusal ≡ Some Version) ↔ (IsSome cseq × (bytes_eq m.version (codes "RTSP/1.0") ≡ false))
version_from m None = (λ e. absurd (cc), λ e. absurd (let no : false ≡ true = e.0 in cc))
version_from m (Some n) =
    let by : ((with_version n m (bytes_eq m.version (codes "RTSP/1.0"))).refusal ≡ Some Version) ↔ (bytes_eq m.version (codes "RTSP/1.0") ≡ false) =
    version_by n m _ in
    (λ e. (refl, by.0 e), λ e. by.1 e.1)

method_from : (m : Said) (cseq : Option ℕ) → ((asked_with cseq m).refusal ≡ Some BadMethod)
    ↔ (IsSome cseq × (bytes_eq m.version (codes "RTSP/1.0") ≡ true) × (method_named m.method ≡ None))
method_from m None = (λ e. absurd (cc), λ e. absurd (let no : false ≡ true = e.0 in cc))
method_from m (Some n) =
    let by : ((with_version n m (bytes_eq m.version (codes "RTSP/1.0"))).refusal ≡ Some BadMethod)
    ↔ ((bytes_eq m.version (codes "RTSP/1.0") ≡ true) × (method_named m.method ≡ None)) = method_of n m _ in
    (λ e. (refl, (by.0 e).0, (by.0 e).1), λ e. by.1 (e.1, e.2))

pub causes : (m : Said) → Causes m (asked m).refusal
unfolding asked
causes m = record {
  no_cseq = no_cseq_by m (cseq_of m);
  version = version_from m (cseq_of m);
  method = method_from m (cseq_of m);
  not_broken = λ e. later _ Broken 2 (asked_place (cseq_of m) m) (omega arith) e;
  not_too_long = λ e. later _ TooLong 2 (asked_place (cseq_of m) m) (omega arith) e;
}
