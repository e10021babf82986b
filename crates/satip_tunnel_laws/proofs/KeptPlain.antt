-- A header value of a good head has no CR and no LF, so a request keeps none.
use Rattle.std.proofs.Common.{◌≡◌, ℕ, Bool, true, false, cond, List, [], ◌∷◌, map, All, find, Option, Some, None, Result, Ok, Err, IsTrue, arith, refl, sym, subst}
use Rattle.std.specs.Prelude.{codes, option_map}
use Rattle.std.specs.Str.{bytes_eq}
use Rattle.std.proofs.lemmas.Bool.Decides.{nat_tests}
use Rattle.std.proofs.lemmas.List.Elements.{All-head, All-tail}
use Rattle.httparse.specs.Grammar.{AllPass, Field, IsField, field_value, is_value_byte}
use Rattle.httparse.specs.Spans.{name_and_value}
use Rattle.httparse.proofs.TrimLemmas.{AllPass-trim_ows}
use Rattle.satip_base.specs.Lists.{Each}
use Rattle.satip_frame.specs.Head.{ReadsHead}
use Rattle.satip_frame.specs.Said.{Said, first_value, is_named}
use Rattle.satip_frame.specs.Stream.{Tail}
use Rattle.satip_query.specs.declared.faults.QueryFault.{QueryFault}
use Rattle.satip_query.specs.declared.queries.Query.{Query}
use Rattle.satip_rtsp.specs.declared.requests.Method.{Method}
use Rattle.satip_rtsp.specs.Asked.{asked, asked_with, cseq_of, is_options_method, method_named, query_read, requirement, with_method, with_query, with_required, with_target, with_version}
use Rattle.satip_rtsp.specs.Targets.{TargetParts, target_of}
use Rattle.satip_rtsp_interleaved.specs.Parts.{Parts}
use Rattle.satip_tunnel_laws.specs.Answered.{KeepsPlain}
use Rattle.satip_tunnel_laws.specs.Pieces.{is_plain}
use Rattle.satip_tunnel_laws.proofs.Plain.{IsPlain, plain-cons, plain_take}

-- the values of a head

abbrev pub HasPlainValues : Said → Type 0
HasPlainValues m = Each (λ (h : List ℕ × List ℕ). IsPlain h.1) m.headers

value_plain : (b : ℕ) → IsTrue (is_value_byte b) → is_plain b ≡ true
value_plain b is = grind (arith, nat_tests)

values_plain : (bytes : List ℕ) → AllPass is_value_byte bytes → IsPlain bytes
values_plain [] pass = refl
values_plain (b ∷ bs) pass =
    plain-cons b bs (value_plain b (All-head (λ c. IsTrue (is_value_byte c)) b bs pass))
    (values_plain bs (All-tail (λ c. IsTrue (is_value_byte c)) b bs pass))

fields_plain : (fs : List Field) → All IsField fs → Each (λ (h : List ℕ × List ℕ). IsPlain h.1) (map name_and_value fs)
fields_plain [] are = tt
fields_plain (f ∷ fs) are = (
  values_plain (field_value f) (AllPass-trim_ows is_value_byte f.raw (All-head IsField f fs are).raw),
  fields_plain fs (All-tail IsField f fs are),
)

head_plain : (head : List ℕ) (m : Said) → ReadsHead head m → HasPlainValues m
head_plain head m reads = subst (Each (λ (h : List ℕ × List ℕ). IsPlain h.1)) (sym reads.headers) (fields_plain reads.fields reads.section.0)

pub parts_plain : (text : List ℕ) (ms : List Said) (tail : Tail) → Parts text ms tail → Each HasPlainValues ms
parts_plain text [] tail parts = tt
parts_plain text (m ∷ ms) tail parts = (head_plain _ m parts.1.has_head.good.reads, parts_plain parts.0 ms tail parts.2)

-- the value of one header

abbrev IsPlainIfSome : Option (List ℕ) → Type 0
IsPlainIfSome None = Unit {0}
IsPlainIfSome (Some value) = IsPlain value

first_plain : (name : List ℕ) (headers : List (List ℕ × List ℕ)) → Each (λ (h : List ℕ × List ℕ). IsPlain h.1) headers
    → IsPlainIfSome (first_value name headers)
first_plain name [] plain = tt
first_plain name (h ∷ hs) plain = by (is_named name h) (first_plain name hs plain.1)
  where
    by : (b : Bool) → IsPlainIfSome (first_value name hs)
        → IsPlainIfSome (option_map (λ (x : List ℕ × List ℕ). x.1) (cond b (Some h) (find (is_named name) hs)))
    by true rest = plain.0
    by false rest = rest

required_plain : (value : Option (List ℕ)) → IsPlainIfSome value → IsPlainIfSome (requirement value)
required_plain None plain = tt
required_plain (Some []) plain = tt
required_plain (Some (b ∷ bs)) plain = plain_take 128 (b ∷ bs) plain

-- the request of a message

query_keeps : (n : ℕ) (m : Said) (method : Method) (target : TargetParts) (query : Result Query QueryFault) → KeepsPlain (with_query n m method target query).refusal
query_keeps n m method target (Err fault) = tt
query_keeps n m method target (Ok query) = tt

target_keeps : (n : ℕ) (m : Said) (method : Method) (target : Option TargetParts) → KeepsPlain (with_target n m method target).refusal
target_keeps n m method None = tt
target_keeps n m method (Some target) = query_keeps n m method target (query_read method target.query)

required_keeps : (n : ℕ) (m : Said) (method : Method) (required : Option (List ℕ)) → IsPlainIfSome required
    → KeepsPlain (with_required n m method required).refusal
required_keeps n m method None plain = target_keeps n m method (target_of (is_options_method method) m.target)
required_keeps n m method (Some kept) plain = plain

method_keeps : (n : ℕ) (m : Said) (method : Option Method) → HasPlainValues m → KeepsPlain (with_method n m method).refusal
method_keeps n m None plain = tt
method_keeps n m (Some method) plain =
    let value : Option (List ℕ) = first_value (codes "Require") m.headers in
    required_keeps n m method (requirement value) (required_plain value (first_plain (codes "Require") m.headers plain))

version_keeps : (n : ℕ) (m : Said) (served : Bool) → HasPlainValues m → KeepsPlain (with_version n m served).refusal
version_keeps n m false plain = tt
version_keeps n m true plain = method_keeps n m (method_named m.method) plain

number_keeps : (m : Said) (number : Option ℕ) → HasPlainValues m → KeepsPlain (asked_with number m).refusal
number_keeps m None plain = tt
number_keeps m (Some n) plain = version_keeps n m (bytes_eq m.version (codes "RTSP/1.0")) plain

pub message_keeps : (m : Said) → HasPlainValues m → KeepsPlain (asked m).refusal
unfolding asked
message_keeps m plain = number_keeps m (cseq_of m) plain
