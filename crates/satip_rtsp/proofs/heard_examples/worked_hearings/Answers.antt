use Rattle.std.proofs.Common.{◌≡◌, List, [], ◌∷◌, ◌++◌, map, refl, sym, subst, ap}
use Rattle.satip_base.specs.Numbers.{number_of}
use Rattle.satip_frame.specs.declared.framing.Break.TheVariants.{Bad, TooLong}
use Rattle.satip_frame.specs.Said.{Said}
use Rattle.satip_frame.specs.Stream.{Tail, Unfinished, Broken, Messages}
use Rattle.satip_frame.proofs.StreamLemmas.{begins_and_ends, one_list}
use Rattle.satip_rtsp.specs.declared.requests.Request.{Request}
use Rattle.satip_rtsp.specs.Asked.{asked, broken_request, cseq_of, method_named}
use Rattle.satip_rtsp.specs.Targets.{target_of}
use Rattle.satip_frame.specs.Asking.{asked_by_tail}
use Rattle.satip_rtsp.specs.HeardExamples.{whole, begun, bad, options_1}
use Rattle.satip_rtsp.proofs.HeardLemmas.{with_number, nothing_ends, begun_ends, whole_begins, bad_ends, too_long_ends}
use Rattle.satip_frame.proofs.TextLemmas.{nothing_asked}
use Rattle.satip_rtsp.proofs.heard_examples.worked_hearings.Goals as goal

-- what OPTIONS with the number 1 asks
asks_1 : asked with_number ≡ options_1
unfolding asked cseq_of method_named target_of number_of
asks_1 = refl

asks_one : options_1 ∷ [] ≡ map asked (with_number ∷ [])
asks_one = ap (λ (r : Request). r ∷ []) (sym asks_1)

-- a whole message isn't left
still_asked : (ms : List Said) → [] ≡ map asked ms → Messages whole ms Unfinished → ⊥
still_asked [] none read = begins_and_ends Unfinished (whole_begins []) read
still_asked (m ∷ ms) none read = cc none

-- a broken text asks nothing behind that
none_behind : (ms : List Said) (tail : Tail) → Messages (bad ++ whole) ms tail
    → broken_request Bad ∷ options_1 ∷ [] ≡ map asked ms ++ asked_by_tail broken_request tail → ⊥
none_behind ms tail read all =
    let same = one_list (bad ++ whole) ms [] tail (Broken Bad) read (bad_ends whole) in
    let P : List Said → Tail → Type 0 = λ ns t. broken_request Bad ∷ options_1 ∷ [] ≡ map asked ns ++ asked_by_tail broken_request t in
    let one : broken_request Bad ∷ options_1 ∷ [] ≡ broken_request Bad ∷ [] =
    subst (λ (t : Tail). P [] t) same.1 (subst (λ (ns : List Said). P ns tail) same.0 all) in
    cc one

pub returns-clause-nothing : goal.returns-clause-nothing
returns-clause-nothing c = nothing_asked asked

pub returns-clause-begun : goal.returns-clause-begun
returns-clause-begun c = record { first = record { messages = []; leads = refl; requests_are = refl }; read = begun_ends }

pub returns-clause-once : goal.returns-clause-once
returns-clause-once c = record {
  first = record { messages = with_number ∷ []; leads = ([], whole_begins [], refl); requests_are = asks_one };
  read = ([], whole_begins [], nothing_ends);
}

pub returns-clause-once_and_begun : goal.returns-clause-once_and_begun
returns-clause-once_and_begun c = record {
  first = record { messages = with_number ∷ []; leads = (begun, whole_begins begun, refl); requests_are = asks_one };
  read = (begun, whole_begins begun, begun_ends);
}

pub returns-clause-not_left : goal.returns-clause-not_left
returns-clause-not_left c = λ heard. still_asked heard.first.messages heard.first.requests_are heard.read

pub returns-clause-bad : goal.returns-clause-bad
returns-clause-bad c = record { messages = []; tail = Broken Bad; read = bad_ends whole; requests = refl }

pub returns-clause-too_long : goal.returns-clause-too_long
returns-clause-too_long c = record { messages = []; tail = Broken TooLong; read = too_long_ends whole; requests = refl }

pub returns-clause-whole_and_bad : goal.returns-clause-whole_and_bad
returns-clause-whole_and_bad c = record {
  messages = with_number ∷ [];
  tail = Broken Bad;
  read = (bad, whole_begins bad, bad_ends []);
  requests = ap (λ (r : Request). r ∷ broken_request Bad ∷ []) (sym asks_1);
}

pub returns-clause-not_behind : goal.returns-clause-not_behind
returns-clause-not_behind c = λ asks. none_behind asks.messages asks.tail asks.read asks.requests

pub returns-clause-first_piece : goal.returns-clause-first_piece
returns-clause-first_piece c = (
  record { first = record { messages = []; leads = refl; requests_are = refl }; read = begun_ends },
  refl,
)

pub returns-clause-second_piece : goal.returns-clause-second_piece
returns-clause-second_piece c = record {
  message = with_number;
  request_is = sym asks_1;
  first = record { messages = with_number ∷ []; leads = ([], whole_begins [], refl); requests_are = asks_one };
}

pub returns-clause-last : goal.returns-clause-last
returns-clause-last c = record {
  messages = with_number ∷ [];
  cause = Bad;
  read = (bad, whole_begins bad, bad_ends []);
  before_are = asks_one;
  request_is = refl;
}
