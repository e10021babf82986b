-- The channels that a request of a tunnel's connection asks for, and the text that is kept of it.
use Rattle.std.proofs.Common.{◌≡◌, ◌≢◌, ℕ, ◌+◌, ◌≤◌, ◌==◌, ◌&&◌, nat_le, Bool, true, false, List, [], ◌∷◌, ◌++◌, drop, find, map, arith, if◌then◌else◌, Option, Some, None, refl, sym, ◌∙◌, subst, ⊎_elim}
use Rattle.std.specs.Prelude.{option_map, option_and_then}
use Rattle.std.specs.List.{after_first, before_first, list_any, slice_split}
use Rattle.std.specs.Str.Parse.{digits_value}
use Rattle.std.proofs.lemmas.Bool.Decides.{nat_tests}
use Rattle.satip_base.specs.declared.network.Ports.{Ports}
use Rattle.satip_base.specs.Lists.{Each, Has}
use Rattle.satip_base.specs.Numbers.{are_digits, number_of}
use Rattle.satip_base.proofs.Elements.{each_has}
use Rattle.satip_frame.specs.declared.framing.Break.{Break}
use Rattle.satip_frame.specs.declared.framing.Break.TheVariants.{Bad, TooLong}
use Rattle.satip_frame.specs.Said.{Said}
use Rattle.satip_frame.specs.Stream.{Tail, Unfinished, Broken}
use Rattle.satip_interleave.specs.Lanes.{is_channel_port}
use Rattle.satip_rtsp.specs.declared.requests.Method.{Method}
use Rattle.satip_rtsp.specs.declared.requests.Method.TheVariants.{Setup}
use Rattle.satip_rtsp.specs.declared.requests.Request.{Request}
use Rattle.satip_rtsp.specs.Asked.{asked, broken_request}
use Rattle.satip_rtsp.specs.Blanks.{text_trimmed}
use Rattle.satip_rtsp.specs.Transports.{first_of, parameters}
use Rattle.satip_rtsp_interleaved.specs.Channels.{both_channels, channels_beginning, channels_by, channels_first, channels_text, interleaved_by, is_channel_text, is_tcp_text}
use Rattle.satip_rtsp_interleaved.specs.Requests.{asked_by_tunnel, channels_asked}
use Rattle.satip_tune.specs.Pieces.{is_byte}
use Rattle.satip_tunnel.specs.Requests.{AsksInParts}
use Rattle.satip_tunnel_laws.specs.Answered.{KeepsPlain}
use Rattle.satip_tunnel_serve.specs.RunReplies.{RequestsArePlain}
use Rattle.satip_tunnel_laws.proofs.KeptPlain.{HasPlainValues, message_keeps, parts_plain}
use Rattle.satip_tunnel_laws.proofs.Owning.{other_numbers}
use Rattle.satip_worker.specs.Requests.{asked_by_tail}

-- two channels, the first of which is one of a lane
pub record AreChannels (ports : Ports) : Type 0 where
  pub channel : is_channel_port ports.rtp ≡ true
  pub two : ports.rtcp ≢ ports.rtp

-- the request asks for channels or for none, and keeps no CR and no LF
pub record IsParsed (request : Request) : Type 0 where
  pub channels : (ports : Ports) → request.ports ≡ Some ports → AreChannels ports
  pub plain : KeepsPlain request.refusal

is_some : {A : Type 0} (x y : A) → Some x ≡ Some y → x ≡ y
is_some x y e = cc e

no_some : {A : Type 0} (x : A) → None ≡ Some x → ⊥
no_some x e = cc e

number_small : (max : ℕ) (bytes : List ℕ) (n : ℕ) → number_of max bytes ≡ Some n → n ≤ max
unfolding number_of
number_small max bytes n is = by (are_digits 20 bytes) (nat_le (digits_value 10 bytes) max) refl is
  where
    by : (a b : Bool) → nat_le (digits_value 10 bytes) max ≡ b → (if a && b then Some (digits_value 10 bytes) else None) ≡ Some n → n ≤ max
    by true true le e =
        let same : digits_value 10 bytes ≡ n = is_some (digits_value 10 bytes) n e in
        subst (λ (k : ℕ). k ≤ max) same (grind (arith, nat_tests))
    by true false le e = absurd (no_some n e)
    by false b le e = absurd (no_some n e)

channel_port : (a : ℕ) → a ≤ 255 → is_channel_port (a + 1) ≡ true
channel_port a small = grind (arith, nat_tests)

both_are : (a b : Option ℕ) (p : Ports) → ((n : ℕ) → a ≡ Some n → n ≤ 255) → both_channels a b ≡ Some p → AreChannels p
both_are None b p small e = absurd (no_some p e)
both_are (Some x) None p small e = absurd (no_some p e)
both_are (Some x) (Some y) p small e = by (x == y) refl e
  where
    by : (t : Bool) → (x == y) ≡ t → (if t then None else Some (record { rtp = x + 1; rtcp = y + 1 })) ≡ Some p → AreChannels p
    by true is f = absurd (no_some p f)
    by false is f =
        subst AreChannels (is_some (record { rtp = x + 1; rtcp = y + 1 }) p f) (record {
          channel = channel_port x (small x refl);
          two = λ same. other_numbers x y is (omega (arith, same));
        })

beginning_are : (a : Option ℕ) (p : Ports) → ((n : ℕ) → a ≡ Some n → n ≤ 254)
    → option_map (λ c. record { rtp = c + 1; rtcp = c + 2 }) a ≡ Some p → AreChannels p
beginning_are None p small e = absurd (no_some p e)
beginning_are (Some x) p small e =
    let le = small x refl in
    subst AreChannels (is_some (record { rtp = x + 1; rtcp = x + 2 }) p e) (record {
      channel = channel_port x (omega (arith, le));
      two = λ same. omega (arith, same);
    })

text_are : (text : List ℕ) (p : Ports) → channels_text text ≡ Some p → AreChannels p
unfolding channels_text
text_are text p e = by (list_any (is_byte 45) text) e
  where
    by : (t : Bool) → (if t then both_channels (number_of 255 (before_first (is_byte 45) text)) (number_of 255 (after_first (is_byte 45) text))
        else channels_beginning text) ≡ Some p → AreChannels p
    by true f =
        both_are (number_of 255 (before_first (is_byte 45) text)) (number_of 255 (after_first (is_byte 45) text)) p
        (λ n is. number_small 255 (before_first (is_byte 45) text) n is) f
    by false f = beginning_are (number_of 254 text) p (λ n is. number_small 254 text n is) f

first_are : (found : Option (List ℕ)) (p : Ports) → option_and_then (λ parameter. channels_text (drop 12 (text_trimmed parameter))) found ≡ Some p
    → AreChannels p
first_are None p e = absurd (no_some p e)
first_are (Some parameter) p e = text_are (drop 12 (text_trimmed parameter)) p e

by_are : (transport : List ℕ) (p : Ports) → channels_by transport ≡ Some p → AreChannels p
unfolding channels_by
by_are transport p e = by (is_tcp_text (before_first (is_byte 59) transport)) e
  where
    by : (t : Bool) → (if t then channels_first (parameters transport) else None) ≡ Some p → AreChannels p
    by true f = first_are (find is_channel_text (parameters transport)) p f
    by false f = absurd (no_some p f)

all_are : (transports : List (List ℕ)) (p : Ports) → first_of (map channels_by transports) ≡ Some p → AreChannels p
all_are [] p e = absurd (no_some p e)
all_are (t ∷ ts) p e = by (channels_by t) refl (λ later. all_are ts p later) e
  where
    by : (o : Option Ports) → channels_by t ≡ o → (first_of (map channels_by ts) ≡ Some p → AreChannels p) → first_of (o ∷ map channels_by ts) ≡ Some p
        → AreChannels p
    by None is rest f = rest f
    by (Some q) is rest f = by_are t p (is ∙ f)

interleaved_are : (value : List ℕ) (p : Ports) → interleaved_by value ≡ Some p → AreChannels p
unfolding interleaved_by
interleaved_are value p e = all_are (slice_split (is_byte 44) value) p e

asked_are : (method : Method) (value : Option (List ℕ)) (p : Ports) → channels_asked method value ≡ Some p → AreChannels p
asked_are Setup None p e = absurd (no_some p e)
asked_are Setup (Some value) p e = interleaved_are value p e
asked_are _ value p e = absurd (no_some p e)

message_parsed : (m : Said) → HasPlainValues m → IsParsed (asked_by_tunnel m)
message_parsed m plain = record { channels = λ p e. asked_are (asked m).method _ p e; plain = message_keeps m plain }

broken_parsed : (cause : Break) → IsParsed (broken_request cause)
broken_parsed Bad = record { channels = λ p e. absurd (no_some p e); plain = tt }
broken_parsed TooLong = record { channels = λ p e. absurd (no_some p e); plain = tt }

messages_parsed : (ms : List Said) (tail : Tail) (r : Request) → Each HasPlainValues ms → Has r (map asked_by_tunnel ms ++ asked_by_tail tail) → IsParsed r
messages_parsed [] Unfinished r plain has = absurd has
messages_parsed [] (Broken cause) r plain has =
    ⊎_elim (λ same. subst IsParsed (sym same) (broken_parsed cause)) (λ none. absurd none) has
messages_parsed (m ∷ ms) tail r plain has =
    ⊎_elim (λ same. subst IsParsed (sym same) (message_parsed m plain.0)) (λ later. messages_parsed ms tail r plain.1 later) has

pub all_parsed : (text : List ℕ) (all : List Request) (r : Request) → AsksInParts text all → Has r all → IsParsed r
all_parsed text all r asks has =
    messages_parsed asks.messages asks.tail r (parts_plain text asks.messages asks.tail asks.read)
    (subst (λ (rs : List Request). Has r rs) asks.requests has)

pub requests_are_plain : RequestsArePlain
requests_are_plain text all asks = each_has (λ (r : Request). KeepsPlain r.refusal) all (λ r has. (all_parsed text all r asks has).plain)
