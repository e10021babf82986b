-- How long records and lines are at most.
use Rattle.std.proofs.Common.{◌≡◌, ℕ, zero, suc, ◌+◌, ◌*◌, ◌≤◌, ◌<◌, ◌^◌, Bool, true, false, List, [], ◌∷◌, ◌++◌, length, length-append, append_assoc, take, flat_map, decimal, codes, Option, Some, None, arith, refl, sym, ◌∙◌, ap, subst}
use Rattle.std.specs.Prelude.{IfSome}
use Rattle.std.proofs.lemmas.List.Concat.{length-flat_map}
use Rattle.hex.specs.Hex.{lower_digits, encode_lower}
use Rattle.hex.proofs.HexLemmas.{length-encode_with}
use Rattle.satip_base.specs.Output.{Datagram, Output, IsWithinRoom}
use Rattle.satip_base.specs.declared.network.Ports.{Ports}
use Rattle.satip_base.proofs.NumberLemmas.{length-decimal_u64}
use Rattle.satip_pids.specs.Pids.{IsPidList}
use Rattle.satip_tune.specs.declared.signal.Pol.{Pol}
use Rattle.satip_tune.specs.declared.signal.Pol.TheVariants.{H, V, L, R}
use Rattle.satip_tune.specs.declared.signal.RollOff.{RollOff}
use Rattle.satip_tune.specs.declared.signal.RollOff.TheVariants.{R35, R25, R20}
use Rattle.satip_tune.specs.declared.signal.System.{System}
use Rattle.satip_tune.specs.declared.signal.System.TheVariants.{Dvbs, Dvbs2}
use Rattle.satip_tune.specs.declared.signal.Modulation.{Modulation}
use Rattle.satip_tune.specs.declared.signal.Modulation.TheVariants.{Qpsk, Psk8}
use Rattle.satip_tune.specs.declared.signal.Fec.{Fec}
use Rattle.satip_tune.specs.declared.signal.Fec.TheVariants.{F12, F23, F34, F56, F78, F89, F35, F45, F910}
use Rattle.satip_tune.specs.declared.keys.Key.{Key}
use Rattle.satip_tune.specs.declared.keys.Key.TheVariants.{Fe, Src, Freq, Pol as PolKey, Ro, Msys, Mtype, Plts, Sr, Fec as FecKey, Pids, Addpids, Delpids}
use Rattle.satip_tune.specs.declared.tunings.Change.{Change}
use Rattle.satip_query.specs.declared.queries.Query.{Query}
use Rattle.satip_query.specs.declared.queries.PidsGiven.{PidsGiven}
use Rattle.satip_query.specs.declared.queries.PidsGiven.TheVariants.{Absent as NoPids, All as AllPids, Empty as EmptyPids, List as ThesePids}
use Rattle.satip_query.specs.declared.faults.QueryFault.{QueryFault}
use Rattle.satip_query.specs.declared.faults.QueryFault.TheVariants.{Syntax, Range}
use Rattle.satip_rtsp.specs.declared.requests.Method.{Method}
use Rattle.satip_rtsp.specs.declared.requests.Method.TheVariants.{Options, Describe, Setup, Play, Teardown}
use Rattle.satip_rtsp.specs.declared.requests.Refusal.{Refusal}
use Rattle.satip_rtsp.specs.declared.requests.Refusal.TheVariants.{Broken, TooLong, NoCseq, Version, Method as NoMethod, Require, Target, Query as AtQuery}
use Rattle.satip_rtsp.specs.declared.requests.SessionName.{SessionName}
use Rattle.satip_rtsp.specs.declared.requests.SessionName.TheVariants.{Absent, Named, Other}
use Rattle.satip_rtsp.specs.declared.requests.Request.{Request}
use Rattle.satip_http.specs.declared.requests.HttpRefusal.{HttpRefusal}
use Rattle.satip_http.specs.declared.requests.HttpRefusal.TheVariants.{Broken as HttpBroken, TooLong as HttpTooLong, Version as HttpVersion, Method as HttpMethod, Target as HttpTarget, NotFound, Query as HttpQuery}
use Rattle.satip_http.specs.declared.requests.HttpRequest.{HttpRequest}
use Rattle.satip_plain.specs.Values.{IsQuery, IsRefusal, IsRequest, IsEvent, ArePidsGiven}
use Rattle.satip_plain.specs.declared.events.Event.{Event}
use Rattle.satip_plain.specs.declared.events.Event.TheVariants.{Request as Asked, Get as Got, Tick, Packet, Ended, Ask, Pull, Close, Stop}
use Rattle.satip_plain.specs.declared.answers.Answer.{Answer}
use Rattle.satip_plain.specs.declared.answers.Answer.TheVariants.{Replied as RepliedIs, Get as GetIs, Beat as BeatIs, Work as WorkIs, Pulled as PulledIs, Closed as ClosedIs}
use Rattle.satip_plain.specs.declared.answers.GetAnswer.TheVariants.{Started, Refused}
use Rattle.satip_plain.specs.declared.answers.Beat.TheVariants.{Going, Stopping as BeatStopping}
use Rattle.satip_plain.specs.declared.answers.Work.TheVariants.{Tune, Nothing, Stopping}
use Rattle.satip_plain.specs.declared.answers.Pulled.TheVariants.{Bytes, Empty, Gone as PulledGone}
use Rattle.satip_plain.specs.declared.answers.Closed.TheVariants.{Yes, Gone}
use Rattle.satip_entry_writer.specs.Fields.{u8_text, u16_text, u32_text, bool_text, option_text, pid_list_text, ports_text, pol_text, roll_off_text, system_text, modulation_text, fec_text, key_text}
use Rattle.satip_entry_writer.specs.Requests.{change_text, pids_text, query_text, fault_text, method_text, refusal_text, name_text, request_text, http_refusal_text, http_request_text}
use Rattle.satip_entry_writer.specs.Records.{event_text, datagram_text, answer_text, record_text}
use Rattle.satip_entry_writer.specs.Lines.{entry_line}
use Rattle.satip_entry_writer.specs.Sheets.{Sheet, WroteText, WroteHex}
use Rattle.satip_entry_writer.proofs.Writing.{length-u8, length-u16, length-u32, length-u64}
use Rattle.satip_entry_writer.proofs.Lists.{length-pids}

-- ---- small parts

pub option_bound : {T : Type 0} (text : T → List ℕ) (most : ℕ) (value : Option T) → IfSome value (λ x. length (text x) ≤ most)
    → length (option_text text value) ≤ 1 + most
option_bound text most None h = omega (arith, length-u8 0)
option_bound text most (Some x) h = omega (arith, length-append (u8_text 1) (text x), length-u8 1, h)

-- where each value's text is short
any_option : {T : Type 0} (text : T → List ℕ) (most : ℕ) (value : Option T) → ((x : T) → length (text x) ≤ most)
    → length (option_text text value) ≤ 1 + most
any_option text most None h = omega (arith, length-u8 0)
any_option text most (Some x) h = omega (arith, length-append (u8_text 1) (text x), length-u8 1, h x)

bool_bound : (b : Bool) → length (bool_text b) ≤ 1
bool_bound true = omega (arith, length-u8 1)
bool_bound false = omega (arith, length-u8 0)

pol_bound : (x : Pol) → length (pol_text x) ≤ 1
pol_bound H = omega (arith, length-u8)
pol_bound V = omega (arith, length-u8)
pol_bound L = omega (arith, length-u8)
pol_bound R = omega (arith, length-u8)

roll_off_bound : (x : RollOff) → length (roll_off_text x) ≤ 1
roll_off_bound R35 = omega (arith, length-u8)
roll_off_bound R25 = omega (arith, length-u8)
roll_off_bound R20 = omega (arith, length-u8)

system_bound : (x : System) → length (system_text x) ≤ 1
system_bound Dvbs = omega (arith, length-u8)
system_bound Dvbs2 = omega (arith, length-u8)

modulation_bound : (x : Modulation) → length (modulation_text x) ≤ 1
modulation_bound Qpsk = omega (arith, length-u8)
modulation_bound Psk8 = omega (arith, length-u8)

fec_bound : (x : Fec) → length (fec_text x) ≤ 1
fec_bound F12 = omega (arith, length-u8)
fec_bound F23 = omega (arith, length-u8)
fec_bound F34 = omega (arith, length-u8)
fec_bound F56 = omega (arith, length-u8)
fec_bound F78 = omega (arith, length-u8)
fec_bound F89 = omega (arith, length-u8)
fec_bound F35 = omega (arith, length-u8)
fec_bound F45 = omega (arith, length-u8)
fec_bound F910 = omega (arith, length-u8)

u8_bound : (n : ℕ) → length (u8_text n) ≤ 1
u8_bound n = omega (arith, length-u8)

u16_bound : (n : ℕ) → length (u16_text n) ≤ 2
u16_bound n = omega (arith, length-u16)

u32_bound : (n : ℕ) → length (u32_text n) ≤ 4
u32_bound n = omega (arith, length-u32)

ports_bound : (x : Ports) → length (ports_text x) ≤ 4
ports_bound x = omega (arith, length-append {A = ℕ}, length-u16)

key_bound : (x : Key) → length (key_text x) ≤ 1
key_bound Fe = omega (arith, length-u8)
key_bound Src = omega (arith, length-u8)
key_bound Freq = omega (arith, length-u8)
key_bound PolKey = omega (arith, length-u8)
key_bound Ro = omega (arith, length-u8)
key_bound Msys = omega (arith, length-u8)
key_bound Mtype = omega (arith, length-u8)
key_bound Plts = omega (arith, length-u8)
key_bound Sr = omega (arith, length-u8)
key_bound FecKey = omega (arith, length-u8)
key_bound Pids = omega (arith, length-u8)
key_bound Addpids = omega (arith, length-u8)
key_bound Delpids = omega (arith, length-u8)

name_bound : (x : SessionName) → length (name_text x) ≤ 9
unfolding name_text
name_bound Absent = omega (arith, length-u8)
name_bound (Named id) = omega (arith, length-append {A = ℕ}, length-u8, length-u32)
name_bound Other = omega (arith, length-u8)

-- ---- requests

change_bound : (c : Change) → length (change_text c) ≤ 27
unfolding change_text
change_bound c =
    omega (
      arith,
      length-append {A = ℕ},
      any_option u16_text 2 c.fe u16_bound,
      any_option u8_text 1 c.src u8_bound,
      any_option u32_text 4 c.freq u32_bound,
      any_option pol_text 1 c.pol pol_bound,
      any_option roll_off_text 1 c.ro roll_off_bound,
      any_option system_text 1 c.msys system_bound,
      any_option modulation_text 1 c.mtype modulation_bound,
      any_option bool_text 1 c.plts bool_bound,
      any_option u32_text 4 c.sr u32_bound,
      any_option fec_text 1 c.fec fec_bound,
    )

pid_list_bound : (pids : List ℕ) → IsPidList pids → length (pid_list_text pids) ≤ 1026
pid_list_bound pids h =
    omega (arith, length-append (u16_text (length pids)) (flat_map u16_text pids), length-u16 (length pids), length-pids pids, h.few)

lists_bound : (value : Option (List ℕ)) → IfSome value IsPidList → length (option_text pid_list_text value) ≤ 1027
lists_bound None h = omega (arith, length-u8 0)
lists_bound (Some pids) h = omega (arith, length-append (u8_text 1) (pid_list_text pids), length-u8 1, pid_list_bound pids h)

pids_bound : (x : PidsGiven) → ArePidsGiven x → length (pids_text x) ≤ 1027
unfolding pids_text
pids_bound NoPids h = omega (arith, length-u8 0)
pids_bound AllPids h = omega (arith, length-u8 1)
pids_bound EmptyPids h = omega (arith, length-u8 2)
pids_bound (ThesePids pids) h = omega (arith, length-append (u8_text 3) (pid_list_text pids), length-u8 3, pid_list_bound pids h)

query_bound : (q : Query) → IsQuery q → length (query_text q) ≤ 3108
unfolding query_text
query_bound q h =
    omega (arith, length-append {A = ℕ}, change_bound q.change, pids_bound q.pids h.pids, lists_bound q.addpids h.addpids, lists_bound q.delpids h.delpids)

fault_bound : (x : QueryFault) → length (fault_text x) ≤ 2
fault_bound (Syntax key) = omega (arith, length-append {A = ℕ}, length-u8, key_bound key)
fault_bound (Range key) = omega (arith, length-append {A = ℕ}, length-u8, key_bound key)

method_bound : (x : Method) → length (method_text x) ≤ 1
method_bound Options = omega (arith, length-u8)
method_bound Describe = omega (arith, length-u8)
method_bound Setup = omega (arith, length-u8)
method_bound Play = omega (arith, length-u8)
method_bound Teardown = omega (arith, length-u8)

refusal_bound : (x : Refusal) → IsRefusal x → length (refusal_text x) ≤ 131
unfolding refusal_text
refusal_bound Broken h = omega (arith, length-u8)
refusal_bound TooLong h = omega (arith, length-u8)
refusal_bound NoCseq h = omega (arith, length-u8)
refusal_bound Version h = omega (arith, length-u8)
refusal_bound NoMethod h = omega (arith, length-u8)
refusal_bound (Require kept) h = omega (arith, length-append {A = ℕ}, length-u8, length-u16, h.few)
refusal_bound Target h = omega (arith, length-u8)
refusal_bound (AtQuery fault) h = omega (arith, length-append {A = ℕ}, length-u8, fault_bound fault)

refusals_bound : (value : Option Refusal) → IfSome value IsRefusal → length (option_text refusal_text value) ≤ 132
refusals_bound None h = omega (arith, length-u8 0)
refusals_bound (Some x) h = omega (arith, length-append (u8_text 1) (refusal_text x), length-u8 1, refusal_bound x h)

request_bound : (r : Request) → IsRequest r → length (request_text r) ≤ 3263
unfolding request_text
request_bound r h =
    omega (
      arith,
      length-append {A = ℕ},
      any_option u32_text 4 r.cseq u32_bound,
      refusals_bound r.refusal h.refusal,
      method_bound r.method,
      any_option u16_text 2 r.stream u16_bound,
      name_bound r.session,
      query_bound r.query h.query,
      any_option ports_text 4 r.ports ports_bound,
    )

http_refusal_bound : (x : HttpRefusal) → length (http_refusal_text x) ≤ 3
unfolding http_refusal_text
http_refusal_bound HttpBroken = omega (arith, length-u8)
http_refusal_bound HttpTooLong = omega (arith, length-u8)
http_refusal_bound HttpVersion = omega (arith, length-u8)
http_refusal_bound HttpMethod = omega (arith, length-u8)
http_refusal_bound HttpTarget = omega (arith, length-u8)
http_refusal_bound NotFound = omega (arith, length-u8)
http_refusal_bound (HttpQuery fault) = omega (arith, length-append {A = ℕ}, length-u8, fault_bound fault)

http_request_bound : (r : HttpRequest) → IsQuery r.query → length (http_request_text r) ≤ 3112
unfolding http_request_text
http_request_bound r h =
    omega (arith, length-append {A = ℕ}, any_option http_refusal_text 3 r.refusal http_refusal_bound, query_bound r.query h)

-- ---- records

pub event_bound : (e : Event) → IsEvent e → length (event_text e) ≤ 3278
unfolding event_text
event_bound (Asked peer draw r) h = omega (arith, length-append {A = ℕ}, length-u8, length-u16, length-u32, request_bound r h.2)
event_bound (Got peer draw r) h = omega (arith, length-append {A = ℕ}, length-u8, length-u16, length-u32, http_request_bound r h.2)
event_bound (Tick now) h = omega (arith, length-append {A = ℕ}, length-u8, length-u64)
event_bound (Packet front tune packet) h = omega (arith, length-append {A = ℕ}, length-u8, length-u16, length-u64, h.2.packet_is.whole)
event_bound (Ended front tune) h = omega (arith, length-append {A = ℕ}, length-u8, length-u16, length-u64)
event_bound (Ask front) h = omega (arith, length-append {A = ℕ}, length-u8, length-u16)
event_bound (Pull id) h = omega (arith, length-append {A = ℕ}, length-u8, length-u32)
event_bound (Close id) h = omega (arith, length-append {A = ℕ}, length-u8, length-u32)
event_bound Stop h = omega (arith, length-u8)

pub answer_bound : (a : Answer) → length (answer_text a) ≤ 12
unfolding answer_text
answer_bound (RepliedIs r) = omega (arith, length-append {A = ℕ}, length-u8, length-u16, bool_bound r.closing)
answer_bound (GetIs (Started id)) = omega (arith, length-append {A = ℕ}, length-u8, length-u32)
answer_bound (GetIs (Refused status)) = omega (arith, length-append {A = ℕ}, length-u8, length-u16)
answer_bound (BeatIs Going) = omega (arith, length-append {A = ℕ}, length-u8)
answer_bound (BeatIs BeatStopping) = omega (arith, length-append {A = ℕ}, length-u8)
answer_bound (WorkIs (Tune mux tune)) = omega (arith, length-append {A = ℕ}, length-u8, length-u16, length-u64)
answer_bound (WorkIs Nothing) = omega (arith, length-append {A = ℕ}, length-u8)
answer_bound (WorkIs Stopping) = omega (arith, length-append {A = ℕ}, length-u8)
answer_bound (PulledIs (Bytes count)) = omega (arith, length-append {A = ℕ}, length-u8, length-u64)
answer_bound (PulledIs Empty) = omega (arith, length-append {A = ℕ}, length-u8)
answer_bound (PulledIs PulledGone) = omega (arith, length-append {A = ℕ}, length-u8)
answer_bound (ClosedIs Yes) = omega (arith, length-append {A = ℕ}, length-u8)
answer_bound (ClosedIs Gone) = omega (arith, length-append {A = ℕ}, length-u8)

-- ten bytes stand before those of each datagram
length-datagrams : (ds : List Datagram)
    → length (flat_map datagram_text ds) ≡ 10 * length ds + length (flat_map (λ (d : Datagram). d.bytes) ds)
length-datagrams [] = refl
length-datagrams (d ∷ ds) =
    omega (arith, length-append {A = ℕ}, length-u16, length-u32, length-datagrams ds)

pub record_bound : (e : Event) (a : Answer) (o : Output) → IsEvent e → IsWithinRoom o
    → length (record_text e a o.reply o.datagrams) ≤ 399100
unfolding record_text
record_bound e a o event room =
    omega (
      arith,
      length-append {A = ℕ},
      length-u16,
      length-u32,
      event_bound e event,
      answer_bound a,
      length-datagrams o.datagrams,
      length-flat_map (λ (d : Datagram). d.bytes) o.datagrams,
      room.reply,
      room.bytes,
      room.count,
    )

-- ---- lines

-- one text after another
infixr 20 ◌and◌
pub ◌and◌ : {o m n : Sheet} {a b : List ℕ} → WroteText o a m → WroteText m b n → WroteText o (a ++ b) n
◌and◌ {o = o} {a = a} {b = b} first second = record {
  text = rw (second.text, first.text) (append_assoc o.text a b);
  spare = omega (arith, length-append a b, first.spare, second.spare);
}

-- bytes in digits are a text
pub digits : {o n : Sheet} {bs : List ℕ} → WroteHex o bs n → WroteText o (encode_lower bs) n
digits {bs = bs} h = record { text = h.text; spare = omega (arith, h.spare, length-encode_with lower_digits bs) }

-- what is written on an empty sheet is its text
pub whole : {o n : Sheet} {t : List ℕ} → o ≡ record { text = []; spare = 1048576 } → WroteText o t n → n.text ≡ t
whole {o = o} {t = t} h wrote = wrote.text ∙ ap (λ (s : Sheet). s.text ++ t) h

pub line_bound : (place caller : ℕ) (e : Event) (a : Answer) (o : Output) → place < 2 ^ 64 → caller < 2 ^ 64 → IsEvent e → IsWithinRoom o
    → length (entry_line place caller e a o.reply o.datagrams) < 800000
unfolding entry_line
line_bound place caller e a o p c event room =
    omega (
      arith,
      length-append {A = ℕ},
      length-decimal_u64 place p,
      length-decimal_u64 caller c,
      record_bound e a o event room,
      length-encode_with lower_digits (record_text e a o.reply o.datagrams),
    )

pub ruleset line_steps = (length-decimal_u64, length-append)
