-- The record of an entry whose values are of their types is of bytes.
use Rattle.std.proofs.Common.{ℕ, ◌<◌, ◌^◌, Bool, true, false, List, [], ◌∷◌, ◌++◌, length, flat_map, Option, Some, None, arith}
use Rattle.std.specs.Prelude.{IfSome}
use Rattle.std.proofs.lemmas.List.Elements.{All-head, All-tail, All-nil, All-cons}
use Rattle.satip_base.specs.Output.{Datagram}
use Rattle.satip_base.specs.declared.network.Ports.{Ports}
use Rattle.satip_base.specs.Lists.{Each}
use Rattle.satip_tune.specs.declared.signal.Pol.{Pol}
use Rattle.satip_tune.specs.declared.signal.Pol.TheVariants.{H, V, L, R}
use Rattle.satip_tune.specs.declared.signal.RollOff.{RollOff}
use Rattle.satip_tune.specs.declared.signal.RollOff.TheVariants.{R35, R25, R20}
use Rattle.satip_tune.specs.declared.signal.System.{System}
use Rattle.satip_tune.specs.declared.signal.System.TheVariants.{Dvbs, Dvbs2}
use Rattle.satip_tune.specs.declared.signal.Modulation.{Modulation}
use Rattle.satip_tune.specs.declared.signal.Modulation.TheVariants.{Qpsk, Psk8}
use Rattle.satip_tune.specs.declared.signal.Fec.{Fec}
use Rattle.satip_tune.specs.declared.signal.Fec.TheVariants.{F12, F23, F34, F56, F78, F89, F35, F45, F910}
use Rattle.satip_tune.specs.declared.keys.Key.{Key}
use Rattle.satip_tune.specs.declared.keys.Key.TheVariants.{Fe, Src, Freq, Pol as PolKey, Ro, Msys, Mtype, Plts, Sr, Fec as FecKey, Pids, Addpids, Delpids}
use Rattle.satip_tune.specs.declared.tunings.Change.{Change}
use Rattle.satip_query.specs.declared.queries.Query.{Query}
use Rattle.satip_query.specs.declared.queries.PidsGiven.{PidsGiven}
use Rattle.satip_query.specs.declared.queries.PidsGiven.TheVariants.{Absent as NoPids, All as AllPids, Empty as EmptyPids, List as ThesePids}
use Rattle.satip_query.specs.declared.faults.QueryFault.{QueryFault}
use Rattle.satip_query.specs.declared.faults.QueryFault.TheVariants.{Syntax, Range}
use Rattle.satip_rtsp.specs.declared.requests.Method.{Method}
use Rattle.satip_rtsp.specs.declared.requests.Method.TheVariants.{Options, Describe, Setup, Play, Teardown}
use Rattle.satip_rtsp.specs.declared.requests.Refusal.{Refusal}
use Rattle.satip_rtsp.specs.declared.requests.Refusal.TheVariants.{Broken, TooLong, NoCseq, Version, Method as NoMethod, Require, Target, Query as AtQuery}
use Rattle.satip_rtsp.specs.declared.requests.SessionName.{SessionName}
use Rattle.satip_rtsp.specs.declared.requests.SessionName.TheVariants.{Absent, Named, Other}
use Rattle.satip_rtsp.specs.declared.requests.Request.{Request}
use Rattle.satip_http.specs.declared.requests.HttpRefusal.{HttpRefusal}
use Rattle.satip_http.specs.declared.requests.HttpRefusal.TheVariants.{Broken as HttpBroken, TooLong as HttpTooLong, Version as HttpVersion, Method as HttpMethod, Target as HttpTarget, NotFound, Query as HttpQuery}
use Rattle.satip_http.specs.declared.requests.HttpRequest.{HttpRequest}
use Rattle.satip_plain.specs.Types.{SessionId, Draw}
use Rattle.satip_plain.specs.Values.{AreBytes, IsChange, IsQuery, IsRefusal, IsRequest, IsEvent}
use Rattle.satip_plain.specs.declared.events.Event.{Event}
use Rattle.satip_plain.specs.declared.events.Event.TheVariants.{Request as Asked, Get as Got, Tick, Packet, Ended, Ask, Pull, Close, Stop}
use Rattle.satip_plain.specs.declared.answers.Answer.{Answer}
use Rattle.satip_plain.specs.declared.answers.Answer.TheVariants.{Replied as RepliedIs, Get as GetIs, Beat as BeatIs, Work as WorkIs, Pulled as PulledIs, Closed as ClosedIs}
use Rattle.satip_plain.specs.declared.answers.GetAnswer.TheVariants.{Started, Refused}
use Rattle.satip_plain.specs.declared.answers.Beat.TheVariants.{Going, Stopping as BeatStopping}
use Rattle.satip_plain.specs.declared.answers.Work.TheVariants.{Tune, Nothing, Stopping}
use Rattle.satip_plain.specs.declared.answers.Pulled.TheVariants.{Bytes, Empty, Gone as PulledGone}
use Rattle.satip_plain.specs.declared.answers.Closed.TheVariants.{Yes, Gone}
use Rattle.satip_plain.specs.Histories.{Item}
use Rattle.satip_entry_writer.specs.Fields.{u8_text, u16_text, u32_text, u64_text, bool_text, option_text, pid_list_text, ports_text, pol_text, roll_off_text, system_text, modulation_text, fec_text, key_text, id_text, draw_text}
use Rattle.satip_entry_writer.specs.Requests.{change_text, pids_text, query_text, fault_text, method_text, refusal_text, name_text, request_text, http_refusal_text, http_request_text}
use Rattle.satip_entry_writer.specs.Records.{event_text, datagram_text, answer_text, record_text}
use Rattle.satip_entry_writer.specs.Entries.{entry_text}
use Rattle.satip_entry_writer.specs.Entries.{IsTyped, told}

-- each number is a byte, by recursion
record InBytes (xs : List ℕ) : Type 0 where
  each : Each (λ b. b < 2 ^ 8) xs

infixr 20 ◌and◌
◌and◌ : {a b : List ℕ} → InBytes a → InBytes b → InBytes (a ++ b)
◌and◌ {a = a} {b = b} p q = record { each = both a p.each }
  where
    both : (xs : List ℕ) → Each (λ b. b < 2 ^ 8) xs → Each (λ b. b < 2 ^ 8) (xs ++ b)
    both [] h = q.each
    both (x ∷ xs) h = (h.0, both xs h.1)

none : InBytes []
none = record { each = tt }

from_all : (xs : List ℕ) → AreBytes xs → InBytes xs
from_all xs h = record { each = along xs h }
  where
    along : (xs : List ℕ) → AreBytes xs → Each (λ b. b < 2 ^ 8) xs
    along [] h = tt
    along (x ∷ xs) h = (All-head (λ b. b < 2 ^ 8) x xs h, along xs (All-tail (λ b. b < 2 ^ 8) x xs h))

to_all : (xs : List ℕ) → InBytes xs → AreBytes xs
to_all xs h = along xs h.each
  where
    along : (xs : List ℕ) → Each (λ b. b < 2 ^ 8) xs → AreBytes xs
    along [] h = All-nil (λ b. b < 2 ^ 8)
    along (x ∷ xs) h = All-cons (λ b. b < 2 ^ 8) x xs h.0 (along xs h.1)

-- ---- small parts

u8_in : (n : ℕ) → n < 2 ^ 8 → InBytes (u8_text n)
unfolding u8_text
u8_in n h = record { each = (h, tt) }

u16_in : (n : ℕ) → InBytes (u16_text n)
unfolding u16_text
u16_in n = record { each = (omega arith, (omega arith, tt)) }

u32_in : (n : ℕ) → InBytes (u32_text n)
unfolding u32_text
u32_in n = record { each = (omega arith, (omega arith, (omega arith, (omega arith, tt)))) }

u64_in : (n : ℕ) → InBytes (u64_text n)
unfolding u64_text
u64_in n = record {
  each = (omega arith, (omega arith, (omega arith, (omega arith, (omega arith, (omega arith, (omega arith, (omega arith, tt))))))));
}

any_option : {T : Type 0} (text : T → List ℕ) (value : Option T) → ((x : T) → InBytes (text x)) → InBytes (option_text text value)
any_option text None h = u8_in 0 (omega arith)
any_option text (Some x) h = u8_in 1 (omega arith) and h x

some_option : {T : Type 0} (Is : T → Type 0) (text : T → List ℕ) (value : Option T) → IfSome value Is → ((x : T) → Is x → InBytes (text x))
    → InBytes (option_text text value)
some_option Is text None is h = u8_in 0 (omega arith)
some_option Is text (Some x) is h = u8_in 1 (omega arith) and h x is

bool_in : (b : Bool) → InBytes (bool_text b)
bool_in true = u8_in 1 (omega arith)
bool_in false = u8_in 0 (omega arith)

pol_in : (x : Pol) → InBytes (pol_text x)
pol_in H = u8_in 0 (omega arith)
pol_in V = u8_in 1 (omega arith)
pol_in L = u8_in 2 (omega arith)
pol_in R = u8_in 3 (omega arith)

roll_off_in : (x : RollOff) → InBytes (roll_off_text x)
roll_off_in R35 = u8_in 0 (omega arith)
roll_off_in R25 = u8_in 1 (omega arith)
roll_off_in R20 = u8_in 2 (omega arith)

system_in : (x : System) → InBytes (system_text x)
system_in Dvbs = u8_in 0 (omega arith)
system_in Dvbs2 = u8_in 1 (omega arith)

modulation_in : (x : Modulation) → InBytes (modulation_text x)
modulation_in Qpsk = u8_in 0 (omega arith)
modulation_in Psk8 = u8_in 1 (omega arith)

fec_in : (x : Fec) → InBytes (fec_text x)
fec_in F12 = u8_in 0 (omega arith)
fec_in F23 = u8_in 1 (omega arith)
fec_in F34 = u8_in 2 (omega arith)
fec_in F56 = u8_in 3 (omega arith)
fec_in F78 = u8_in 4 (omega arith)
fec_in F89 = u8_in 5 (omega arith)
fec_in F35 = u8_in 6 (omega arith)
fec_in F45 = u8_in 7 (omega arith)
fec_in F910 = u8_in 8 (omega arith)

key_in : (x : Key) → InBytes (key_text x)
key_in Fe = u8_in 0 (omega arith)
key_in Src = u8_in 1 (omega arith)
key_in Freq = u8_in 2 (omega arith)
key_in PolKey = u8_in 3 (omega arith)
key_in Ro = u8_in 4 (omega arith)
key_in Msys = u8_in 5 (omega arith)
key_in Mtype = u8_in 6 (omega arith)
key_in Plts = u8_in 7 (omega arith)
key_in Sr = u8_in 8 (omega arith)
key_in FecKey = u8_in 9 (omega arith)
key_in Pids = u8_in 10 (omega arith)
key_in Addpids = u8_in 11 (omega arith)
key_in Delpids = u8_in 12 (omega arith)

ports_in : (x : Ports) → InBytes (ports_text x)
ports_in x = u16_in x.rtp and u16_in x.rtcp

id_in : (x : SessionId) → InBytes (id_text x)
id_in x = u32_in x.count and u32_in x.word

draw_in : (x : Draw) → InBytes (draw_text x)
draw_in x = u32_in x.word and (u32_in x.ssrc and u16_in x.first)

pid_list_in : (pids : List ℕ) → InBytes (pid_list_text pids)
pid_list_in pids = u16_in (length pids) and each pids
  where
    each : (pids : List ℕ) → InBytes (flat_map u16_text pids)
    each [] = none
    each (pid ∷ pids) = u16_in pid and each pids

-- ---- requests

change_in : (c : Change) → IsChange c → InBytes (change_text c)
unfolding change_text
change_in c h =
    any_option u16_text c.fe u16_in and (some_option (λ n. n < 2 ^ 8) u8_text c.src h.src u8_in and (any_option u32_text c.freq u32_in
    and (any_option pol_text c.pol pol_in and (any_option roll_off_text c.ro roll_off_in and (any_option system_text c.msys system_in
    and (any_option modulation_text c.mtype modulation_in and (any_option bool_text c.plts bool_in and (any_option u32_text c.sr u32_in
    and any_option fec_text c.fec fec_in))))))))

pids_in : (x : PidsGiven) → InBytes (pids_text x)
unfolding pids_text
pids_in NoPids = u8_in 0 (omega arith)
pids_in AllPids = u8_in 1 (omega arith)
pids_in EmptyPids = u8_in 2 (omega arith)
pids_in (ThesePids pids) = u8_in 3 (omega arith) and pid_list_in pids

query_in : (q : Query) → IsQuery q → InBytes (query_text q)
unfolding query_text
query_in q h =
    change_in q.change h.change
    and (pids_in q.pids and (any_option pid_list_text q.addpids pid_list_in and any_option pid_list_text q.delpids pid_list_in))

fault_in : (x : QueryFault) → InBytes (fault_text x)
fault_in (Syntax key) = u8_in 0 (omega arith) and key_in key
fault_in (Range key) = u8_in 1 (omega arith) and key_in key

method_in : (x : Method) → InBytes (method_text x)
method_in Options = u8_in 0 (omega arith)
method_in Describe = u8_in 1 (omega arith)
method_in Setup = u8_in 2 (omega arith)
method_in Play = u8_in 3 (omega arith)
method_in Teardown = u8_in 4 (omega arith)

refusal_in : (x : Refusal) → IsRefusal x → InBytes (refusal_text x)
unfolding refusal_text
refusal_in Broken h = u8_in 0 (omega arith)
refusal_in TooLong h = u8_in 1 (omega arith)
refusal_in NoCseq h = u8_in 2 (omega arith)
refusal_in Version h = u8_in 3 (omega arith)
refusal_in NoMethod h = u8_in 4 (omega arith)
refusal_in (Require kept) h = u8_in 5 (omega arith) and (u16_in (length kept) and from_all kept h.bytes)
refusal_in Target h = u8_in 6 (omega arith)
refusal_in (AtQuery fault) h = u8_in 7 (omega arith) and fault_in fault

name_in : (x : SessionName) → InBytes (name_text x)
unfolding name_text
name_in Absent = u8_in 0 (omega arith)
name_in (Named id) = u8_in 1 (omega arith) and id_in id
name_in Other = u8_in 2 (omega arith)

request_in : (r : Request) → IsRequest r → InBytes (request_text r)
unfolding request_text
request_in r h =
    any_option u32_text r.cseq u32_in and (some_option IsRefusal refusal_text r.refusal h.refusal refusal_in and (method_in r.method
    and (any_option u16_text r.stream u16_in and (name_in r.session and (query_in r.query h.query and any_option ports_text r.ports ports_in)))))

http_refusal_in : (x : HttpRefusal) → InBytes (http_refusal_text x)
unfolding http_refusal_text
http_refusal_in HttpBroken = u8_in 0 (omega arith)
http_refusal_in HttpTooLong = u8_in 1 (omega arith)
http_refusal_in HttpVersion = u8_in 2 (omega arith)
http_refusal_in HttpMethod = u8_in 3 (omega arith)
http_refusal_in HttpTarget = u8_in 4 (omega arith)
http_refusal_in NotFound = u8_in 5 (omega arith)
http_refusal_in (HttpQuery fault) = u8_in 6 (omega arith) and fault_in fault

http_request_in : (r : HttpRequest) → IsQuery r.query → InBytes (http_request_text r)
unfolding http_request_text
http_request_in r h = any_option http_refusal_text r.refusal http_refusal_in and query_in r.query h

-- ---- records

event_in : (e : Event) → IsEvent e → InBytes (event_text e)
unfolding event_text
event_in (Asked peer draw r) h = u8_in 0 (omega arith) and (u32_in peer.ip and (draw_in draw and request_in r h.2))
event_in (Got peer draw r) h = u8_in 1 (omega arith) and (u32_in peer.ip and (draw_in draw and http_request_in r h.2))
event_in (Tick now) h = u8_in 2 (omega arith) and u64_in now
event_in (Packet front tune packet) h = u8_in 3 (omega arith) and (u16_in front and (u64_in tune and from_all packet h.2.bytes))
event_in (Ended front tune) h = u8_in 4 (omega arith) and (u16_in front and u64_in tune)
event_in (Ask front) h = u8_in 5 (omega arith) and u16_in front
event_in (Pull id) h = u8_in 6 (omega arith) and id_in id
event_in (Close id) h = u8_in 7 (omega arith) and id_in id
event_in Stop h = u8_in 8 (omega arith)

answer_in : (a : Answer) → InBytes (answer_text a)
unfolding answer_text
answer_in (RepliedIs r) = u8_in 0 (omega arith) and (u16_in r.status and bool_in r.closing)
answer_in (GetIs (Started id)) = u8_in 1 (omega arith) and (u8_in 0 (omega arith) and id_in id)
answer_in (GetIs (Refused status)) = u8_in 1 (omega arith) and (u8_in 1 (omega arith) and u16_in status)
answer_in (BeatIs Going) = u8_in 2 (omega arith) and u8_in 0 (omega arith)
answer_in (BeatIs BeatStopping) = u8_in 2 (omega arith) and u8_in 1 (omega arith)
answer_in (WorkIs (Tune mux tune)) = u8_in 3 (omega arith) and (u8_in 0 (omega arith) and (u16_in mux and u64_in tune))
answer_in (WorkIs Nothing) = u8_in 3 (omega arith) and u8_in 1 (omega arith)
answer_in (WorkIs Stopping) = u8_in 3 (omega arith) and u8_in 2 (omega arith)
answer_in (PulledIs (Bytes count)) = u8_in 4 (omega arith) and (u8_in 0 (omega arith) and u64_in count)
answer_in (PulledIs Empty) = u8_in 4 (omega arith) and u8_in 1 (omega arith)
answer_in (PulledIs PulledGone) = u8_in 4 (omega arith) and u8_in 2 (omega arith)
answer_in (ClosedIs Yes) = u8_in 5 (omega arith) and u8_in 0 (omega arith)
answer_in (ClosedIs Gone) = u8_in 5 (omega arith) and u8_in 1 (omega arith)

datagrams_in : (ds : List Datagram) → Each (λ (d : Datagram). AreBytes d.bytes) ds → InBytes (flat_map datagram_text ds)
datagrams_in [] h = none
datagrams_in (d ∷ ds) h =
    ((u32_in d.to.ip and u16_in d.to.port) and (u32_in (length d.bytes) and from_all d.bytes h.0)) and datagrams_in ds h.1

pub record_in_bytes : (e : Item) → IsTyped e → AreBytes (entry_text (told e))
unfolding record_text
record_in_bytes e h =
    to_all (entry_text (told e)) (
    event_in e.event h.entry.event and (answer_in e.answer and ((u32_in (length e.out.reply) and from_all e.out.reply h.reply)
    and (u16_in (length e.out.datagrams) and datagrams_in e.out.datagrams h.datagrams))))
