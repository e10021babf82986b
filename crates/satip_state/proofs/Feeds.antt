-- What a session's packer keeps and sends, against all packets that the session was given.
use Rattle.std.proofs.Common.{◌≡◌, ℕ, ◌+◌, ◌%◌, ◌≤◌, Bool, true, false, cond, List, [], ◌∷◌, ◌++◌, length, map, sum, drop, refl, sym, ap, subst, ◌∙◌, arith}
use Rattle.satip_base.specs.Output.{Datagram}
use Rattle.satip_rtp.specs.Cut.{cut, staying}
use Rattle.satip_rtp.specs.Bytes.{rtp_datagram}
use Rattle.satip_rtp.specs.Packing.{Packing, after_cut, numbered}
use Rattle.satip_rtp.specs.Picked.{Picked, Keeps, Flush}
use Rattle.satip_rtp.proofs.CutLemmas.{cut_loses_nothing}
use Rattle.satip_rtp.proofs.PickedLemmas.{each_call_cuts}
use Rattle.satip_flow.specs.Subscription.{ToAddress, ToQueue, flushed_feed, flush_datagrams}
use Rattle.satip_plain.specs.State.{Session, held}
use Rattle.satip_plain.specs.Sending.{as_rtp, let_go}
use Rattle.satip_plain.specs.Histories.{datagram}
use Rattle.satip_state.specs.Seated.{row_of, packing_of, feed_of, address_of}
use Rattle.satip_state.specs.Standing.{IsKept}

-- the session once what it holds was cut
abbrev pub cut_off : Bool → Session → Session
cut_off flush s = record s { sizes = s.sizes ++ map length (cut flush (held s)) }

abbrev pub with_packet : List ℕ → Session → Session
with_packet packet s = record s { picked = s.picked ++ packet ∷ [] }

abbrev pub picked_of : Session → Picked
picked_of s = record { packets = s.picked; sizes = s.sizes }

-- a packer is told by what it keeps
packing_is : (p q : Packing) → p.ssrc ≡ q.ssrc → p.held ≡ q.held → p.next ≡ q.next → p.datagrams ≡ q.datagrams → p.octets ≡ q.octets → p ≡ q
packing_is p q ssrc held next datagrams octets =
    let make : ℕ → List (List ℕ) → ℕ → ℕ → ℕ → Packing = λ a b c d e. record { ssrc = a; held = b; next = c; datagrams = d; octets = e } in
    ap (λ a. make a p.held p.next p.datagrams p.octets) ssrc
    ∙ ap (λ b. make q.ssrc b p.next p.datagrams p.octets) held
    ∙ ap (λ n. make q.ssrc q.held n p.datagrams p.octets) next
    ∙ ap (λ d. make q.ssrc q.held q.next d p.octets) datagrams
    ∙ ap (λ e. make q.ssrc q.held q.next q.datagrams e) octets

pub keeps_of : (s : Session) → sum s.sizes ≤ length s.picked → Keeps s.first s.ssrc (picked_of s) (packing_of s)
unfolding packing_of
keeps_of s within = record { ssrc = refl; held = refl; within = within; next = refl; datagrams = refl; octets = refl }

pub packing_from : (s : Session) (p : Packing) → Keeps s.first s.ssrc (picked_of s) p → p ≡ packing_of s
unfolding packing_of
packing_from s p k = packing_is p (packing_of s) k.ssrc k.held k.next k.datagrams k.octets

held_of : (s : Session) → (packing_of s).held ≡ held s
unfolding packing_of
held_of s = refl

-- datagrams are numbered on, modulo 65536
pub sent_numbered : (clock : ℕ) (s : Session) (count : ℕ) (groups : List (List (List ℕ)))
    → map datagram (as_rtp clock s count groups) ≡ numbered ((s.first + count) % 65536) clock s.ssrc (address_of s) groups
sent_numbered clock s count [] = refl
sent_numbered clock s count (packets ∷ more) =
    let next : (s.first + (count + 1)) % 65536 ≡ ((s.first + count) % 65536 + 1) % 65536 = omega arith in
    let here : Datagram = record { to = address_of s; bytes = rtp_datagram ((s.first + count) % 65536) clock s.ssrc packets } in
    ap (λ ds. here ∷ ds) (sent_numbered clock s (count + 1) more ∙ ap (λ n. numbered n clock s.ssrc (address_of s) more) next)

-- a flush
flush_keeps : (s : Session) → sum s.sizes ≤ length s.picked → Keeps s.first s.ssrc (picked_of (cut_off true s)) (after_cut true (packing_of s))
flush_keeps s within = (each_call_cuts s.first s.ssrc (picked_of s) (packing_of s) (Flush 0 (address_of s)) (keeps_of s within)).0

pub feed_flushed : (s : Session) → sum s.sizes ≤ length s.picked → s.http ≡ false → flushed_feed (feed_of s) ≡ feed_of (cut_off true s)
unfolding feed_of
feed_flushed s within rtsp =
    let t : Session = cut_off true s in
    ap (λ b. flushed_feed (cond b (ToQueue (held s)) (ToAddress (address_of s) (packing_of s)))) rtsp
    ∙ ap (λ p. ToAddress (address_of s) p) (packing_from t (after_cut true (packing_of s)) (flush_keeps s within))
    ∙ sym (ap (λ b. cond b (ToQueue (held t)) (ToAddress (address_of t) (packing_of t))) rtsp)

pub feed_sends : (clock : ℕ) (s : Session) → sum s.sizes ≤ length s.picked → s.http ≡ false
    → flush_datagrams clock (feed_of s) ≡ map datagram (let_go true clock s).sends
unfolding feed_of
feed_sends clock s within rtsp =
    ap (λ b. flush_datagrams clock (cond b (ToQueue (held s)) (ToAddress (address_of s) (packing_of s)))) rtsp
    ∙ (each_call_cuts s.first s.ssrc (picked_of s) (packing_of s) (Flush clock (address_of s)) (keeps_of s within)).1
    ∙ sym (sent_numbered clock s (length s.sizes) (cut true (held s)))

-- a queue stays
pub queue_flushed : (s : Session) → s.http ≡ true → flushed_feed (feed_of s) ≡ feed_of s
unfolding feed_of
queue_flushed s http =
    ap (λ b. flushed_feed (cond b (ToQueue (held s)) (ToAddress (address_of s) (packing_of s)))) http
    ∙ sym (ap (λ b. cond b (ToQueue (held s)) (ToAddress (address_of s) (packing_of s))) http)

pub queue_sends : (clock : ℕ) (s : Session) → s.http ≡ true → flush_datagrams clock (feed_of s) ≡ []
unfolding feed_of
queue_sends clock s http = ap (λ b. flush_datagrams clock (cond b (ToQueue (held s)) (ToAddress (address_of s) (packing_of s)))) http

-- who plays not has no packets
idle_held : (s : Session) → IsKept s → s.playing ≡ false → held s ≡ []
idle_held s kept idle = ap (λ xs. drop (sum s.sizes) xs) (kept.idle_picked idle) ∙ (ap (λ ns. drop (sum ns) []) (kept.idle_sizes idle))

pub idle_sends : (flush : Bool) (clock : ℕ) (s : Session) → IsKept s → s.playing ≡ false → (let_go flush clock s).sends ≡ []
idle_sends flush clock s kept idle = ap (λ xs. as_rtp clock s (length s.sizes) (cut flush xs)) (idle_held s kept idle)

-- what holds of a session goes on to hold as what it holds leaves
flush_few : (s : Session) → sum s.sizes ≤ length s.picked → length (held (cut_off true s)) ≤ 6
flush_few s within =
    let k = flush_keeps s within in
    let few : length (staying true (held s)) ≤ 6 = (cut_loses_nothing true (held s)).few in
    let same : staying true (held s) ≡ held (cut_off true s) = ap (λ xs. staying true xs) (sym (held_of s)) ∙ k.held in
    subst (λ xs. length xs ≤ 6) same few

-- nothing is held any more
pub held_gone : (s : Session) → IsKept s → held (cut_off true s) ≡ []
held_gone s kept =
    let k = flush_keeps s kept.within in
    sym (ap (λ xs. staying true xs) (sym (held_of s)) ∙ k.held) ∙ (cut_loses_nothing true (held s)).none_flushed refl

pub kept_flushed : (s : Session) → IsKept s → s.http ≡ false → IsKept (cut_off true s)
kept_flushed s kept rtsp = record {
  heard = kept.heard;
  reported = kept.reported;
  first = kept.first;
  within = (flush_keeps s kept.within).within;
  few = subst (λ b. length (held (cut_off true s)) ≤ cond b 4096 6) (sym rtsp) (flush_few s kept.within);
  http = kept.http;
  idle_picked = kept.idle_picked;
  idle_sizes = λ idle. ap (λ xs. s.sizes ++ map length (cut true xs)) (idle_held s kept idle) ∙ ap (λ ns. ns ++ []) (kept.idle_sizes idle);
}

-- the same for all sessions: what an RTSP session holds leaves
abbrev pub leave_held : Session → Session
leave_held s = cond s.http s (cut_off true s)

pub leave_row : (s : Session) → row_of (leave_held s) ≡ row_of s
unfolding row_of
leave_row s = by s.http
  where
    by : (b : Bool) → row_of (cond b s (cut_off true s)) ≡ row_of s
    by true = refl
    by false = refl

pub leave_kept : (s : Session) → IsKept s → IsKept (leave_held s)
leave_kept s kept = by s.http refl
  where
    by : (b : Bool) → s.http ≡ b → IsKept (cond b s (cut_off true s))
    by true http = kept
    by false rtsp = kept_flushed s kept rtsp

pub leave_feed : (s : Session) → IsKept s → flushed_feed (feed_of s) ≡ feed_of (leave_held s)
leave_feed s kept = by s.http refl
  where
    by : (b : Bool) → s.http ≡ b → flushed_feed (feed_of s) ≡ feed_of (cond b s (cut_off true s))
    by true http = queue_flushed s http
    by false rtsp = feed_flushed s kept.within rtsp
