-- A packet is given to a session.
use Rattle.std.proofs.Common.{◌≡◌, ℕ, ◌<◌, ◌≤◌, ◌==◌, ◌&&◌, nat_lt, not, Bool, true, false, cond, List, [], ◌∷◌, ◌++◌, length, map, sum, Some, refl, sym, ap}
use Rattle.std.proofs.Common.{subst, ◌∙◌, arith, length-append}
use Rattle.std.proofs.lemmas.Bool.{true≢false}
use Rattle.std.proofs.lemmas.Bool.Decides.{nat_tests}
use Rattle.std.proofs.lemmas.List.{drop-append-le}
use Rattle.satip_rtp.specs.Cut.{cut, staying}
use Rattle.satip_rtp.specs.Packing.{after_cut, holding}
use Rattle.satip_rtp.specs.Picked.{Keeps, Push}
use Rattle.satip_rtp.proofs.CutLemmas.{cut_loses_nothing}
use Rattle.satip_rtp.proofs.PickedLemmas.{each_call_cuts}
use Rattle.satip_flow.specs.Subscription.{ToAddress, ToQueue, fed, fed_datagrams, is_full}
use Rattle.satip_plain.specs.State.{Session, held}
use Rattle.satip_plain.specs.Sending.{let_go, Turn}
use Rattle.satip_plain.specs.Steps.{given, is_overrun}
use Rattle.satip_plain.specs.Histories.{datagram}
use Rattle.satip_state.specs.Seated.{row_of, packing_of, feed_of, address_of}
use Rattle.satip_state.specs.Standing.{IsKept}
use Rattle.satip_state.proofs.Feeds.{cut_off, with_packet, picked_of, keeps_of, packing_from, sent_numbered}

-- the session once it was given a packet
abbrev pub take_in : List ℕ → Session → Session
take_in packet s = cond s.http (cond (is_overrun s) s (with_packet packet s)) (cut_off false (with_packet packet s))

pub given_after : (clock : ℕ) (packet : List ℕ) (s : Session) → (given clock packet s).after ≡ Some (take_in packet s)
given_after clock packet s = by s.http
  where
    by : (b : Bool) → (cond {A = Turn} b (record { sends = []; after = Some (cond (is_overrun s) s (with_packet packet s)) })
        (let_go false clock (with_packet packet s))).after
        ≡ Some (cond b (cond (is_overrun s) s (with_packet packet s)) (cut_off false (with_packet packet s)))
    by true = refl
    by false = refl

-- what stays as it is
pub take_row : (packet : List ℕ) (s : Session) → row_of (take_in packet s) ≡ row_of s
unfolding row_of
take_row packet s = by s.http (is_overrun s)
  where
    by : (b o : Bool) → row_of (cond b (cond o s (with_packet packet s)) (cut_off false (with_packet packet s))) ≡ row_of s
    by true true = refl
    by true false = refl
    by false o = refl

-- a packer
push_keeps : (packet : List ℕ) (s : Session) → sum s.sizes ≤ length s.picked
    → Keeps s.first s.ssrc (picked_of (cut_off false (with_packet packet s))) (after_cut false (holding (packing_of s) packet))
push_keeps packet s within = (each_call_cuts s.first s.ssrc (picked_of s) (packing_of s) (Push packet 0 (address_of s)) (keeps_of s within)).0

packer_fed : (packet : List ℕ) (s : Session) → sum s.sizes ≤ length s.picked → s.http ≡ false
    → fed packet (feed_of s) ≡ feed_of (cut_off false (with_packet packet s))
unfolding feed_of
packer_fed packet s within rtsp =
    let t : Session = cut_off false (with_packet packet s) in
    ap (λ b. fed packet (cond b (ToQueue (held s)) (ToAddress (address_of s) (packing_of s)))) rtsp
    ∙ ap (λ p. ToAddress (address_of s) p) (packing_from t (after_cut false (holding (packing_of s) packet)) (push_keeps packet s within))
    ∙ sym (ap (λ b. cond b (ToQueue (held t)) (ToAddress (address_of t) (packing_of t))) rtsp)

packer_sends : (clock : ℕ) (packet : List ℕ) (s : Session) → sum s.sizes ≤ length s.picked → s.http ≡ false
    → fed_datagrams packet clock (feed_of s) ≡ map datagram (let_go false clock (with_packet packet s)).sends
unfolding feed_of
packer_sends clock packet s within rtsp =
    let t : Session = with_packet packet s in
    ap (λ b. fed_datagrams packet clock (cond b (ToQueue (held s)) (ToAddress (address_of s) (packing_of s)))) rtsp
    ∙ (each_call_cuts s.first s.ssrc (picked_of s) (packing_of s) (Push packet clock (address_of s)) (keeps_of s within)).1
    ∙ sym (sent_numbered clock t (length t.sizes) (cut false (held t)))

-- a queue
full_is : (n : ℕ) → n ≤ 4096 → not (nat_lt n 4096) ≡ (n == 4096)
full_is n few = grind (arith, nat_tests)

less_is : (n : ℕ) → n ≤ 4096 → nat_lt n 4096 ≡ not (n == 4096)
less_is n few = grind (arith, nat_tests)

queue_few : (s : Session) → IsKept s → s.http ≡ true → length (held s) ≤ 4096
queue_few s kept http = subst (λ b. length (held s) ≤ cond b 4096 6) http kept.few

overrun_http : (s : Session) → s.http ≡ true → is_overrun s ≡ (length (held s) == 4096)
overrun_http s http = ap (λ b. b && (length (held s) == 4096)) http

more_held : (packet : List ℕ) (s : Session) → sum s.sizes ≤ length s.picked → held (with_packet packet s) ≡ held s ++ packet ∷ []
more_held packet s within = drop-append-le (sum s.sizes) s.picked (packet ∷ []) within

queue_fed : (packet : List ℕ) (s : Session) → IsKept s → s.http ≡ true → fed packet (feed_of s) ≡ feed_of (cond (is_overrun s) s (with_packet packet s))
unfolding feed_of
queue_fed packet s kept http =
    ap (λ b. fed packet (cond b (ToQueue (held s)) (ToAddress (address_of s) (packing_of s)))) http
    ∙ ap (λ b. ToQueue (cond b (held s ++ packet ∷ []) (held s))) (less_is (length (held s)) (queue_few s kept http) ∙ ap not (sym (overrun_http s http)))
    ∙ by (is_overrun s)
  where
    by : (o : Bool) → ToQueue (cond (not o) (held s ++ packet ∷ []) (held s))
        ≡ cond (cond o s (with_packet packet s)).http (ToQueue (held (cond o s (with_packet packet s))))
        (ToAddress (address_of (cond o s (with_packet packet s))) (packing_of (cond o s (with_packet packet s))))
    by true = sym (ap (λ b. cond b (ToQueue (held s)) (ToAddress (address_of s) (packing_of s))) http)
    by false =
        ap ToQueue (sym (more_held packet s kept.within))
        ∙ sym (ap (λ b. cond b (ToQueue (held (with_packet packet s))) (ToAddress (address_of (with_packet packet s)) (packing_of (with_packet packet s))))
        http)

queue_silent : (clock : ℕ) (packet : List ℕ) (s : Session) → s.http ≡ true → fed_datagrams packet clock (feed_of s) ≡ []
unfolding feed_of
queue_silent clock packet s http = ap (λ b. fed_datagrams packet clock (cond b (ToQueue (held s)) (ToAddress (address_of s) (packing_of s)))) http

-- its feed, what it sends, and whether its queue is full
pub take_feed : (packet : List ℕ) (s : Session) → IsKept s → fed packet (feed_of s) ≡ feed_of (take_in packet s)
take_feed packet s kept = by s.http refl
  where
    by : (b : Bool) → s.http ≡ b → fed packet (feed_of s) ≡ feed_of
        (cond b (cond (is_overrun s) s (with_packet packet s)) (cut_off false (with_packet packet s)))
    by true http = queue_fed packet s kept http
    by false rtsp = packer_fed packet s kept.within rtsp

pub take_sends : (clock : ℕ) (packet : List ℕ) (s : Session) → IsKept s → fed_datagrams packet clock (feed_of s) ≡ map datagram (given clock packet s).sends
take_sends clock packet s kept = by s.http refl
  where
    by : (b : Bool) → s.http ≡ b → fed_datagrams packet clock (feed_of s)
        ≡ map datagram (cond {A = Turn} b (record { sends = []; after = Some (cond (is_overrun s) s (with_packet packet s)) })
        (let_go false clock (with_packet packet s))).sends
    by true http = queue_silent clock packet s http
    by false rtsp = packer_sends clock packet s kept.within rtsp

pub full_feed : (s : Session) → IsKept s → is_full (feed_of s) ≡ is_overrun s
unfolding feed_of
full_feed s kept = by s.http refl
  where
    by : (b : Bool) → s.http ≡ b → is_full (cond s.http (ToQueue (held s)) (ToAddress (address_of s) (packing_of s))) ≡ (s.http && (length (held s) == 4096))
    by true http =
        ap (λ b. is_full (cond b (ToQueue (held s)) (ToAddress (address_of s) (packing_of s)))) http
        ∙ full_is (length (held s)) (queue_few s kept http)
        ∙ sym (overrun_http s http)
    by false rtsp =
        ap (λ b. is_full (cond b (ToQueue (held s)) (ToAddress (address_of s) (packing_of s)))) rtsp
        ∙ sym (ap (λ b. b && (length (held s) == 4096)) rtsp)

-- what holds of a playing session goes on to hold
more_kept : (packet : List ℕ) (s : Session) → IsKept s → s.playing ≡ true → s.http ≡ true → is_overrun s ≡ false → IsKept (with_packet packet s)
more_kept packet s kept plays http room = record {
  heard = kept.heard;
  reported = kept.reported;
  first = kept.first;
  within = omega (arith, kept.within, length-append s.picked (packet ∷ []));
  few = subst (λ b. length (held (with_packet packet s)) ≤ cond b 4096 6) (sym http)
      (subst (λ xs. length xs ≤ 4096) (sym (more_held packet s kept.within)) few);
  http = kept.http;
  idle_picked = λ idle. absurd (true≢false (sym plays ∙ idle));
  idle_sizes = λ idle. absurd (true≢false (sym plays ∙ idle));
}
  where
    below : (n : ℕ) → n ≤ 4096 → (n == 4096) ≡ false → n < 4096
    below n most e = grind (arith, nat_tests)

    few : length (held s ++ packet ∷ []) ≤ 4096
    few = omega (arith, length-append (held s) (packet ∷ []), below (length (held s)) (queue_few s kept http) (sym (overrun_http s http) ∙ room))

packed_kept : (packet : List ℕ) (s : Session) → IsKept s → s.playing ≡ true → s.http ≡ false → IsKept (cut_off false (with_packet packet s))
unfolding packing_of
packed_kept packet s kept plays rtsp =
    let t : Session = cut_off false (with_packet packet s) in
    let k = push_keeps packet s kept.within in
    let few : length (staying false (held s ++ packet ∷ [])) ≤ 6 = (cut_loses_nothing false (held s ++ packet ∷ [])).few in
    record {
      heard = kept.heard;
      reported = kept.reported;
      first = kept.first;
      within = k.within;
      few = subst (λ b. length (held t) ≤ cond b 4096 6) (sym rtsp) (subst (λ xs. length xs ≤ 6) k.held few);
      http = kept.http;
      idle_picked = λ idle. absurd (true≢false (sym plays ∙ idle));
      idle_sizes = λ idle. absurd (true≢false (sym plays ∙ idle));
    }

pub take_kept : (packet : List ℕ) (s : Session) → IsKept s → s.playing ≡ true → IsKept (take_in packet s)
take_kept packet s kept plays = by s.http (is_overrun s) refl refl
  where
    by : (b o : Bool) → s.http ≡ b → is_overrun s ≡ o → IsKept (cond b (cond o s (with_packet packet s)) (cut_off false (with_packet packet s)))
    by true true http full = kept
    by true false http room = more_kept packet s kept plays http room
    by false o rtsp e = packed_kept packet s kept plays rtsp
