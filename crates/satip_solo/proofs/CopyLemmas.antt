-- Datagrams that are written into an empty output one after another.
use Rattle.std.proofs.Common.{◌≡◌, ◌≢◌, ℕ, ◌+◌, ◌<◌, ◌≤◌, List, [], ◌∷◌, ◌++◌, length, take, arith, refl, suc, zero, sym, ◌∙◌, ap, subst, Option, Some, None, IsSomeAnd, slice_get}
use Rattle.std.proofs.lemmas.List.{take_all, take_more}
use Rattle.std.proofs.lemmas.List.Sums.{sum_by-append, sum_by-cons}
use Rattle.std.proofs.lemmas.Option.{slice_get_within, get_or_from_slice_get}
use Rattle.satip_base.specs.Output.{Datagram, Output, IsWithinRoom, Sends, Wrote, datagram_bytes, empty}
use Rattle.satip_rtp.specs.Sending.{SendsAll}
use Rattle.satip_flow.proofs.Sends.{◌then_sends◌}

-- one datagram was written
one_sent : (o n : Output) (d : Datagram) → Sends o d.to d.bytes n → SendsAll o (d ∷ []) n
one_sent o n d sends =
    let size : datagram_bytes (d ∷ []) ≡ length d.bytes + 0 = sum_by-cons (λ (x : Datagram). length x.bytes) d [] in
    record {
      datagrams = sends.datagrams;
      datagram_spare = omega (arith, size, sends.datagram_spare);
      count_spare = omega (arith, sends.count_spare);
      reply = sends.reply;
      reply_spare = sends.reply_spare;
    }

-- the first datagrams, and the one behind them
first_more : (all : List Datagram) (place : ℕ) (d : Datagram) → slice_get all place ≡ Some d → take (place + 1) all ≡ take place all ++ d ∷ []
first_more all place d is =
    take_more all place d (slice_get_within all place d is)
    ∙ ap (λ (x : Datagram). take place all ++ x ∷ []) (get_or_from_slice_get all place d d is)

-- one datagram more of a list
pub copied_more : (a b c : Output) (all : List Datagram) (place : ℕ) → SendsAll a (take place all) b
    → IsSomeAnd (slice_get all place) (λ d. Sends b d.to d.bytes c) → SendsAll a (take (place + 1) all) c
copied_more a b c all place before next = one_more (slice_get all place) refl next
  where
    one_more : (found : Option Datagram) → slice_get all place ≡ found → IsSomeAnd found (λ d. Sends b d.to d.bytes c)
        → SendsAll a (take (place + 1) all) c
    one_more None is next = absurd next
    one_more (Some d) is next =
        let P : List Datagram → Type 0 = λ ds. SendsAll a ds c in
        subst P (sym (first_more all place d is)) (before then_sends one_sent b c d next)

none_within : (all : List Datagram) (place : ℕ) → place < length all → slice_get all place ≡ None → ⊥
none_within [] place inside is = omega arith
none_within (d ∷ ds) zero inside is = cc is
none_within (d ∷ ds) (suc k) inside is = none_within ds k (omega arith) is

-- the first of some datagrams have no more bytes than all
front_bytes : (k : ℕ) (ds : List Datagram) → datagram_bytes (take k ds) ≤ datagram_bytes ds
front_bytes zero ds = omega arith
front_bytes (suc k) [] = omega arith
front_bytes (suc k) (d ∷ ds) =
    let rest = front_bytes k ds in
    let some = sum_by-cons (λ (x : Datagram). length x.bytes) d (take k ds) in
    let all = sum_by-cons (λ (x : Datagram). length x.bytes) d ds in
    omega (arith, rest, some, all)

-- where all fit, the next fits behind those before it
pub next_fits : (a b : Output) (all : List Datagram) (place : ℕ) → place < length all → SendsAll a (take place all) b
    → datagram_bytes all ≤ a.datagram_spare → IsSomeAnd (slice_get all place) (λ d. length d.bytes ≤ b.datagram_spare)
next_fits a b all place inside before fits = found_fits (slice_get all place) refl
  where
    found_fits : (found : Option Datagram) → slice_get all place ≡ found → IsSomeAnd found (λ d. length d.bytes ≤ b.datagram_spare)
    found_fits None is = absurd (none_within all place inside is)
    found_fits (Some d) is =
        let size : datagram_bytes (take (place + 1) all) ≡ datagram_bytes (take place all) + datagram_bytes (d ∷ []) =
        ap datagram_bytes (first_more all place d is) ∙ sum_by-append (λ (x : Datagram). length x.bytes) (take place all) (d ∷ []) in
        let one : datagram_bytes (d ∷ []) ≡ length d.bytes + 0 = sum_by-cons (λ (x : Datagram). length x.bytes) d [] in
        omega (arith, front_bytes (place + 1) all, size, one, before.datagram_spare, fits)

front_count : (k : ℕ) (ds : List Datagram) → k < length ds → length (take k ds) ≡ k
front_count zero ds inside = refl
front_count (suc k) [] inside = absurd (omega arith)
front_count (suc k) (d ∷ ds) inside = ap suc (front_count k ds (omega arith))

-- and there is a place for it
pub next_place : (a b : Output) (all : List Datagram) (place : ℕ) → place < length all → SendsAll a (take place all) b
    → length all ≤ a.count_spare → b.count_spare ≢ 0
next_place a b all place inside before fits none =
    let count = front_count place all inside in
    omega (arith, count, before.count_spare, fits, none)

-- the room behind a reply that was written first
pub record HasRoom (mid : Output) (all : List Datagram) : Type 0 where
  pub bytes : datagram_bytes all ≤ mid.datagram_spare
  pub count : length all ≤ mid.count_spare

pub room_behind : (from to mid : Output) (text : List ℕ) → to ≡ empty → Wrote to text mid → IsWithinRoom from → HasRoom mid from.datagrams
room_behind from to mid text cleared wrote room =
    let bytes : to.datagram_spare ≡ 262144 = ap (λ (o : Output). o.datagram_spare) cleared in
    let count : to.count_spare ≡ 256 = ap (λ (o : Output). o.count_spare) cleared in
    record {
      bytes = omega (arith, bytes, wrote.datagram_spare, room.bytes);
      count = omega (arith, count, wrote.count_spare, room.count);
    }

-- a reply and datagrams that stand behind nothing are all that there is
pub copied_all : (from old mid to : Output) (text : List ℕ) (place : ℕ) → old ≡ empty → text ≡ from.reply → Wrote old text mid → length from.datagrams ≤ place
    → SendsAll mid (take place from.datagrams) to → IsWithinRoom from → to ≡ from
copied_all from old mid to text place cleared same wrote all sent room =
    let whole : take place from.datagrams ≡ from.datagrams = take_all place from.datagrams all in
    let P : List Datagram → Type 0 = λ ds. SendsAll mid ds to in
    let sent = subst P whole sent in
    let was_reply : old.reply ≡ [] = ap (λ (o : Output). o.reply) cleared in
    let was_none : old.datagrams ≡ [] = ap (λ (o : Output). o.datagrams) cleared in
    let was_reply_spare : old.reply_spare ≡ 131072 = ap (λ (o : Output). o.reply_spare) cleared in
    let was_bytes : old.datagram_spare ≡ 262144 = ap (λ (o : Output). o.datagram_spare) cleared in
    let was_count : old.count_spare ≡ 256 = ap (λ (o : Output). o.count_spare) cleared in
    let count : length text ≡ length from.reply = ap length same in
    let reply : to.reply ≡ from.reply =
    sent.reply ∙ wrote.reply ∙ ap (λ (bs : List ℕ). bs ++ text) was_reply ∙ same in
    let datagrams : to.datagrams ≡ from.datagrams =
    sent.datagrams ∙ ap (λ (ds : List Datagram). ds ++ from.datagrams) (wrote.datagrams ∙ was_none) in
    let reply_spare : to.reply_spare ≡ from.reply_spare = omega (arith, sent.reply_spare, wrote.reply_spare, room.reply, was_reply_spare, count) in
    let datagram_spare : to.datagram_spare ≡ from.datagram_spare = omega (arith, sent.datagram_spare, wrote.datagram_spare, room.bytes, was_bytes) in
    let count_spare : to.count_spare ≡ from.count_spare = omega (arith, sent.count_spare, wrote.count_spare, room.count, was_count) in
    λ i. record {
      reply = reply i;
      datagrams = datagrams i;
      reply_spare = reply_spare i;
      datagram_spare = datagram_spare i;
      count_spare = count_spare i;
    }
