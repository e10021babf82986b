-- Counts that grow.
use Rattle.std.proofs.Common.{◌≡◌, ℕ, ◌+◌, ◌-◌, ◌/◌, ◌≤◌, Bool, true, false, cond, List, [], ◌∷◌, ◌++◌, length, take, refl, sym, ◌∙◌, ap, subst, arith, Option, Some, None, IsSomeAnd, slice_get}
use Rattle.std.specs.Prelude.{sum_by, count_by}
use Rattle.std.proofs.lemmas.List.{take_more}
use Rattle.std.proofs.lemmas.List.Sums.{sum_by-cons, sum_by-append, sum_by-take-le, count_by-le-length}
use Rattle.std.proofs.lemmas.Option.{slice_get_within, get_or_from_slice_get}
use Rattle.satip_base.specs.Output.{Datagram, datagram_bytes}
use Rattle.satip_plain.specs.declared.answers.Answer.{Answer}
use Rattle.satip_plain.specs.declared.events.Event.{Event}
use Rattle.satip_plain.specs.Histories.{Item}
use Rattle.satip_plain.specs.Steps.{Outcome}
use Rattle.satip_script.specs.Runs.{item_of}
use Rattle.satip_stress.specs.declared.counting.Counts.{Counts}
use Rattle.satip_stress.specs.Counting.{counts, is_media, is_refusal, is_reply, is_report, packets_in}
use Rattle.satip_stress.specs.Counted.{with_answer, with_datagrams, with_entry, IsBounded, HasRoom, HasDatagramRoom}
use Rattle.satip_stress.specs.Running.{plus, with_outcome}

of_six : ℕ → ℕ → ℕ → ℕ → ℕ → ℕ → Counts
of_six e r f d p s = record { events = e; replies = r; refused = f; datagrams = d; payload = p; reports = s }

pub same_counts : (a b : Counts) → a.events ≡ b.events → a.replies ≡ b.replies → a.refused ≡ b.refused → a.datagrams ≡ b.datagrams
    → a.payload ≡ b.payload → a.reports ≡ b.reports → a ≡ b
unfolding of_six
same_counts a b e r f d p s =
    ap (λ n. of_six n a.replies a.refused a.datagrams a.payload a.reports) e
    ∙ ap (λ n. of_six b.events n a.refused a.datagrams a.payload a.reports) r
    ∙ ap (λ n. of_six b.events b.replies n a.datagrams a.payload a.reports) f
    ∙ ap (λ n. of_six b.events b.replies b.refused n a.payload a.reports) d
    ∙ ap (λ n. of_six b.events b.replies b.refused b.datagrams n a.reports) p
    ∙ ap (λ n. of_six b.events b.replies b.refused b.datagrams b.payload n) s

-- ---- the datagrams of an entry

pub counted_none : (c : Counts) → c ≡ with_datagrams c []
counted_none c = same_counts c (with_datagrams c []) refl refl refl (omega arith) (omega arith) (omega arith)

counted_then : (c : Counts) (ds es : List Datagram) → with_datagrams (with_datagrams c ds) es ≡ with_datagrams c (ds ++ es)
counted_then c ds es =
    same_counts (with_datagrams (with_datagrams c ds) es) (with_datagrams c (ds ++ es)) refl refl refl
    (omega (arith, sum_by-append (λ (d : Datagram). cond (is_media d) 1 0) ds es))
    (omega (arith, sum_by-append packets_in ds es))
    (omega (arith, sum_by-append (λ (d : Datagram). cond (is_report d) 1 0) ds es))

-- one datagram more of a list
pub counted_more : (a b c : Counts) (all : List Datagram) (place : ℕ) → b ≡ with_datagrams a (take place all)
    → IsSomeAnd (slice_get all place) (λ d. c ≡ with_datagrams b (d ∷ [])) → c ≡ with_datagrams a (take (place + 1) all)
counted_more a b c all place before next = one_more (slice_get all place) refl next
  where
    one_more : (found : Option Datagram) → slice_get all place ≡ found → IsSomeAnd found (λ d. c ≡ with_datagrams b (d ∷ []))
        → c ≡ with_datagrams a (take (place + 1) all)
    one_more None is next = absurd next
    one_more (Some d) is next =
        let shown : take (place + 1) all ≡ take place all ++ d ∷ [] =
        take_more all place d (slice_get_within all place d is)
        ∙ ap (λ (x : Datagram). take place all ++ x ∷ []) (get_or_from_slice_get all place d d is) in
        next ∙ ap (λ (x : Counts). with_datagrams x (d ∷ [])) before ∙ counted_then a (take place all) (d ∷ [])
        ∙ ap (λ (ds : List Datagram). with_datagrams a ds) (sym shown)

-- a datagram has no more packets than bytes
packets_by : (media : Bool) (n : ℕ) → cond media ((n - 12) / 188) 0 ≤ n
packets_by true n = omega arith
packets_by false n = omega arith

packets_few : (ds : List Datagram) → sum_by packets_in ds ≤ datagram_bytes ds
packets_few [] = omega arith
packets_few (d ∷ ds) =
    let one = packets_by (is_media d) (length d.bytes) in
    let rest = packets_few ds in
    let some = sum_by-cons packets_in d ds in
    let all = sum_by-cons (λ (x : Datagram). length x.bytes) d ds in
    omega (arith, one, rest, some, all)

-- what the first datagrams of a list add
pub record AddsFew (ds : List Datagram) (place : ℕ) : Type 0 where
  pub datagrams : count_by is_media (take place ds) ≤ length ds
  pub payload : sum_by packets_in (take place ds) ≤ datagram_bytes ds
  pub reports : count_by is_report (take place ds) ≤ length ds

pub adds_few : (ds : List Datagram) (place : ℕ) → AddsFew ds place
adds_few ds place = record {
  datagrams = omega (arith, sum_by-take-le (λ (d : Datagram). cond (is_media d) 1 0) ds place, count_by-le-length is_media ds);
  payload = omega (arith, sum_by-take-le packets_in ds place, packets_few ds);
  reports = omega (arith, sum_by-take-le (λ (d : Datagram). cond (is_report d) 1 0) ds place, count_by-le-length is_report ds);
}

-- the next datagram can be counted
pub datagram_room : (c now : Counts) (answer : Answer) (ds : List Datagram) (place : ℕ) → HasRoom c → length ds ≤ 256 → datagram_bytes ds ≤ 262144
    → now ≡ with_datagrams (with_answer c answer) (take place ds) → HasDatagramRoom now
datagram_room c now answer ds place room count bytes is =
    let few = adds_few ds place in
    subst HasDatagramRoom (sym is) (record {
      datagrams = omega (arith, few.datagrams, room.events, room.bounded.datagrams, count);
      payload = omega (arith, few.payload, room.events, room.bounded.payload, bytes);
      reports = omega (arith, few.reports, room.events, room.bounded.reports, count);
    })

cond_few : (b : Bool) → cond b 1 0 ≤ 1
cond_few true = omega arith
cond_few false = omega arith

-- an entry adds no more than it can
pub entry_bounded : (c now : Counts) (answer : Answer) (ds : List Datagram) → HasRoom c → length ds ≤ 256 → datagram_bytes ds ≤ 262144
    → now ≡ with_entry c answer ds → IsBounded now
entry_bounded c now answer ds room count bytes is =
    let media = count_by-le-length is_media ds in
    let reports = count_by-le-length is_report ds in
    let packets = packets_few ds in
    let reply = cond_few (is_reply answer) in
    let refusal = cond_few (is_refusal answer) in
    let b = room.bounded in
    subst IsBounded (sym is) (record {
      replies = omega (arith, reply, b.replies);
      refused = omega (arith, refusal, b.refused);
      datagrams = omega (arith, media, b.datagrams, count);
      payload = omega (arith, packets, b.payload, bytes);
      reports = omega (arith, reports, b.reports, count);
    })

-- ---- the entries of a history

-- an entry in front of a history
pub plus_entry : (c : Counts) (e : Event) (o : Outcome) (h : List Item) → plus (with_outcome c o) (counts h) ≡ plus c (counts (item_of e o ∷ h))
unfolding counts
plus_entry c e o h =
    let x : Item = item_of e o in
    same_counts (plus (with_outcome c o) (counts h)) (plus c (counts (x ∷ h)))
    (omega arith)
    (omega (arith, sum_by-cons (λ (i : Item). cond (is_reply i.answer) 1 0) x h))
    (omega (arith, sum_by-cons (λ (i : Item). cond (is_refusal i.answer) 1 0) x h))
    (omega (arith, sum_by-cons (λ (i : Item). count_by is_media i.out.datagrams) x h))
    (omega (arith, sum_by-cons (λ (i : Item). sum_by packets_in i.out.datagrams) x h))
    (omega (arith, sum_by-cons (λ (i : Item). count_by is_report i.out.datagrams) x h))

-- none in front, and none behind
pub plus_before : (c : Counts) → plus (record { events = 0; replies = 0; refused = 0; datagrams = 0; payload = 0; reports = 0 }) c ≡ c
plus_before c = same_counts _ c (omega arith) (omega arith) (omega arith) (omega arith) (omega arith) (omega arith)

pub plus_nothing : (c : Counts) → plus c (counts []) ≡ c
unfolding counts
plus_nothing c = same_counts (plus c (counts [])) c (omega arith) (omega arith) (omega arith) (omega arith) (omega arith) (omega arith)
