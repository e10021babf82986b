-- A flow stays sound when its subscribers change.
use Rattle.std.proofs.Common.{ℕ, ◌≡◌, ◌+◌, ◌<◌, ◌≤◌, Bool, true, false, cond, List, [], ◌∷◌, length, map, Option, None, refl, sym, ap, subst, ◌∙◌, arith, vec_len, vec_capacity}
use Rattle.std.proofs.lemmas.List.Sums.{sum_by-cons, count_by-le-length}
use Rattle.std.specs.List.{All, count_by, list_any}
use Rattle.circular_buffer.specs.Buffer.{buffer}
use Rattle.satip_base.specs.declared.network.Address.{Address}
use Rattle.satip_pids.specs.Pids.{Pids, Every}
use Rattle.satip_flow.specs.declared.flow.Flow.TheInside.{Inside}
use Rattle.satip_flow.specs.Subscription.{Subscription, Feed, ToAddress, ToQueue, fed, has_slot, is_of, selects, given, flushed, readdressed, pulled, changed}
use Rattle.satip_flow.specs.Subscriptions.{put, SlotsApart}
use Rattle.satip_flow.specs.Queues.{has_queue}
use Rattle.satip_flow.specs.Rooms.{IsSound}
use Rattle.satip_flow.specs.Rows.{IsMarked, IsPlaced}
use Rattle.satip_flow.proofs.Slots.{apart-map, apart-put, fewer_than_64}
use Rattle.satip_flow.proofs.Order.{count-put}
use Rattle.satip_flow.proofs.RowLemmas.{placed_map}
use Rattle.satip_flow.proofs.Marking.{KeepsChoice, marked_map}

-- a subscriber that stands for those that aren't there
pub someone : Subscription
someone = record { place = record { slot = 0; stream = 0; count = 0 }; front = None; pids = Every; feed = ToQueue [] }

-- what a change of some keeps
keeps_where : {Y : Type 0} (q : Subscription → Y) (p : Subscription → Bool) (f : Subscription → Subscription)
    → ((s : Subscription) → q (f s) ≡ q s) → (s : Subscription) → q (cond (p s) (f s) s) ≡ q s
keeps_where q p f keeps s = each (p s)
  where
    each : (t : Bool) → q (cond t (f s) s) ≡ q s
    each true = keeps s
    each false = refl

-- a change that keeps the place, and whether there is a queue
pub record KeepsSeat (f : Subscription → Subscription) : Type 0 where
  pub place : (s : Subscription) → (f s).place ≡ s.place
  pub queue : (s : Subscription) → has_queue (f s) ≡ has_queue s

pub keeps_some : (p : Subscription → Bool) (f : Subscription → Subscription) → KeepsSeat f → KeepsSeat (λ s. cond (p s) (f s) s)
keeps_some p f k = record {
  place = keeps_where (λ s. s.place) p f k.place;
  queue = keeps_where has_queue p f k.queue;
}

pub flushed_keeps : KeepsSeat flushed
flushed_keeps = record { place = λ s. refl; queue = λ s. each s.feed }
  where
    each : (feed : Feed) → has_queue (flushed (record someone { feed = feed })) ≡ has_queue (record someone { feed = feed })
    each (ToAddress to p) = refl
    each (ToQueue packets) = refl

pub readdressed_keeps : (to : Address) → KeepsSeat (readdressed to)
readdressed_keeps to = record { place = λ s. refl; queue = λ s. each s.feed }
  where
    each : (feed : Feed) → has_queue (readdressed to (record someone { feed = feed })) ≡ has_queue (record someone { feed = feed })
    each (ToAddress old p) = refl
    each (ToQueue packets) = refl

pub pulled_keeps : KeepsSeat pulled
pulled_keeps = record { place = λ s. refl; queue = λ s. each s.feed }
  where
    each : (feed : Feed) → has_queue (pulled (record someone { feed = feed })) ≡ has_queue (record someone { feed = feed })
    each (ToAddress to p) = refl
    each (ToQueue packets) = refl

fed_keeps : (packet : List ℕ) → KeepsSeat (λ s. record s { feed = fed packet s.feed })
fed_keeps packet = record { place = λ s. refl; queue = λ s. each s.feed }
  where
    each : (feed : Feed) → has_queue (record someone { feed = fed packet feed }) ≡ has_queue (record someone { feed = feed })
    each (ToAddress to p) = refl
    each (ToQueue packets) = refl

pub given_keeps : (front : ℕ) (packet : List ℕ) → KeepsSeat (given front packet)
given_keeps front packet = keeps_some (selects front packet) (λ s. record s { feed = fed packet s.feed }) (fed_keeps packet)

pub changed_keeps : (stream : ℕ) (front : Option ℕ) (pids : Pids) → KeepsSeat (changed stream front pids)
changed_keeps stream front pids =
    keeps_some (is_of stream) (λ s. record s { front = front; pids = pids }) (record { place = λ s. refl; queue = λ s. refl })

-- 1 where a test passes
abbrev pub mark : Bool → ℕ
mark t = cond t 1 0

count-map : (p : Subscription → Bool) (f : Subscription → Subscription) → ((s : Subscription) → p (f s) ≡ p s) → (xs : List Subscription)
    → count_by p (map f xs) ≡ count_by p xs
count-map p f keeps [] = refl
count-map p f keeps (x ∷ xs) =
    let same : mark (p (f x)) ≡ mark (p x) = ap mark (keeps x) in
    omega (arith, same, count-map p f keeps xs, sum_by-cons (λ y. cond (p y) 1 0) (f x) (map f xs), sum_by-cons (λ y. cond (p y) 1 0) x xs)

-- a change that keeps the front end and the PIDs
pub feed_choice : (feed : Subscription → Feed) → KeepsChoice (λ s. record s { feed = feed s })
feed_choice feed = record { place = λ s. refl; front = λ s. refl; pids = λ s. refl }

pub some_choice : (p : Subscription → Bool) (f : Subscription → Subscription) → KeepsChoice f → KeepsChoice (λ s. cond (p s) (f s) s)
some_choice p f k = record {
  place = keeps_where (λ s. s.place) p f k.place;
  front = keeps_where (λ s. s.front) p f k.front;
  pids = keeps_where (λ s. s.pids) p f k.pids;
}

pub given_choice : (front : ℕ) (packet : List ℕ) → KeepsChoice (given front packet)
given_choice front packet = some_choice (selects front packet) (λ s. record s { feed = fed packet s.feed }) (feed_choice (λ s. fed packet s.feed))

pub sound_changed : (f g : Inside) (h : Subscription → Subscription) → KeepsSeat h → g.subscribers.items ≡ map h f.subscribers.items
    → vec_capacity g.subscribers ≡ vec_capacity f.subscribers → g.spare_queues ≡ f.spare_queues → g.places ≡ f.places → vec_len g.rows ≡ 131072
    → IsMarked g.rows.items g.alike g.subscribers.items → IsSound f → IsSound g
sound_changed f g h keeps items capacity spare places row_count marked sound =
    let count = ap (λ xs. count_by has_queue xs) items ∙ count-map has_queue h keeps.queue f.subscribers.items in
    record {
      apart = subst (λ xs. SlotsApart xs) (sym items) (apart-map h keeps.place f.subscribers.items sound.apart);
      room = omega (arith, sound.room, capacity);
      queue_room = subst (λ queues. 64 ≤ vec_capacity queues) (sym spare) sound.queue_room;
      queues = subst (λ queues. All (λ queue. queue ≡ buffer [] 4096) queues.items) (sym spare) sound.queues;
      all_queues = ap (λ queues. vec_len queues + count_by has_queue g.subscribers.items) spare
          ∙ ap (λ n. vec_len f.spare_queues + n) count ∙ sound.all_queues;
      row_count = row_count;
      place_count = ap (λ ps. length ps) places ∙ sound.place_count;
      marked = marked;
      placed = subst (λ ps. IsPlaced ps g.subscribers.items) (sym places)
          (subst (λ xs. IsPlaced f.places xs) (sym items) (placed_map f.places h keeps.place f.subscribers.items sound.placed));
    }

-- front ends and PIDs stay
pub sound_kept : (f g : Inside) (h : Subscription → Subscription) → KeepsSeat h → KeepsChoice h → g.subscribers.items ≡ map h f.subscribers.items
    → vec_capacity g.subscribers ≡ vec_capacity f.subscribers → g.spare_queues ≡ f.spare_queues → g.places ≡ f.places → g.rows ≡ f.rows
    → g.alike ≡ f.alike → IsSound f → IsSound g
sound_kept f g h keeps choice items capacity spare places rows known sound =
    sound_changed f g h keeps items capacity spare places (ap (λ rs. vec_len rs) rows ∙ sound.row_count)
    (subst (λ rs. IsMarked rs.items g.alike g.subscribers.items) (sym rows)
    (subst (λ n. IsMarked f.rows.items n g.subscribers.items) (sym known)
    (subst (λ xs. IsMarked f.rows.items f.alike xs) (sym items) (marked_map f.rows.items f.alike h f.subscribers.items choice sound.marked))))
    sound

-- one more subscriber, with a free slot
pub sound_put : (f g : Inside) (s : Subscription) → s.place.slot < 64 → list_any (has_slot s.place.slot) f.subscribers.items ≡ false
    → g.subscribers.items ≡ put s f.subscribers.items → vec_capacity f.subscribers ≤ vec_capacity g.subscribers
    → vec_capacity g.spare_queues ≡ vec_capacity f.spare_queues → All (λ queue. queue ≡ buffer [] 4096) g.spare_queues.items
    → vec_len g.spare_queues + cond (has_queue s) 1 0 ≡ vec_len f.spare_queues → vec_len g.rows ≡ 131072 → length g.places ≡ 64
    → IsMarked g.rows.items g.alike (put s f.subscribers.items) → IsPlaced g.places g.subscribers.items → IsSound f → IsSound g
sound_put f g s inside free items capacity queue_capacity queues spare row_count place_count marked placed sound = record {
  apart = subst (λ xs. SlotsApart xs) (sym items) (apart-put s f.subscribers.items inside free sound.apart);
  room = omega (arith, sound.room, capacity);
  queue_room = omega (arith, sound.queue_room, queue_capacity);
  queues = queues;
  all_queues = ap (λ xs. vec_len g.spare_queues + count_by has_queue xs) items
      ∙ omega (arith, spare, sound.all_queues, count-put has_queue s f.subscribers.items);
  row_count = row_count;
  place_count = place_count;
  marked = subst (λ xs. IsMarked g.rows.items g.alike xs) (sym items) marked;
  placed = placed;
}

-- a queue is left for one with a free slot
pub queue_left : (f : Inside) (slot : ℕ) → slot < 64 → list_any (has_slot slot) f.subscribers.items ≡ false → IsSound f → 0 < vec_len f.spare_queues
queue_left f slot inside free sound =
    omega (arith, sound.all_queues, count_by-le-length has_queue f.subscribers.items, fewer_than_64 slot f.subscribers.items sound.apart inside free)
