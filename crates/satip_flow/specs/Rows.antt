-- Words that mark the slots whose subscribers select a PID at a front end.
use Rattle.std.specs.Prelude.{◌≡◌, ℕ, zero, suc, ◌+◌, ◌*◌, ◌<◌, ◌≤◌, ◌&&◌, ◌==◌, Bool, true, false, List, length, slice_index_or, Option, Some, None, if◌then◌else◌}
use Rattle.std.specs.Int.{bit_at, bit_not}
use Rattle.std.specs.Int.Bits.{bit_and, bit_or}
use Rattle.std.specs.Int.{w64}
use Rattle.satip_pids.specs.Pids.{Pids, has_pid}
use Rattle.satip_flow.specs.Subscription.{Subscription, is_at, is_of, takes}
use Rattle.satip_flow.specs.Subscriptions.{IsFrontOrNone, of_slot}

-- 1 if a test passes, else 0
abbrev pub bit : Bool → ℕ
bit t = if t then 1 else 0

-- the word of a front end and a PID
abbrev pub marks : List ℕ → ℕ → ℕ → ℕ
marks rows zero pid = 0
marks rows (suc front) pid = slice_index_or rows (8192 * front + pid) 0

-- whether there is a subscriber, and it passes a test
abbrev pub holds_of : (Subscription → Bool) → Option Subscription → Bool
holds_of test None = false
holds_of test (Some s) = test s

-- a slot is marked exactly where its subscriber selects
abbrev pub IsExact : List ℕ → List Subscription → Type 0
IsExact rows xs = (front pid slot : ℕ) → pid < 8192 → slot < 64
    → bit_at (marks rows front pid) slot ≡ bit (holds_of (takes front pid) (of_slot slot xs))

-- each subscriber's front end is none or one of 16
abbrev pub FrontsWithin : List Subscription → Type 0
FrontsWithin xs = (slot : ℕ) (s : Subscription) → of_slot slot xs ≡ Some s → IsFrontOrNone s.front

-- two sets select the same PIDs
abbrev pub SamePids : Pids → Pids → Type 0
SamePids a b = (pid : ℕ) → pid < 8192 → has_pid a pid ≡ has_pid b pid

-- of the slots in `alike`, those of one stream have the same front end and PIDs
abbrev pub IsAlike : ℕ → List Subscription → Type 0
IsAlike alike xs = (j k : ℕ) (s t : Subscription) → j < 64 → k < 64 → of_slot j xs ≡ Some s → of_slot k xs ≡ Some t
    → s.place.stream ≡ t.place.stream → bit_at alike j ≡ 1 → bit_at alike k ≡ 1 → (s.front ≡ t.front) × SamePids s.pids t.pids

-- those of a stream have this front end and these PIDs
abbrev pub IsLike : ℕ → List Subscription → ℕ → Option ℕ → Pids → Type 0
IsLike alike xs stream front pids = (slot : ℕ) (s : Subscription) → slot < 64 → of_slot slot xs ≡ Some s → s.place.stream ≡ stream
    → bit_at alike slot ≡ 1 → (s.front ≡ front) × SamePids s.pids pids

-- the words mark exactly what is selected
pub record IsMarked (rows : List ℕ) (known : ℕ) (xs : List Subscription) : Type 0 where
  pub fronts : FrontsWithin xs
  pub exact : IsExact rows xs
  pub alike : IsAlike known xs

-- the slots of a stream's subscribers
abbrev pub AreSlotsOf : ℕ → ℕ → List Subscription → Type 0
AreSlotsOf slots stream xs = (slot : ℕ) → slot < 64 → bit_at slots slot ≡ bit (holds_of (is_of stream) (of_slot slot xs))

-- some of the slots `left`, a slot among them; if there are others, all are in `known`
pub record IsGroup (same left known slot : ℕ) : Type 0 where
  pub own : bit_at same slot ≡ 1
  pub among : (k : ℕ) → k < 64 → bit_at same k ≡ 1 → bit_at left k ≡ 1
  pub others : (k : ℕ) → k < 64 → bit_at same k ≡ 1 → (k ≡ slot → ⊥) → (bit_at known k ≡ 1) × (bit_at known slot ≡ 1)

-- a word with the bits of these slots set or cleared
abbrev pub with_slots : ℕ → Bool → ℕ → ℕ
with_slots slots is word = if is then bit_or word slots else bit_and word (bit_not w64 slots)

-- the same, if the bits change
abbrev pub rewritten : ℕ → ℕ → ℕ → ℕ → ℕ
rewritten slots was is word = if was == is then word else with_slots slots (is == 1) word

-- the first words from `start` on are written for other bits, and no others
pub record IsRewritten (count start slots : ℕ) (was is : ℕ → ℕ) (old new : List ℕ) : Type 0 where
  pub words : (i : ℕ) → i < count → slice_index_or new (start + i) 0 ≡ rewritten slots (was i) (is i) (slice_index_or old (start + i) 0)
  pub before : (at : ℕ) → at < start → slice_index_or new at 0 ≡ slice_index_or old at 0
  pub behind : (at : ℕ) → start + count ≤ at → slice_index_or new at 0 ≡ slice_index_or old at 0

-- these slots are marked for a front end and a set
abbrev pub Shows : List ℕ → ℕ → Option ℕ → Pids → Type 0
Shows rows slots own pids = (front pid slot : ℕ) → pid < 8192 → slot < 64 → bit_at slots slot ≡ 1
    → bit_at (marks rows front pid) slot ≡ bit (is_at front own && has_pid pids pid)

-- the marks of the other slots are unchanged
abbrev pub KeepsSlots : ℕ → List ℕ → List ℕ → Type 0
KeepsSlots slots old new = (front pid slot : ℕ) → pid < 8192 → slot < 64 → bit_at slots slot ≡ 0
    → bit_at (marks new front pid) slot ≡ bit_at (marks old front pid) slot

-- no slot is marked
abbrev pub NoneMarked : List ℕ → Type 0
NoneMarked rows = (at slot : ℕ) → at < length rows → slot < 64 → bit_at (slice_index_or rows at 0) slot ≡ 0

-- each subscriber's place in the list is at its slot
abbrev pub IsPlaced : List ℕ → List Subscription → Type 0
IsPlaced places subscribers = (at : ℕ) (d : Subscription) → at < length subscribers
    → slice_index_or places (slice_index_or subscribers at d).place.slot 0 ≡ at
