-- The packets of a burst, and the answers to them.
use Rattle.std.specs.Prelude.{◌≡◌, ◌==◌, ◌&&◌, ℕ, Bool, true, false, List, [], ◌∷◌, ◌++◌, flat_map, Option, Some, None, if◌then◌else◌, refl}
use Rattle.std.proofs.Common.{sym, append-nil}
use Rattle.satip_base.specs.Output.{Datagram, Output}
use Rattle.satip_base.specs.declared.entry.Taken.{Taken}
use Rattle.satip_plain.specs.declared.answers.Answer.{Answer}
use Rattle.satip_plain.specs.declared.answers.Work.{Work}
use Rattle.satip_plain.specs.declared.answers.Work.TheVariants.{Tune, Nothing, Stopping}
use Rattle.satip_plain.specs.declared.events.Event.{Event}
use Rattle.satip_plain.specs.declared.events.Event.TheVariants.{Packet}
use Rattle.satip_pump.specs.Buffers.{Buffered}
use Rattle.satip_base.specs.Bundles.{Bundle}
use Rattle.satip_pump.specs.Bundles.{has_room}
use Rattle.satip_plain.specs.Pumping.{work_told}

-- a load: its front end and tune number, and the work that the last answer named. The packets that were taken aren't in the buffer any more; their datagrams
-- are in `datagrams`, which are those of the batch and those that were left in an output
pub record Loaded : Type 0 where
  pub front : ℕ
  pub tune : ℕ
  pub work : Work
  pub buffered : Buffered
  pub datagrams : List Datagram

-- the datagrams that were left in the last output, if they were
abbrev pub datagrams_left : Bool → Output → List Datagram
datagrams_left is_left last = if is_left then last.datagrams else []

-- whether the work is to read for this tune number
abbrev pub is_of : ℕ → Work → Bool
is_of number (Tune mux tune) = tune == number
is_of number Nothing = false
is_of number Stopping = false

-- whether the next packet may be given: the last answer named this tune number, the batch has room, and no datagrams were left in an output
abbrev pub may_give : ℕ → Work → Bundle → Bool → Bool
may_give tune work bundle none_left = is_of tune work && (has_room bundle && none_left)

-- the event of the first packet, if a packet was asked for and may be given
abbrev pub given_event : Bool → Bool → ℕ → ℕ → List (List ℕ) → Option Event
given_event true true front tune (packet ∷ packets) = Some (Packet front tune packet)
given_event _ _ front tune packets = None

-- packets were taken in order, each while the last answer named this tune number. `left` are the others, and `last` is the work of the last answer
abbrev pub Gives : ℕ → ℕ → List (List ℕ) → Work → List (Taken Event Answer Output) → List (List ℕ) → Work → Type 0
Gives front tune packets work [] left last = (left ≡ packets) × (last ≡ work)
Gives front tune packets work (t ∷ ts) left last =
    (packet : List ℕ) × (rest : List (List ℕ)) × (packets ≡ packet ∷ rest) × (t.event ≡ Packet front tune packet) × (is_of tune work ≡ true)
    × Gives front tune rest (work_told t.answer) ts left last

-- `ts` was taken of a load between two moments
pub record Took (f g : Loaded) (ts : List (Taken Event Answer Output)) : Type 0 where
  pub front : g.front ≡ f.front
  pub tune : g.tune ≡ f.tune
  pub rest : g.buffered.rest ≡ f.buffered.rest
  pub room : g.buffered.room ≡ f.buffered.room
  pub gives : Gives f.front f.tune f.buffered.packets f.work ts g.buffered.packets g.work
  pub datagrams : g.datagrams ≡ f.datagrams ++ flat_map (λ t. t.out.datagrams) ts

-- nothing was taken of a load between a moment and itself
pub took_none : (l : Loaded) → Took l l []
took_none l = record { front = refl; tune = refl; rest = refl; room = refl; gives = (refl, refl); datagrams = sym (append-nil l.datagrams) }
