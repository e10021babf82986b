-- The entries of a history as turns of one lane: datagrams that come, and drains that take the first frames.
use Rattle.std.proofs.Common.{◌≡◌, ◌∙◌, ℕ, ◌-◌, ◌==◌, Bool, true, false, cond, ◌&&◌, List, [], ◌∷◌, ◌++◌, append_assoc, refl, sym, ap}
use Rattle.satip_base.specs.Output.{Datagram}
use Rattle.satip_base.specs.Lists.{Each}
use Rattle.satip_interleave.specs.declared.lane.Lane.{Lane}
use Rattle.satip_interleave.specs.Frames.{frame}
use Rattle.satip_interleave.specs.Lanes.{is_channel_port}
use Rattle.satip_interleave.specs.Turns.{Turn, Comes, Leaves, all_coming, all_leaving, coming, lane_after, leaving, turned_lane}
use Rattle.satip_interleave.specs.declared.events.TunnelEvent.{TunnelEvent}
use Rattle.satip_interleave.specs.declared.events.TunnelEvent.TheVariants.{Inner, Enter, Drain, Leave}
use Rattle.satip_interleave.specs.Histories.{TunnelItem}
use Rattle.satip_tunnel_laws.specs.LaneFrames.{drains, enters, frames_by, frames_to, frames_until, lane, leaves}

-- the datagrams that come to the lane
abbrev pub comings : ℕ → List Datagram → List Turn
comings x [] = []
comings x (d ∷ ds) = cond (d.to.ip == x) (Comes d.to.port d.bytes ∷ comings x ds) (comings x ds)

abbrev pub turns_by : ℕ → TunnelEvent → List Datagram → List Turn
turns_by x (Inner event) sent = comings x sent
turns_by x Enter sent = []
turns_by x (Drain number) sent = cond (number == x) (Leaves ∷ []) []
turns_by x (Leave number) sent = []

-- the turns up to where the lane is given up, and those from where it is given on
abbrev pub turns : List TunnelItem → ℕ → List Turn
turns [] x = []
turns (t ∷ ts) x = cond (leaves x t.event t.answer) [] (turns_by x t.event t.out.datagrams ++ turns ts x)

abbrev pub turns_in : List TunnelItem → ℕ → List Turn
turns_in [] x = []
turns_in (t ∷ ts) x = cond (enters x t.event t.answer) (turns ts x) (turns_in ts x)

pub all_coming-append : (a b : List Turn) → all_coming (a ++ b) ≡ all_coming a ++ all_coming b
all_coming-append [] b = refl
all_coming-append (t ∷ ts) b =
    ap (λ rest. coming t ++ rest) (all_coming-append ts b) ∙ sym (append_assoc (coming t) (all_coming ts) (all_coming b))

pub all_leaving-append : (l : Lane) (a b : List Turn) → all_leaving l (a ++ b) ≡ all_leaving l a ++ all_leaving (lane_after l a) b
all_leaving-append l [] b = refl
all_leaving-append l (t ∷ ts) b =
    ap (λ rest. leaving t l ++ rest) (all_leaving-append (turned_lane t l) ts b)
    ∙ sym (append_assoc (leaving t l) (all_leaving (turned_lane t l) ts) (all_leaving (lane_after (turned_lane t l) ts) b))

pub lane_after-append : (l : Lane) (a b : List Turn) → lane_after l (a ++ b) ≡ lane_after (lane_after l a) b
lane_after-append l [] b = refl
lane_after-append l (t ∷ ts) b = lane_after-append (turned_lane t l) ts b

-- the frames to the lane are those that come in its turns
came_to : (x : ℕ) (sent : List Datagram) → frames_to x sent ≡ all_coming (comings x sent)
came_to x [] = refl
came_to x (d ∷ ds) = each (d.to.ip == x) (came_to x ds)
  where
    each : (b : Bool) → frames_to x ds ≡ all_coming (comings x ds)
        → cond (b && is_channel_port d.to.port) (frame (d.to.port - 1) d.bytes ∷ []) [] ++ frames_to x ds
        ≡ all_coming (cond b (Comes d.to.port d.bytes ∷ comings x ds) (comings x ds))
    each true rest = ap (λ more. cond (is_channel_port d.to.port) (frame (d.to.port - 1) d.bytes ∷ []) [] ++ more) rest
    each false rest = rest

none_come : (b : Bool) → [] ≡ all_coming (cond b (Leaves ∷ []) [])
none_come true = refl
none_come false = refl

came_by : (x : ℕ) (event : TunnelEvent) (sent : List Datagram) → frames_by x event sent ≡ all_coming (turns_by x event sent)
came_by x (Inner event) sent = came_to x sent
came_by x Enter sent = refl
came_by x (Drain number) sent = none_come (number == x)
came_by x (Leave number) sent = refl

came_until : (x : ℕ) (ts : List TunnelItem) → frames_until ts x ≡ all_coming (turns ts x)
came_until x [] = refl
came_until x (t ∷ ts) = each (leaves x t.event t.answer) (came_until x ts)
  where
    each : (b : Bool) → frames_until ts x ≡ all_coming (turns ts x)
        → cond b [] (frames_by x t.event t.out.datagrams ++ frames_until ts x) ≡ all_coming (cond b [] (turns_by x t.event t.out.datagrams ++ turns ts x))
    each true rest = refl
    each false rest =
        ap (λ front. front ++ frames_until ts x) (came_by x t.event t.out.datagrams)
        ∙ ap (λ back. all_coming (turns_by x t.event t.out.datagrams) ++ back) rest
        ∙ sym (all_coming-append (turns_by x t.event t.out.datagrams) (turns ts x))

pub came : (x : ℕ) (h : List TunnelItem) → lane h x ≡ all_coming (turns_in h x)
came x [] = refl
came x (t ∷ ts) = each (enters x t.event t.answer) (came x ts)
  where
    each : (b : Bool) → lane ts x ≡ all_coming (turns_in ts x)
        → cond b (frames_until ts x) (lane ts x) ≡ all_coming (cond b (turns ts x) (turns_in ts x))
    each true rest = came_until x ts
    each false rest = rest

-- nothing leaves where no drain is
pub none_leave : (x : ℕ) (sent : List Datagram) (l : Lane) → all_leaving l (comings x sent) ≡ []
none_leave x [] l = refl
none_leave x (d ∷ ds) l = each (d.to.ip == x) (λ (m : Lane). none_leave x ds m)
  where
    each : (b : Bool) → ((m : Lane) → all_leaving m (comings x ds) ≡ []) → all_leaving l (cond b (Comes d.to.port d.bytes ∷ comings x ds) (comings x ds)) ≡ []
    each true rest = rest (turned_lane (Comes d.to.port d.bytes) l)
    each false rest = rest l

none_by : (x : ℕ) (event : TunnelEvent) (sent : List Datagram) (l : Lane) → drains x event ≡ false → all_leaving l (turns_by x event sent) ≡ []
none_by x (Inner event) sent l none = none_leave x sent l
none_by x Enter sent l none = refl
none_by x (Drain number) sent l none = ap (λ b. all_leaving l (cond b (Leaves ∷ []) [])) none
none_by x (Leave number) sent l none = refl

pub none_until : (x : ℕ) (ts : List TunnelItem) (l : Lane) → Each (λ (t : TunnelItem). drains x t.event ≡ false) ts → all_leaving l (turns ts x) ≡ []
none_until x [] l none = refl
none_until x (t ∷ ts) l none = each (leaves x t.event t.answer) (λ (m : Lane). none_until x ts m none.1)
  where
    each : (b : Bool) → ((m : Lane) → all_leaving m (turns ts x) ≡ []) → all_leaving l (cond b [] (turns_by x t.event t.out.datagrams ++ turns ts x)) ≡ []
    each true rest = refl
    each false rest =
        all_leaving-append l (turns_by x t.event t.out.datagrams) (turns ts x)
        ∙ ap (λ front. front ++ all_leaving (lane_after l (turns_by x t.event t.out.datagrams)) (turns ts x)) (none_by x t.event t.out.datagrams l none.0)
        ∙ rest (lane_after l (turns_by x t.event t.out.datagrams))
