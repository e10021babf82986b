-- What drains give is whole frames.
use Rattle.std.proofs.Common.{◌≡◌, ℕ, ◌+◌, ◌-◌, ◌==◌, ◌&&◌, leb, not, Bool, true, false, cond, List, [], ◌∷◌, ◌++◌, length, Some, refl, sym}
use Rattle.std.specs.List.{concat}
use Rattle.satip_base.specs.Output.{Datagram}
use Rattle.satip_base.specs.History.{kept_if, own_of}
use Rattle.satip_base.specs.Lists.{Each}
use Rattle.satip_base.proofs.Elements.{Each-append}
use Rattle.satip_interleave.specs.declared.lane.Lane.{Lane}
use Rattle.satip_interleave.specs.Frames.{first_frames, fits_behind, frame, later_frames}
use Rattle.satip_interleave.specs.Lanes.{PlainLanes, change_lane, drained_lane, fresh_lane, has_number, is_channel_port, is_full, lane_of, put_in, put_to, taken_frames, without_lane}
use Rattle.satip_tunnel_laws.specs.Pieces.{IsFrame}
use Rattle.satip_interleave.specs.declared.events.TunnelEvent.{TunnelEvent}
use Rattle.satip_interleave.specs.declared.events.TunnelEvent.TheVariants.{Inner, Enter, Drain, Leave}
use Rattle.satip_interleave.specs.Tunnels.{moved_by, put_all}
use Rattle.satip_interleave.specs.Answers.{IsAnswered}
use Rattle.satip_interleave.specs.Histories.{LanesFrom, TunnelItem, moved}
use Rattle.satip_tunnel_laws.specs.LaneFrames.{enters, frame_to, frames_by, frames_to, frames_until, lane, leaves}

abbrev pub AreFrames : List (List ℕ) → Type 0
AreFrames fs = Each IsFrame fs

framed : (channel : ℕ) (bytes : List ℕ) → IsFrame (frame channel bytes)
framed channel bytes = record { channel = channel; bytes = bytes; text_is = refl }

-- the frames of a lane

frame_to_is : (x : ℕ) (d : Datagram) → AreFrames (frame_to x d)
frame_to_is x d = by (d.to.ip == x && is_channel_port d.to.port)
  where
    by : (b : Bool) → AreFrames (cond b (frame (d.to.port - 1) d.bytes ∷ []) [])
    by true = (framed (d.to.port - 1) d.bytes, tt)
    by false = tt

frames_to_are : (x : ℕ) (ds : List Datagram) → AreFrames (frames_to x ds)
frames_to_are x [] = tt
frames_to_are x (d ∷ ds) = Each-append IsFrame (frame_to x d) (frames_to x ds) (frame_to_is x d) (frames_to_are x ds)

frames_by_are : (x : ℕ) (event : TunnelEvent) (ds : List Datagram) → AreFrames (frames_by x event ds)
frames_by_are x (Inner event) ds = frames_to_are x ds
frames_by_are x Enter ds = tt
frames_by_are x (Drain number) ds = tt
frames_by_are x (Leave number) ds = tt

until_are : (x : ℕ) (ts : List TunnelItem) → AreFrames (frames_until ts x)
until_are x [] = tt
until_are x (t ∷ ts) = by (leaves x t.event t.answer)
    (Each-append IsFrame (frames_by x t.event t.out.datagrams) (frames_until ts x) (frames_by_are x t.event t.out.datagrams) (until_are x ts))
  where
    by : (b : Bool) → AreFrames (frames_by x t.event t.out.datagrams ++ frames_until ts x)
        → AreFrames (cond b [] (frames_by x t.event t.out.datagrams ++ frames_until ts x))
    by true are = tt
    by false are = are

pub lane_are : (x : ℕ) (h : List TunnelItem) → AreFrames (lane h x)
lane_are x [] = tt
lane_are x (t ∷ ts) = by (enters x t.event t.answer) (lane_are x ts)
  where
    by : (b : Bool) → AreFrames (lane ts x) → AreFrames (cond b (frames_until ts x) (lane ts x))
    by true are = until_are x ts
    by false are = are

-- lanes that hold frames alone

abbrev pub Hold : List Lane → Type 0
Hold ls = Each (λ (l : Lane). AreFrames l.frames) ls

put_holds : (port : ℕ) (bytes : List ℕ) (l : Lane) → AreFrames l.frames → AreFrames (put_in port bytes l).frames
put_holds port bytes l are = by (is_channel_port port && not l.broken) (fits_behind l.frames bytes)
  where
    by : (t u : Bool) → AreFrames (cond t (cond u (record l { frames = l.frames ++ frame (port - 1) bytes ∷ [] }) (record l { broken = true })) l).frames
    by true true = Each-append IsFrame l.frames (frame (port - 1) bytes ∷ []) are (framed (port - 1) bytes, tt)
    by true false = are
    by false u = are

first_are : (room : ℕ) (fs : List (List ℕ)) → AreFrames fs → AreFrames (first_frames room fs)
first_are room [] are = tt
first_are room (f ∷ fs) are = by (leb (length f) room) (first_are (room - length f) fs are.1)
  where
    by : (b : Bool) → AreFrames (first_frames (room - length f) fs) → AreFrames (cond b (f ∷ first_frames (room - length f) fs) [])
    by true rest = (are.0, rest)
    by false rest = tt

later_are : (room : ℕ) (fs : List (List ℕ)) → AreFrames fs → AreFrames (later_frames room fs)
later_are room [] are = tt
later_are room (f ∷ fs) are = by (leb (length f) room) (later_are (room - length f) fs are.1)
  where
    by : (b : Bool) → AreFrames (later_frames (room - length f) fs) → AreFrames (cond b (later_frames (room - length f) fs) (f ∷ fs))
    by true rest = rest
    by false rest = are

change_holds : (n : ℕ) (change : Lane → Lane) → ((l : Lane) → AreFrames l.frames → AreFrames (change l).frames) → (ls : List Lane) → Hold ls
    → Hold (change_lane n change ls)
change_holds n change keeps [] hold = tt
change_holds n change keeps (l ∷ ls) hold = by (has_number n l) (change_holds n change keeps ls hold.1)
  where
    by : (b : Bool) → Hold (change_lane n change ls) → Hold (cond b (change l ∷ ls) (l ∷ change_lane n change ls))
    by true rest = (keeps l hold.0, hold.1)
    by false rest = (hold.0, rest)

without_holds : (n : ℕ) (ls : List Lane) → Hold ls → Hold (without_lane n ls)
without_holds n [] hold = tt
without_holds n (l ∷ ls) hold = by (has_number n l) (without_holds n ls hold.1)
  where
    by : (b : Bool) → Hold (without_lane n ls) → Hold (cond b ls (l ∷ without_lane n ls))
    by true rest = hold.1
    by false rest = (hold.0, rest)

put_all_holds : (ds : List Datagram) (lanes : PlainLanes) → Hold lanes.held → Hold (put_all ds lanes).held
put_all_holds [] lanes hold = hold
put_all_holds (d ∷ ds) lanes hold =
    put_all_holds ds (put_to d.to d.bytes lanes) (change_holds d.to.ip (put_in d.to.port d.bytes) (put_holds d.to.port d.bytes) lanes.held hold)

moved_holds : (event : TunnelEvent) (ds : List Datagram) (lanes : PlainLanes) → Hold lanes.held → Hold (moved_by event ds lanes).held
moved_holds (Inner event) ds lanes hold = put_all_holds ds lanes hold
moved_holds Enter ds lanes hold = by (is_full lanes)
  where
    by : (b : Bool) → Hold (cond b lanes (record { given = lanes.given + 1; held = lanes.held ++ fresh_lane (lanes.given + 1) ∷ [] })).held
    by true = hold
    by false = Each-append (λ (l : Lane). AreFrames l.frames) lanes.held (fresh_lane (lanes.given + 1) ∷ []) hold (tt, tt)
moved_holds (Drain number) ds lanes hold = change_holds number drained_lane (λ l are. later_are 65536 l.frames are) lanes.held hold
moved_holds (Leave number) ds lanes hold = without_holds number lanes.held hold

taken_are : (n : ℕ) (ls : List Lane) → Hold ls → AreFrames (taken_frames (lane_of n ls))
taken_are n [] hold = tt
taken_are n (l ∷ ls) hold = by (has_number n l) (taken_are n ls hold.1)
  where
    by : (b : Bool) → AreFrames (taken_frames (lane_of n ls)) → AreFrames (taken_frames (cond b (Some l) (lane_of n ls)))
    by true rest = first_are 65536 l.frames hold.0
    by false rest = rest

-- each drain of a legal history gives whole frames

pub record GivesFrames (t : TunnelItem) : Type 0 where
  pub frames : List (List ℕ)
  pub are : AreFrames frames
  pub joined : concat frames ≡ t.out.reply

abbrev pub DrainGives : TunnelEvent → TunnelItem → Type 0
DrainGives (Drain number) t = GivesFrames t
DrainGives event t = Unit {0}

one_gives : (t : TunnelItem) (event : TunnelEvent) (lanes : PlainLanes) → IsAnswered lanes event t.answer t.out → Hold lanes.held → DrainGives event t
one_gives t (Inner event) lanes answered hold = tt
one_gives t Enter lanes answered hold = tt
one_gives t (Drain number) lanes answered hold = record {
  frames = taken_frames (lane_of number lanes.held);
  are = taken_are number lanes.held hold;
  joined = sym answered.writes.written;
}
one_gives t (Leave number) lanes answered hold = tt

pub all_give : (h : List TunnelItem) (lanes : PlainLanes) → Hold lanes.held → LanesFrom lanes h → Each (λ (t : TunnelItem). DrainGives t.event t) h
all_give [] lanes hold all = tt
all_give (t ∷ ts) lanes hold all =
    (one_gives t t.event lanes all.0 hold, all_give ts (moved lanes t) (moved_holds t.event t.out.datagrams lanes hold) all.1)

pub own_each : (P : TunnelItem → Type 0) (n : ℕ) (h : List TunnelItem) → Each P h → Each P (own_of n h)
own_each P n [] all = tt
own_each P n (t ∷ ts) all = by (t.caller == n) (own_each P n ts all.1)
  where
    by : (b : Bool) → Each P (own_of n ts) → Each P (kept_if b t (own_of n ts))
    by true rest = (all.0, rest)
    by false rest = rest
