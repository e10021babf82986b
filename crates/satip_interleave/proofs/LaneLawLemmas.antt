-- What any calls keep.
use Rattle.std.proofs.Common.{ℕ, ◌≡◌, ◌+◌, ◌-◌, ◌≤◌, leb, Bool, true, false, not, cond, ◌&&◌, List, [], ◌∷◌, ◌++◌, length, map, Some, None, refl, sym, ap, subst, ◌∙◌, arith}
use Rattle.std.proofs.lemmas.List.{append_assoc}
use Rattle.std.proofs.lemmas.Bool.{true≢false}
use Rattle.std.specs.Prelude.{option_to_list}
use Rattle.satip_interleave.specs.declared.lane.Lane.{Lane}
use Rattle.satip_interleave.specs.Frames.{frame, fits_behind, first_frames, later_frames}
use Rattle.satip_interleave.specs.Lanes.{PlainLanes, no_lanes, is_full, entered, fresh_lane, has_number, change_lane, without_lane, is_channel_port, put_in, drained_lane}
use Rattle.satip_interleave.specs.Calls.{Call, Enter, Put, Drain, Leave, called, after, numbers_given, IsRising, NumbersRise, IsRisingTo, HasOwnNumbers, HeldByNumber}
use Rattle.satip_interleave.specs.Turns.{Turn, Comes, Leaves, lane_after, all_coming, all_leaving, KeepsOrder, FramesKeepOrder}

-- numbers that are given rise above those given before
rise : (calls : List Call) (lanes : PlainLanes) → IsRising lanes.given (numbers_given lanes calls)
rise [] lanes = tt
rise (Enter ∷ cs) lanes = each (is_full lanes) (rise cs (entered lanes))
  where
    fresh : PlainLanes
    fresh = record { given = lanes.given + 1; held = lanes.held ++ fresh_lane (lanes.given + 1) ∷ [] }

    each : (t : Bool) → IsRising (cond t lanes fresh).given (numbers_given (cond t lanes fresh) cs)
        → IsRising lanes.given (option_to_list (cond t None (Some (lanes.given + 1))) ++ numbers_given (cond t lanes fresh) cs)
    each true rest = rest
    each false rest = (omega arith, rest)
rise (Put to bytes ∷ cs) lanes = rise cs (called (Put to bytes) lanes)
rise (Drain number ∷ cs) lanes = rise cs (called (Drain number) lanes)
rise (Leave number ∷ cs) lanes = rise cs (called (Leave number) lanes)

pub numbers_rise : NumbersRise
numbers_rise calls = rise calls no_lanes

-- the numbers of lanes
numbers : List Lane → List ℕ
numbers lanes = map (λ lane. lane.number) lanes

rising_push : (low high : ℕ) (xs : List ℕ) → IsRisingTo low high xs → IsRisingTo low (high + 1) (xs ++ (high + 1) ∷ [])
rising_push low high [] rises = (omega arith, omega arith)
rising_push low high (x ∷ xs) rises = (rises.0, rising_push x high xs rises.1)

rising_below : (low x high : ℕ) (xs : List ℕ) → low ≤ x → IsRisingTo x high xs → IsRisingTo low high xs
rising_below low x high [] below rises = omega (arith, below, rises)
rising_below low x high (y ∷ ys) below rises = (omega (arith, below, rises.0), rises.1)

map_push : (lanes : List Lane) (lane : Lane) → map (λ (l : Lane). l.number) (lanes ++ lane ∷ []) ≡ map (λ (l : Lane). l.number) lanes ++ lane.number ∷ []
map_push [] lane = refl
map_push (l ∷ ls) lane = ap (λ ns. l.number ∷ ns) (map_push ls lane)

-- a change that keeps the number
same_numbers : (number : ℕ) (change : Lane → Lane) → ((l : Lane) → (change l).number ≡ l.number) → (lanes : List Lane)
    → map (λ (l : Lane). l.number) (change_lane number change lanes) ≡ map (λ (l : Lane). l.number) lanes
same_numbers number change keeps [] = refl
same_numbers number change keeps (l ∷ ls) = each (has_number number l) (same_numbers number change keeps ls)
  where
    each : (t : Bool) → map (λ (l : Lane). l.number) (change_lane number change ls) ≡ map (λ (l : Lane). l.number) ls
        → map (λ (l : Lane). l.number) (cond t (change l ∷ ls) (l ∷ change_lane number change ls)) ≡ l.number ∷ map (λ (l : Lane). l.number) ls
    each true rest = ap (λ n. n ∷ map (λ (l : Lane). l.number) ls) (keeps l)
    each false rest = ap (λ ns. l.number ∷ ns) rest

put_keeps_number : (port : ℕ) (bytes : List ℕ) (l : Lane) → (put_in port bytes l).number ≡ l.number
put_keeps_number port bytes l = each (is_channel_port port && not l.broken) (fits_behind l.frames bytes)
  where
    each : (t u : Bool) → (cond t (cond u (record l { frames = l.frames ++ frame (port - 1) bytes ∷ [] }) (record l { broken = true })) l).number ≡ l.number
    each true true = refl
    each true false = refl
    each false u = refl

rising_without : (number low high : ℕ) (lanes : List Lane) → IsRisingTo low high (map (λ (l : Lane). l.number) lanes)
    → IsRisingTo low high (map (λ (l : Lane). l.number) (without_lane number lanes))
rising_without number low high [] rises = rises
rising_without number low high (l ∷ ls) rises = each (has_number number l) (rising_without number l.number high ls rises.1)
  where
    each : (t : Bool) → IsRisingTo l.number high (map (λ (l : Lane). l.number) (without_lane number ls))
        → IsRisingTo low high (map (λ (l : Lane). l.number) (cond t ls (l ∷ without_lane number ls)))
    each true rest = rising_below low l.number high (map (λ (l : Lane). l.number) ls) (omega (arith, rises.0)) rises.1
    each false rest = (rises.0, rest)

own_numbers : (c : Call) (lanes : PlainLanes) → HasOwnNumbers lanes → HasOwnNumbers (called c lanes)
own_numbers Enter lanes own = each (is_full lanes)
  where
    fresh : PlainLanes
    fresh = record { given = lanes.given + 1; held = lanes.held ++ fresh_lane (lanes.given + 1) ∷ [] }

    each : (t : Bool) → HasOwnNumbers (cond t lanes fresh)
    each true = own
    each false =
        subst (IsRisingTo 0 (lanes.given + 1)) (sym (map_push lanes.held (fresh_lane (lanes.given + 1))))
        (rising_push 0 lanes.given (map (λ (l : Lane). l.number) lanes.held) own)
own_numbers (Put to bytes) lanes own =
    subst (IsRisingTo 0 lanes.given) (sym (same_numbers to.ip (put_in to.port bytes) (put_keeps_number to.port bytes) lanes.held)) own
own_numbers (Drain number) lanes own =
    subst (IsRisingTo 0 lanes.given) (sym (same_numbers number drained_lane (λ l. refl) lanes.held)) own
own_numbers (Leave number) lanes own = rising_without number 0 lanes.given lanes.held own

own_after : (calls : List Call) (lanes : PlainLanes) → HasOwnNumbers lanes → HasOwnNumbers (after lanes calls)
own_after [] lanes own = own
own_after (c ∷ cs) lanes own = own_after cs (called c lanes) (own_numbers c lanes own)

pub held_by_number : HeldByNumber
held_by_number calls = own_after calls no_lanes (omega arith)

-- the first frames and those behind them are all
first_later : (room : ℕ) (frames : List (List ℕ)) → first_frames room frames ++ later_frames room frames ≡ frames
first_later room [] = refl
first_later room (f ∷ fs) = each (leb (length f) room) (first_later (room - length f) fs)
  where
    each : (t : Bool) → first_frames (room - length f) fs ++ later_frames (room - length f) fs ≡ fs
        → cond t (f ∷ first_frames (room - length f) fs) [] ++ cond t (later_frames (room - length f) fs) (f ∷ fs) ≡ f ∷ fs
    each true rest = ap (λ gs. f ∷ gs) rest
    each false rest = refl

-- nothing is appended to a broken lane
broken_takes_nothing : (port : ℕ) (bytes : List ℕ) (l : Lane) → l.broken ≡ true → put_in port bytes l ≡ l
broken_takes_nothing port bytes l broken =
    each (is_channel_port port) l.broken broken (fits_behind l.frames bytes)
  where
    each : (t b : Bool) → b ≡ true → (u : Bool)
        → cond (t && not b) (cond u (record l { frames = l.frames ++ frame (port - 1) bytes ∷ [] }) (record l { broken = true })) l ≡ l
    each true true is u = refl
    each true false is u = absurd (cc)
    each false b is u = refl

record StaysBroken (lane : Lane) (turns : List Turn) : Type 0 where
  stays : (lane_after lane turns).broken ≡ true
  frames : all_leaving lane turns ++ (lane_after lane turns).frames ≡ lane.frames

stays_broken : (turns : List Turn) (lane : Lane) → lane.broken ≡ true → StaysBroken lane turns
stays_broken [] lane broken = record { stays = broken; frames = refl }
stays_broken (Comes port bytes ∷ ts) lane broken =
    let same = broken_takes_nothing port bytes lane broken in
    let rest = stays_broken ts lane broken in
    record {
      stays = ap (λ l. (lane_after l ts).broken) same ∙ rest.stays;
      frames = ap (λ l. all_leaving l ts ++ (lane_after l ts).frames) same ∙ rest.frames;
    }
stays_broken (Leaves ∷ ts) lane broken =
    let rest = stays_broken ts (drained_lane lane) broken in
    record {
      stays = rest.stays;
      frames = append_assoc (first_frames 65536 lane.frames) (all_leaving (drained_lane lane) ts) (lane_after (drained_lane lane) ts).frames
          ∙ ap (λ fs. first_frames 65536 lane.frames ++ fs) rest.frames ∙ first_later 65536 lane.frames;
    }

-- one datagram came, and others come to what the lane is then
record CameThen (lane next : Lane) (came : List (List ℕ)) (turns : List Turn) : Type 0 where
  lost : List (List ℕ)
  order : lane.frames ++ (came ++ all_coming turns) ≡ (all_leaving next turns ++ (lane_after next turns).frames) ++ lost
  none_lost : (lane_after next turns).broken ≡ false → lost ≡ []

came_then : (port : ℕ) (bytes : List ℕ) (turns : List Turn) (lane : Lane) → lane.broken ≡ false
    → ((l : Lane) → l.broken ≡ false → KeepsOrder l turns)
    → CameThen lane (put_in port bytes lane) (cond (is_channel_port port) (frame (port - 1) bytes ∷ []) []) turns
came_then port bytes turns lane sound rest = each (is_channel_port port) lane.broken sound (fits_behind lane.frames bytes)
  where
    f : List ℕ
    f = frame (port - 1) bytes

    taken : Lane
    taken = record lane { frames = lane.frames ++ frame (port - 1) bytes ∷ [] }

    spoiled : Lane
    spoiled = record lane { broken = true }

    each : (t b : Bool) → b ≡ false → (u : Bool) → CameThen lane (cond (t && not b) (cond u taken spoiled) lane) (cond t (f ∷ []) []) turns
    each false b is u =
        let r = rest lane sound in
        record { lost = r.lost; order = r.order; none_lost = r.none_lost }
    each true true is u = absurd (cc)
    each true false is true =
        let r = rest taken sound in
        record { lost = r.lost; order = sym (append_assoc lane.frames (f ∷ []) (all_coming turns)) ∙ r.order; none_lost = r.none_lost }
    each true false is false =
        let s = stays_broken turns spoiled refl in
        record {
          lost = f ∷ all_coming turns;
          order = ap (λ fs. fs ++ f ∷ all_coming turns) (sym s.frames);
          none_lost = λ whole. absurd (true≢false (sym s.stays ∙ whole));
        }

keeps_order : (turns : List Turn) (lane : Lane) → lane.broken ≡ false → KeepsOrder lane turns
keeps_order [] lane sound = record { lost = []; order = refl; none_lost = λ whole. refl }
keeps_order (Comes port bytes ∷ ts) lane sound =
    let r = came_then port bytes ts lane sound (λ l whole. keeps_order ts l whole) in
    record { lost = r.lost; order = r.order; none_lost = r.none_lost }
keeps_order (Leaves ∷ ts) lane sound =
    let r = keeps_order ts (drained_lane lane) sound in
    let first = first_frames 65536 lane.frames in
    let later = later_frames 65536 lane.frames in
    let out = all_leaving (drained_lane lane) ts in
    let waits = (lane_after (drained_lane lane) ts).frames in
    record {
      lost = r.lost;
      order = ap (λ fs. fs ++ all_coming ts) (sym (first_later 65536 lane.frames)) ∙ append_assoc first later (all_coming ts)
          ∙ ap (λ fs. first ++ fs) r.order ∙ sym (append_assoc first (out ++ waits) r.lost) ∙ ap (λ fs. fs ++ r.lost) (sym (append_assoc first out waits));
      none_lost = r.none_lost;
    }

pub frames_keep_order : FramesKeepOrder
frames_keep_order lane turns sound = keeps_order turns lane sound
