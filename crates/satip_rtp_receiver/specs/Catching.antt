-- The state of a catcher, and the effect of its calls on it.
use Rattle.std.specs.Prelude.{ℕ, ◌≡◌, ◌+◌, ◌-◌, ◌%◌, ◌≤◌, ◌==◌, ◌&&◌, nat_lt, zero, suc, Bool, true, false, if◌then◌else◌, List, [], ◌∷◌, ◌++◌, length, drop, replicate, get_or, slice_set, Option, None, Some, is_none}
use Rattle.satip_rtp_receiver.specs.Caught.{Datagram}
use Rattle.satip_rtp_receiver.specs.declared.item.Item.{Item}
use Rattle.satip_rtp_receiver.specs.declared.item.Item.TheVariants.{Data, Gap}
use Rattle.satip_rtp_receiver.specs.declared.view.RtpView.{RtpView}

-- the source, and the number of the first datagram that wasn't handed up. `held` has the packets of each number from that one up to the greatest, if they
-- arrived; `finished` says whether `finish` was called
pub record Catch : Type 0 where
  pub source : Option ℕ
  pub next : ℕ
  pub held : List (Option (List ℕ))
  pub finished : Bool

-- nothing arrived
abbrev pub catching : Catch
catching = record { source = None; next = 0; held = []; finished = false }

-- `finish` wasn't called, and at most 64 places are held; this is so after `next` has returned None
pub record Rests (c : Catch) : Type 0 where
  pub unfinished : c.finished ≡ false
  pub few : length c.held ≤ 64

-- the content of a datagram as a catcher takes it
abbrev pub datagram : RtpView → Datagram
datagram view = record { number = view.number; ssrc = view.ssrc; packets = view.packets.now }

-- whether a datagram is of the catcher's source; the first one gives the source
abbrev pub is_source : Option ℕ → ℕ → Bool
is_source None ssrc = true
is_source (Some source) ssrc = source == ssrc

-- the next number to hand up: that of the first datagram at first
abbrev pub next_number : Option ℕ → ℕ → ℕ → ℕ
next_number None number next = number
next_number (Some source) number next = next

-- how far a number is ahead of another one, modulo 65536
abbrev pub ahead : ℕ → ℕ → ℕ
ahead number next = (number + 65536 - next) % 65536

-- a datagram is new if its place isn't filled and its number is at most 32767 ahead of the greatest; a number farther ahead was passed
abbrev pub is_new : ℕ → List (Option (List ℕ)) → Bool
is_new at held = nat_lt at (length held + 32767) && is_none (get_or held at None)

-- the places with these packets at a place; the places skipped before it are missing
abbrev pub put : ℕ → List ℕ → List (Option (List ℕ)) → List (Option (List ℕ))
put at packets held =
    if nat_lt at (length held)
    then slice_set held at (Some packets)
    else held ++ (replicate (at - length held) None ++ Some packets ∷ [])

-- the place of a datagram, counted from the next number to hand up
abbrev pub place_of : Datagram → Catch → ℕ
place_of d c = ahead d.number (next_number c.source d.number c.next)

-- whether a datagram is of the source and new
abbrev pub is_caught : Datagram → Catch → Bool
is_caught d c = is_source c.source d.ssrc && is_new (place_of d c) c.held

-- the catcher after a datagram was taken
abbrev pub taken : Datagram → Catch → Catch
taken d c =
    if is_caught d c
    then record {
      source = Some d.ssrc;
      next = next_number c.source d.number c.next;
      held = put (place_of d c) d.packets c.held;
      finished = c.finished;
    }
    else c

-- the number of places that aren't waited for: all after `finish`, and else those before the last 64
abbrev pub due : Bool → List (Option (List ℕ)) → ℕ
due finished held = if finished then length held else length held - 64

-- the number of missing places at the front, among the first n
abbrev pub missing : ℕ → List (Option (List ℕ)) → ℕ
missing zero held = 0
missing (suc n) [] = 0
missing (suc n) (Some packets ∷ held) = 0
missing (suc n) (None ∷ held) = missing n held + 1

-- a gap of n numbers; none if n is 0
abbrev pub gap : ℕ → ℕ → Option Item
gap from zero = None
gap from (suc n) = Some (Gap from (suc n))

-- the first item of these places, of which n aren't waited for
abbrev pub item_of : ℕ → ℕ → List (Option (List ℕ)) → Option Item
item_of next n [] = None
item_of next n (Some packets ∷ held) = Some (Data next packets)
item_of next n (None ∷ held) = gap next (missing n (None ∷ held))

-- the next item, if one can be handed up
abbrev pub next_item : Catch → Option Item
next_item c = item_of c.next (due c.finished c.held) c.held

-- the number of places of an item
abbrev pub places : Option Item → ℕ
places None = 0
places (Some (Data number packets)) = 1
places (Some (Gap from count)) = count

-- the catcher after the next item was handed up
abbrev pub after_item : Catch → Catch
after_item c = record c {
  next = (c.next + places (next_item c)) % 65536;
  held = drop (places (next_item c)) c.held;
}

-- the catcher after `finish`
abbrev pub ended : Catch → Catch
ended c = record c { finished = true }
