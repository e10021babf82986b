-- A catcher that takes datagrams one after another, and hands up all items that it can after each.
use Rattle.std.specs.Prelude.{ℕ, ◌≡◌, ◌<◌, zero, suc, true, false, List, [], ◌∷◌, ◌++◌, length}
use Rattle.std.specs.List.{All}
use Rattle.std.specs.Option.{option_to_list}
use Rattle.satip_rtp_receiver.specs.Caught.{Datagram, caught}
use Rattle.satip_rtp_receiver.specs.Catching.{Catch, catching, taken, ended, next_item, after_item}
use Rattle.satip_rtp_receiver.specs.declared.item.Item.{Item}

-- the items of n calls of `next`
abbrev pub items_of : ℕ → Catch → List Item
items_of zero c = []
items_of (suc n) c = option_to_list (next_item c) ++ items_of n (after_item c)

-- the catcher after n calls of `next`
abbrev pub after_items : ℕ → Catch → Catch
after_items zero c = c
after_items (suc n) c = after_items n (after_item c)

-- all items that can be handed up; each has at least one place, so one call for each place is enough
abbrev pub all_items : Catch → List Item
all_items c = items_of (length c.held) c

-- the catcher after all items were handed up
abbrev pub drained : Catch → Catch
drained c = after_items (length c.held) c

-- the items that are handed up while these datagrams are taken, and the catcher after them
abbrev pub handed_up : Catch → List Datagram → List Item
handed_up c [] = []
handed_up c (d ∷ ds) = all_items (taken d c) ++ handed_up (drained (taken d c)) ds

-- the catcher after these datagrams were taken
abbrev pub after_all : Catch → List Datagram → Catch
after_all c [] = c
after_all c (d ∷ ds) = after_all (drained (taken d c)) ds

-- the items that a new catcher hands up of these datagrams, `finish` included
abbrev pub all_handed_up : List Datagram → List Item
all_handed_up ds = handed_up catching ds ++ all_items (ended (after_all catching ds))

-- the items handed up are those caught of these datagrams, without the end and with it
pub record CatchesAll (ds : List Datagram) : Type 0 where
  pub before_end : handed_up catching ds ≡ caught false ds
  pub with_end : all_handed_up ds ≡ caught true ds

-- the same for any datagrams with numbers of 16 bits
abbrev pub AlwaysCatchesAll : Type 0
AlwaysCatchesAll = (ds : List Datagram) → All (λ d. d.number < 65536) ds → CatchesAll ds
