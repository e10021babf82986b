-- Connections of a tunnel's worker, one after another.
use Rattle.std.proofs.Common.{◌≡◌, ◌∙◌, ℕ, ◌^◌, ◌<◌, false, List, [], ◌∷◌, ◌++◌, length, map, append_assoc, append-nil, refl, sym, ap, subst}
use Rattle.std.proofs.lemmas.List.{map_push}
use Rattle.rand_chacha.specs.ChaCha.{ChaCha}
use Rattle.satip_base.specs.declared.identity.Draw.{Draw}
use Rattle.satip_interleave.specs.Histories.{TunnelItem}
use Rattle.satip_tunnel.specs.Seats.{Grows, SeesFull}
use Rattle.satip_tunnel.proofs.SeatLemmas.{grows_none, grows_then}
use Rattle.satip_worker.specs.Drawing.{draw_at, before_draw}
use Rattle.satip_worker.specs.Ends.{is_unmade}
use Rattle.satip_worker.specs.WorkerRun.{AreMade, arrival_of}
use Rattle.satip_worker.specs.declared.worker.WorkerEnd.TheVariants.{Closed, DoorsFault, Spent}
use Rattle.satip_world.specs.declared.doors.ConnEnd.{ConnEnd}
use Rattle.satip_world.specs.declared.doors.ConnEnd.TheVariants.{Spent as conn_spent}
use Rattle.satip_world.specs.Counts.{Rises}
use Rattle.satip_world.specs.Halls.{Hall, Arrival, Return, Moved, LetIn, HadNone, Shut, FailedToOpen}
use Rattle.satip_world.specs.Lines.{Line, fresh_line}
use Rattle.satip_tunnel.specs.ConnRun.{ConnServed}
use Rattle.satip_tunnel.specs.WorkerRun.{ArrivedConn, ServesOne, ServesAll, ServesDoors, WorkerState, return_of}
use Rattle.satip_tunnel.proofs.FullLemmas.{all_also, stays_full}

-- nothing came and nothing was handed back
moved_none : (o : Hall) → Moved o o [] []
moved_none o = record { told = λ t. t; given = λ _. sym (append-nil o.given); returned = λ _. sym (append-nil o.returned) }

-- some connections behind others
moved_then : (o m n : Hall) (a c : List Arrival) (b d : List Return) → Moved o m a b → Moved m n c d → Moved o n (a ++ c) (b ++ d)
moved_then o m n a c b d first second = record {
  told = λ t. first.told (second.told t);
  given = λ t. second.given t ∙ ap (λ (g : List Arrival). g ++ c) (first.given (second.told t)) ∙ append_assoc o.given a c;
  returned = λ t. second.returned t ∙ ap (λ (r : List Return). r ++ d) (first.returned (second.told t)) ∙ append_assoc o.returned b d;
}

-- none of them more
moved_on : (before hall hall' : Hall) (returns : List Return) → Moved before hall (map arrival_of returns) returns → Moved hall hall' [] []
    → Moved before hall' (map arrival_of returns) returns
moved_on before hall hall' returns first second =
    let A : List Arrival → Type 0 = λ a. Moved before hall' a returns in
    let R : List Return → Type 0 = λ r. Moved before hall' (map arrival_of returns ++ []) r in
    subst A (append-nil (map arrival_of returns)) (subst R (append-nil returns)
    (moved_then before hall hall' (map arrival_of returns) [] returns [] first second))

-- one connection more
serves_push : (tells full : Type 0) (drawn : ℕ → Draw) (from mid to : ℕ) (rs : List Return) (r : Return) (es more : List TunnelItem)
    → ServesAll tells full drawn from mid rs es → ConnServed tells full drawn mid to fresh_line r more
    → ServesAll tells full drawn from to (rs ++ r ∷ []) (es ++ more)
serves_push tells full drawn from mid to [] r es more all served =
    let F : ℕ → Type 0 = λ f. ConnServed tells full drawn f to fresh_line r more in
    record {
      between = to;
      own = more;
      others = [];
      whole = ap (λ (xs : List TunnelItem). xs ++ more) all.1 ∙ sym (append-nil more);
      served = subst F all.0 served;
      rest = (refl, refl);
    }
serves_push tells full drawn from mid to (q ∷ rs) r es more all served = record {
  between = all.between;
  own = all.own;
  others = all.others ++ more;
  whole = ap (λ (xs : List TunnelItem). xs ++ more) all.whole ∙ append_assoc all.own all.others more;
  served = all.served;
  rest = serves_push tells full drawn all.between mid to rs r all.others more all.rest served;
}

-- each of them was made
made_push : (rs : List Return) (r : Return) → AreMade rs → is_unmade r.end ≡ false → AreMade (rs ++ r ∷ [])
made_push [] r made one = (one, tt)
made_push (q ∷ rs) r made one = (made.0, made_push rs r made.1 one)

-- the connections so far, each event of which has an entry
pub record ServesOn (tells : Type 0) (key : List ℕ) (stream : ℕ) (o n : WorkerState) (draws : ChaCha) : Type 0 where
  pub returns : List Return
  pub entries : List TunnelItem
  pub count : ℕ
  pub draws_are : draws ≡ before_draw key stream count
  pub serves : ServesAll tells (SeesFull n.seat) (draw_at key stream) 0 count returns entries
  pub grows : Grows o.seat n.seat entries
  pub moved : Moved o.hall n.hall (map arrival_of returns) returns
  pub limit : n.hall.limit ≡ o.hall.limit
  pub faults : n.hall.faults ≡ o.hall.faults
  pub made : AreMade returns

-- none came yet
pub serves_from : (tells : Type 0) (key : List ℕ) (stream : ℕ) (o : WorkerState) (draws : ChaCha) → draws ≡ before_draw key stream 0
    → ServesOn tells key stream o o draws
serves_from tells key stream o draws are = record {
  returns = [];
  entries = [];
  count = 0;
  draws_are = are;
  serves = (refl, refl);
  grows = grows_none o.seat;
  moved = moved_none o.hall;
  limit = refl;
  faults = refl;
  made = tt;
}

-- a worker whose doors are now these
abbrev pub with_hall : WorkerState → Hall → WorkerState
with_hall n hall = record n { hall = hall }

module _ (tells : Type 0) (key : List ℕ) (stream : ℕ) (o n : WorkerState) (hall : Hall) (draws : ChaCha) (on : ServesOn tells key stream o n draws) where
  -- no connection came
  pub serves_idle : HadNone n.hall hall → ServesOn tells key stream o (with_hall n hall) draws
  serves_idle none = record {
    returns = on.returns;
    entries = on.entries;
    count = on.count;
    draws_are = on.draws_are;
    serves = on.serves;
    grows = on.grows;
    moved = moved_on o.hall n.hall hall on.returns on.moved none.content;
    limit = none.limit ∙ on.limit;
    faults = none.faults ∙ on.faults;
    made = on.made;
  }

  -- the doors ended
  pub serves_to_end : {by_limit : Type 0} → Shut by_limit n.hall hall → ServesDoors tells key stream o (with_hall n hall) Closed
  serves_to_end shut = record {
    returns = on.returns;
    entries = on.entries;
    draws = on.count;
    serves = on.serves;
    grows = on.grows;
    moved = moved_on o.hall n.hall hall on.returns on.moved shut.content;
    limit = shut.limit ∙ on.limit;
    ends = record { ended = shut.after; calm = shut.faults ∙ on.faults; made = on.made };
  }

  -- the doors failed
  pub serves_to_fault : FailedToOpen n.hall hall → ServesDoors tells key stream o (with_hall n hall) DoorsFault
  serves_to_fault failed = record {
    returns = on.returns;
    entries = on.entries;
    draws = on.count;
    serves = on.serves;
    grows = on.grows;
    moved = moved_on o.hall n.hall hall on.returns on.moved failed.content;
    limit = failed.limit ∙ on.limit;
    ends = record {
      goes_on = failed.after;
      faults = subst (λ (f : ℕ). Rises f hall.faults) on.faults failed.faults;
      made = on.made;
    };
  }

  pub rises_from : FailedToOpen n.hall hall → Rises o.hall.faults hall.faults
  rises_from failed = subst (λ (f : ℕ). Rises f hall.faults) on.faults failed.faults

module _ (tells : Type 0) (key : List ℕ) (stream : ℕ) (o n m : WorkerState) (opened : Hall) (draws draws' : ChaCha) (on : ServesOn tells key stream o n draws)
    (arrived : ArrivedConn) (end : ConnEnd) (to : ℕ)
    (let_in : LetIn n.hall opened arrived.kind arrived.peer arrived.line) (taken : draws' ≡ before_draw key stream to)
    (one : ServesOne tells (draw_at key stream) on.count to (with_hall n opened) m arrived end) (short : length m.seat.pass.seen < 2 ^ 64) where
  -- what was handed back
  abbrev handed : Return
  handed = return_of arrived one.later end

  -- one connection more
  all_served : ServesAll tells (SeesFull m.seat) (draw_at key stream) 0 to (on.returns ++ handed ∷ []) (on.entries ++ one.serves.entries)
  all_served =
      let L : Line → Type 0 = λ l. ConnServed tells (SeesFull m.seat) (draw_at key stream) on.count to l handed one.serves.entries in
      serves_push tells (SeesFull m.seat) (draw_at key stream) 0 on.count to on.returns handed on.entries one.serves.entries
      (all_also (SeesFull n.seat) (SeesFull m.seat) (stays_full n.seat.pass.seen m.seat.pass.seen one.serves.grows.seen short) tells (draw_at key stream) 0
      on.count on.returns on.entries on.serves)
      (subst L let_in.fresh one.serves.served)

  -- the doors let it in and took it back
  handed_moved : Moved o.hall m.hall (map arrival_of (on.returns ++ handed ∷ [])) (on.returns ++ handed ∷ [])
  handed_moved =
      let A : List Arrival → Type 0 = λ a. Moved o.hall m.hall a (on.returns ++ handed ∷ []) in
      subst A (sym (map_push arrival_of on.returns handed))
      (moved_then o.hall n.hall m.hall (map arrival_of on.returns) (arrival_of handed ∷ []) on.returns (handed ∷ []) on.moved
      (moved_then n.hall opened m.hall (arrival_of handed ∷ []) [] [] (handed ∷ []) let_in.content one.back.content))

  -- they didn't fail, and go on
  pub handed_calm : m.hall.faults ≡ o.hall.faults
  handed_calm = one.back.faults ∙ let_in.faults ∙ on.faults

  pub handed_goes_on : m.hall.ended ≡ false
  handed_goes_on = one.back.ended ∙ let_in.after

  pub serves_next : is_unmade end ≡ false → ServesOn tells key stream o m draws'
  serves_next made_one = record {
    returns = on.returns ++ handed ∷ [];
    entries = on.entries ++ one.serves.entries;
    count = to;
    draws_are = taken;
    serves = all_served;
    grows = grows_then o.seat n.seat m.seat on.entries one.serves.entries on.grows one.serves.grows;
    moved = handed_moved;
    limit = one.back.limit ∙ let_in.limit ∙ on.limit;
    faults = handed_calm;
    made = made_push on.returns handed on.made made_one;
  }

  -- the history is full
  pub serves_to_spent : end ≡ conn_spent → length m.seat.pass.seen ≡ 18446744073709551615 → ServesDoors tells key stream o m Spent
  serves_to_spent is full = record {
    returns = on.returns ++ handed ∷ [];
    entries = on.entries ++ one.serves.entries;
    draws = to;
    serves = all_served;
    grows = grows_then o.seat n.seat m.seat on.entries one.serves.entries on.grows one.serves.grows;
    moved = handed_moved;
    limit = one.back.limit ∙ let_in.limit ∙ on.limit;
    ends = record {
      goes_on = handed_goes_on;
      calm = handed_calm;
      full = full;
      last = record { before = on.returns; last = handed; returns_are = refl; made = on.made; end_is = is };
    };
  }
