-- Connections one after another.
use Rattle.std.proofs.Common.{◌≡◌, ℕ, Bool, true, false, List, [], ◌∷◌, ◌++◌, map, append_assoc, refl, sym, ap, ◌∙◌, subst}
use Rattle.std.proofs.lemmas.List.{append-nil, map_push}
use Rattle.rand_chacha.specs.ChaCha.{ChaCha}
use Rattle.satip_base.specs.declared.network.Peer.{Peer}
use Rattle.satip_base.specs.declared.identity.Draw.{Draw}
use Rattle.satip_plain.specs.Histories.{Item}
use Rattle.satip_world.specs.declared.doors.ConnEnd.{ConnEnd}
use Rattle.satip_world.specs.declared.doors.ConnEnd.TheVariants.{Spent as conn_spent, Want as conn_wants}
use Rattle.satip_world.specs.declared.doors.DoorKind.{DoorKind}
use Rattle.satip_world.specs.Counts.{Rises}
use Rattle.satip_world.specs.Halls.{Hall, Arrival, Return, Moved, LetIn, HadNone, Shut, FailedToOpen}
use Rattle.satip_world.specs.Lines.{Line}
use Rattle.satip_worker.specs.declared.worker.WorkerEnd.TheVariants.{Closed, DoorsFault, Spent, Want}
use Rattle.satip_worker.specs.Answers.{ends_with_last}
use Rattle.satip_worker.specs.Drawing.{draw_at, draws_at, before_draw}
use Rattle.satip_worker.specs.Ends.{LineEnds, ServiceEnds, is_unmade}
use Rattle.satip_worker.specs.Progress.{Stage, Makes}
use Rattle.satip_worker.specs.WorkerRun.{arrival_of, ServesOne, ServedReturn, ServesAll, AreMade, LastUnmade, ServesDoors}
use Rattle.satip_worker.proofs.ProgressLemmas.{makes_nothing, makes_then}

-- nothing came and nothing was handed back
moved_none : (o : Hall) → Moved o o [] []
moved_none o = record { told = λ t. t; given = λ _. sym (append-nil o.given); returned = λ _. sym (append-nil o.returned) }

-- some connections behind others
moved_then : (o m n : Hall) (a c : List Arrival) (b d : List Return) → Moved o m a b → Moved m n c d → Moved o n (a ++ c) (b ++ d)
moved_then o m n a c b d first second = record {
  told = λ t. first.told (second.told t);
  given = λ t. second.given t ∙ ap (λ (g : List Arrival). g ++ c) (first.given (second.told t)) ∙ append_assoc o.given a c;
  returned = λ t. second.returned t ∙ ap (λ (r : List Return). r ++ d) (first.returned (second.told t)) ∙ append_assoc o.returned b d;
}

-- one connection more
serves_push : (tells : Type 0) (drawn : ℕ → Draw) (from mid to : ℕ) (rs : List Return) (r : Return) (es own : List Item)
    → ServesAll tells drawn from mid rs es → ServedReturn tells drawn mid to r own → ServesAll tells drawn from to (rs ++ r ∷ []) (es ++ own)
serves_push tells drawn from mid to [] r es own all served =
    let F : ℕ → Type 0 = λ f. ServedReturn tells drawn f to r own in
    (to, own, [], ap (λ (xs : List Item). xs ++ own) all.1 ∙ sym (append-nil own), subst F all.0 served, (refl, refl))
serves_push tells drawn from mid to (q ∷ rs) r es own all served = (
  all.0,
  all.1,
  all.2 ++ own,
  ap (λ (xs : List Item). xs ++ own) all.3 ∙ append_assoc all.1 all.2 own,
  all.4,
  serves_push tells drawn all.0 mid to rs r all.2 own all.5 served,
)

-- each of them was made
made_push : (rs : List Return) (r : Return) → AreMade rs → is_unmade r.end ≡ false → AreMade (rs ++ r ∷ [])
made_push [] r made one = (one, tt)
made_push (q ∷ rs) r made one = (made.0, made_push rs r made.1 one)

-- the connections so far
pub record ServesSome (ct ot : Type 0) (key : List ℕ) (stream : ℕ) (o n : Stage) (before after : Hall) (draws : ChaCha) : Type 0 where
  pub returns : List Return
  pub entries : List Item
  pub count : ℕ
  pub draws_are : draws ≡ before_draw key stream count
  pub serves : ServesAll ct (draw_at key stream) 0 count returns entries
  pub makes : Makes ot o n entries
  pub moved : Moved before after (map arrival_of returns) returns
  pub limit : after.limit ≡ before.limit
  pub faults : after.faults ≡ before.faults

-- and the service made an entry of each of their events
pub record ServesOn (ct ot : Type 0) (key : List ℕ) (stream : ℕ) (o n : Stage) (before after : Hall) (draws : ChaCha) : Type 0 where
  pub some : ServesSome ct ot key stream o n before after draws
  pub made : AreMade some.returns

-- none came yet
pub serves_from : (ct ot : Type 0) (key : List ℕ) (stream : ℕ) (o : Stage) (hall : Hall) (draws : ChaCha) → draws ≡ before_draw key stream 0
    → ServesOn ct ot key stream o o hall hall draws
serves_from ct ot key stream o hall draws are = record {
  some = record {
    returns = [];
    entries = [];
    count = 0;
    draws_are = are;
    serves = (refl, refl);
    makes = makes_nothing ot o;
    moved = moved_none hall;
    limit = refl;
    faults = refl;
  };
  made = tt;
}

-- the doors did something else
serves_moved : (ct ot : Type 0) (key : List ℕ) (stream : ℕ) (o n : Stage) (before hall hall' : Hall) (draws : ChaCha) (returns : List Return)
    → Moved before hall (map arrival_of returns) returns → Moved hall hall' [] [] → Moved before hall' (map arrival_of returns) returns
serves_moved ct ot key stream o n before hall hall' draws returns first second =
    let A : List Arrival → Type 0 = λ a. Moved before hall' a returns in
    let R : List Return → Type 0 = λ r. Moved before hall' (map arrival_of returns ++ []) r in
    subst A (append-nil (map arrival_of returns)) (subst R (append-nil returns)
    (moved_then before hall hall' (map arrival_of returns) [] returns [] first second))

module _ (ct ot : Type 0) (key : List ℕ) (stream : ℕ) (o n : Stage) (before hall hall' : Hall) (draws : ChaCha)
    (on : ServesOn ct ot key stream o n before hall draws) where
  -- no connection came
  pub serves_idle : HadNone hall hall' → ServesOn ct ot key stream o n before hall' draws
  serves_idle none = record {
    some = record {
      returns = on.some.returns;
      entries = on.some.entries;
      count = on.some.count;
      draws_are = on.some.draws_are;
      serves = on.some.serves;
      makes = on.some.makes;
      moved = serves_moved ct ot key stream o n before hall hall' draws on.some.returns on.some.moved none.content;
      limit = none.limit ∙ on.some.limit;
      faults = none.faults ∙ on.some.faults;
    };
    made = on.made;
  }

  pub calm_end : {by_limit : Type 0} → Shut by_limit hall hall' → hall'.faults ≡ before.faults
  calm_end shut = shut.faults ∙ on.some.faults

  -- the doors ended
  pub serves_to_end : {by_limit : Type 0} → Shut by_limit hall hall' → ServesDoors ct ot key stream (record { stage = o; hall = before }) (record { stage = n; hall = hall' }) Closed
  serves_to_end shut = record {
    returns = on.some.returns;
    entries = on.some.entries;
    draws = on.some.count;
    serves = on.some.serves;
    makes = on.some.makes;
    moved = serves_moved ct ot key stream o n before hall hall' draws on.some.returns on.some.moved shut.content;
    limit = shut.limit ∙ on.some.limit;
    ends = record { ended = shut.after; calm = calm_end shut; made = on.made };
  }

  -- the doors failed
  pub serves_to_fault : FailedToOpen hall hall' → ServesDoors ct ot key stream (record { stage = o; hall = before }) (record { stage = n; hall = hall' }) DoorsFault
  serves_to_fault failed = record {
    returns = on.some.returns;
    entries = on.some.entries;
    draws = on.some.count;
    serves = on.some.serves;
    makes = on.some.makes;
    moved = serves_moved ct ot key stream o n before hall hall' draws on.some.returns on.some.moved failed.content;
    limit = failed.limit ∙ on.some.limit;
    ends = record {
      goes_on = failed.after;
      faults = subst (λ (f : ℕ). Rises f hall'.faults) on.some.faults failed.faults;
      made = on.made;
    };
  }

module _ (ct ot : Type 0) (key : List ℕ) (stream : ℕ) (o n n' : Stage) (before hall opened closed : Hall) (draws draws' : ChaCha)
    (on : ServesOn ct ot key stream o n before hall draws) (kind : DoorKind) (peer : Peer) (line : Line) (end : ConnEnd) (to : ℕ)
    (let_in : LetIn hall opened kind peer line) (taken : draws' ≡ before_draw key stream to)
    (one : ServesOne ct ot (record { kind = kind; peer = peer }) (draws_at key stream on.some.count to) (record { stage = n; hall = opened })
    (record { stage = n'; hall = closed }) line end) where
  -- what was handed back
  abbrev pub handed : Return
  handed = record { kind = kind; peer = peer; line = one.later; end = end }

  -- with its run
  pub handed_served : ServedReturn ct (draw_at key stream) on.some.count to handed one.serves.entries
  handed_served =
      let L : Line → Type 0 = λ l. LineEnds end l one.later (ends_with_last one.serves.entries) in
      record {
        received = one.serves.received;
        sent = one.serves.sent;
        run = one.serves.run;
        received_is = λ told. one.serves.carries.content.received told
            ∙ ap (λ (l : Line). l.received ++ one.serves.received) let_in.fresh;
        sent_is = λ told. one.serves.carries.content.sent told ∙ ap (λ (l : Line). l.sent ++ one.serves.sent) let_in.fresh;
        line_ends = subst L let_in.fresh one.serves.line_ends;
      }

  -- the doors let it in and took it back
  pub handed_moved : Moved before closed (map arrival_of (on.some.returns ++ handed ∷ [])) (on.some.returns ++ handed ∷ [])
  handed_moved =
      let A : List Arrival → Type 0 = λ a. Moved before closed a (on.some.returns ++ handed ∷ []) in
      subst A (sym (map_push arrival_of on.some.returns handed))
      (moved_then before hall closed (map arrival_of on.some.returns) (arrival_of handed ∷ []) on.some.returns (handed ∷ []) on.some.moved
      (moved_then hall opened closed (arrival_of handed ∷ []) [] [] (handed ∷ []) let_in.content one.back.content))

  -- they didn't fail
  pub handed_calm : closed.faults ≡ before.faults
  handed_calm = one.back.faults ∙ let_in.faults ∙ on.some.faults

  -- one connection more
  pub serves_next : is_unmade end ≡ false → ServesOn ct ot key stream o n' before closed draws'
  serves_next made_one = record {
    some = record {
      returns = on.some.returns ++ handed ∷ [];
      entries = on.some.entries ++ one.serves.entries;
      count = to;
      draws_are = taken;
      serves = serves_push ct (draw_at key stream) 0 on.some.count to on.some.returns handed on.some.entries one.serves.entries
          on.some.serves handed_served;
      makes = makes_then ot o n n' on.some.entries one.serves.entries on.some.makes one.serves.makes;
      moved = handed_moved;
      limit = one.back.limit ∙ let_in.limit ∙ on.some.limit;
      faults = handed_calm;
    };
    made = made_push on.some.returns handed on.made made_one;
  }

  -- the doors go on
  pub handed_goes_on : closed.ended ≡ false
  handed_goes_on = one.back.ended ∙ let_in.after

  -- the last connection ended so
  last_unmade : LastUnmade end (on.some.returns ++ handed ∷ [])
  last_unmade = record { before = on.some.returns; last = handed; returns_are = refl; made = on.made; end_is = refl }

  -- the history is full
  pub full_history : end ≡ conn_spent → n'.known.length ≡ 18446744073709551615
  full_history is =
      let P : ConnEnd → Type 0 = λ e. ServiceEnds e n.may_want n'.known in
      subst P is one.serves.service_ends

  -- memory was refused
  pub refused_memory : end ≡ conn_wants → o.may_want ≡ true
  refused_memory is =
      let P : ConnEnd → Type 0 = λ e. ServiceEnds e n.may_want n'.known in
      sym on.some.makes.may_want ∙ subst P is one.serves.service_ends

  pub serves_to_spent : end ≡ conn_spent → ServesDoors ct ot key stream (record { stage = o; hall = before }) (record { stage = n'; hall = closed }) Spent
  serves_to_spent is =
      let P : ConnEnd → Type 0 = λ e. LastUnmade e (on.some.returns ++ handed ∷ []) in
      record {
        returns = on.some.returns ++ handed ∷ [];
        entries = on.some.entries ++ one.serves.entries;
        draws = to;
        serves = serves_push ct (draw_at key stream) 0 on.some.count to on.some.returns handed on.some.entries one.serves.entries
            on.some.serves handed_served;
        makes = makes_then ot o n n' on.some.entries one.serves.entries on.some.makes one.serves.makes;
        moved = handed_moved;
        limit = one.back.limit ∙ let_in.limit ∙ on.some.limit;
        ends = record { goes_on = handed_goes_on; calm = handed_calm; full = full_history is; last = subst P is last_unmade };
      }

  pub serves_to_want : end ≡ conn_wants → ServesDoors ct ot key stream (record { stage = o; hall = before }) (record { stage = n'; hall = closed }) Want
  serves_to_want is =
      let P : ConnEnd → Type 0 = λ e. LastUnmade e (on.some.returns ++ handed ∷ []) in
      record {
        returns = on.some.returns ++ handed ∷ [];
        entries = on.some.entries ++ one.serves.entries;
        draws = to;
        serves = serves_push ct (draw_at key stream) 0 on.some.count to on.some.returns handed on.some.entries one.serves.entries
            on.some.serves handed_served;
        makes = makes_then ot o n n' on.some.entries one.serves.entries on.some.makes one.serves.makes;
        moved = handed_moved;
        limit = one.back.limit ∙ let_in.limit ∙ on.some.limit;
        ends = record { goes_on = handed_goes_on; calm = handed_calm; may = refused_memory is; last = subst P is last_unmade };
      }

-- the doors didn't end
not_ended : (ended : Bool) → ended ≡ false → ended ≡ true → ⊥
not_ended ended goes_on is =
    let both : false ≡ true = sym goes_on ∙ is in
    cc

spent_isnt_closed : Spent ≡ Closed → ⊥
spent_isnt_closed is = cc

want_isnt_closed : Want ≡ Closed → ⊥
want_isnt_closed is = cc

-- at these ends the doors go on
pub spent_goes_on : (ended : Bool) → ended ≡ false → (Spent ≡ Closed → ended ≡ true) × (ended ≡ true → Spent ≡ Closed)
spent_goes_on ended goes_on = (λ is. absurd (spent_isnt_closed is), λ is. absurd (not_ended ended goes_on is))

pub want_goes_on : (ended : Bool) → ended ≡ false → (Want ≡ Closed → ended ≡ true) × (ended ≡ true → Want ≡ Closed)
want_goes_on ended goes_on = (λ is. absurd (want_isnt_closed is), λ is. absurd (not_ended ended goes_on is))
