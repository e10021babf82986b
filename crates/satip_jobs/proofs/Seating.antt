-- Callers that are split off one after another, and joined again.
use Rattle.std.proofs.Common.{◌≡◌, ℕ, ◌+◌, List, [], ◌∷◌, ◌++◌, map, length, arith, refl, sym, ap, ◌∙◌, subst, append_assoc, append-nil}
use Rattle.std.proofs.lemmas.List.{map-append, length-map}
use Rattle.satip_base.specs.Lists.{Begins}
use Rattle.satip_base.proofs.Elements.{Each-append, each_follows}
use Rattle.satip_base.proofs.Prefixes.{begins_refl, begins_trans}
use Rattle.satip_plain.specs.declared.setting.Setting.{Setting}
use Rattle.satip_turn.specs.Shown.{Cell, with_made, newborn, joined}
use Rattle.satip_turn.specs.Views.{row}
use Rattle.satip_jobs.specs.declared.end.ServeEnd.{ServeEnd}
use Rattle.satip_jobs.specs.declared.end.ServeEnd.TheVariants.{Served, DoorsFault, HistoryFull}
use Rattle.satip_jobs.specs.declared.seat.Seat.{Seat}
use Rattle.satip_jobs.specs.Crews.{AreNumbered, AreNew, Joins, pass_numbers}
use Rattle.satip_jobs.specs.Ends.{worse, worst}
use Rattle.satip_jobs.specs.Passes.{CallerOf, PassOf, callers_of, IsAlone, IsNew}

-- a pass that was just split off
pub new_born : {E A : Type 0} (p q : PassOf E A) → q ≡ newborn p q.number → IsNew q
new_born {E} {A} p q young = record {
  own = ap (λ (s : PassOf E A). s.own) young;
  alone = record { kept = ap (λ (s : PassOf E A). s.kept) young; made = ap (λ (s : PassOf E A). s.made) young };
}

-- these kits have callers, and the others are left
pub record Seated {X E A G K M : Type 0} (cell : X → Cell Setting) (pass : X → PassOf E A) (gear : X → G) (before now : X) (kits left : List K)
    (gears unused : List G)
    (seats : List (Seat X K M)) : Type 0 where
  pub cell_is : cell now ≡ cell before
  pub gear_is : gear now ≡ gear before
  pub number : (pass now).number ≡ (pass before).number
  pub own : (pass now).own ≡ (pass before).own
  pub kept : (pass now).kept ≡ (pass before).kept
  pub made : (pass now).made ≡ (pass before).made ++ pass_numbers pass seats
  pub kits_are : kits ≡ map (λ s. s.kit) seats ++ left
  pub gears_are : gears ≡ map (λ s. gear s.caller) seats ++ unused
  pub numbered : AreNumbered 1 (map (λ s. s.number) seats)
  pub new : AreNew cell pass (cell before) seats

pub seated_none : {X E A G K M : Type 0} (cell : X → Cell Setting) (pass : X → PassOf E A) (gear : X → G) (x : X) (kits : List K) (gears : List G)
    → Seated {M = M} cell pass gear x x kits kits gears gears []
seated_none cell pass gear x kits gears = record {
  cell_is = refl;
  gear_is = refl;
  number = refl;
  own = refl;
  kept = refl;
  made = sym (append-nil (pass x).made);
  kits_are = refl;
  gears_are = refl;
  numbered = tt;
  new = tt;
}

numbered_more : (n m : ℕ) (ns : List ℕ) → AreNumbered n ns → m ≡ n + length ns → AreNumbered n (ns ++ m ∷ [])
numbered_more n m [] numbered is = (omega (arith, is), tt)
numbered_more n m (k ∷ ks) numbered is = (numbered.0, numbered_more (n + 1) m ks numbered.1 (omega (arith, is)))

-- a part of each seat, with that of the next behind
part_more : {S T : Type 0} (part : S → T) (all left after : List T) (seats : List S) (seat : S) (it : T) → all ≡ map part seats ++ left → left ≡ it ∷ after
    → part seat ≡ it
    → all ≡ map part (seats ++ seat ∷ []) ++ after
part_more {S} {T} part all left after seats seat it before first is =
    before
    ∙ ap (λ (ts : List T). map part seats ++ ts) (first ∙ ap (λ (t : T). t ∷ after) (sym is))
    ∙ sym (append_assoc (map part seats) (part seat ∷ []) after)
    ∙ ap (λ (ts : List T). ts ++ after) (sym (map-append part seats (seat ∷ [])))

-- the next kit has a caller too
pub seated_more : {X E A G K M : Type 0} (cell : X → Cell Setting) (pass : X → PassOf E A) (gear : X → G) (p q r : X) (kits left after : List K)
    (gears unused behind : List G)
    (kit : K) (tool : G) (seats : List (Seat X K M)) (seat : Seat X K M)
    → Seated cell pass gear p q kits left gears unused seats → left ≡ kit ∷ after → unused ≡ tool ∷ behind → cell r ≡ cell q → gear r ≡ gear q
    → cell seat.caller ≡ cell q → pass seat.caller ≡ newborn (pass q) (pass seat.caller).number → pass r ≡ with_made (pass q) (pass seat.caller).number
    → seat.kit ≡ kit → gear seat.caller ≡ tool → seat.number ≡ length seats + 1 → Seated cell pass gear p r kits after gears behind (seats ++ seat ∷ [])
seated_more {X} {E} {A} {G} {K} {M} cell pass gear p q r kits left after gears unused behind kit tool seats seat seated first next same_cell same_gear at young
    old with_kit with_gear number =
    let numbers : length (map (λ (s : Seat X K M). s.number) seats) ≡ length seats = length-map seats (λ (s : Seat X K M). s.number) in
    let one_more : seat.number ≡ 1 + length (map (λ (s : Seat X K M). s.number) seats) = omega (arith, number, numbers) in
    record {
      cell_is = same_cell ∙ seated.cell_is;
      gear_is = same_gear ∙ seated.gear_is;
      number = ap (λ (s : PassOf E A). s.number) old ∙ seated.number;
      own = ap (λ (s : PassOf E A). s.own) old ∙ seated.own;
      kept = ap (λ (s : PassOf E A). s.kept) old ∙ seated.kept;
      made = ap (λ (s : PassOf E A). s.made) old
          ∙ ap (λ (ns : List ℕ). ns ++ (pass seat.caller).number ∷ []) seated.made
          ∙ append_assoc (pass p).made (pass_numbers pass seats) ((pass seat.caller).number ∷ [])
          ∙ ap (λ (ns : List ℕ). (pass p).made ++ ns) (sym (map-append (λ (s : Seat X K M). (pass s.caller).number) seats (seat ∷ [])));
      kits_are = part_more (λ (s : Seat X K M). s.kit) kits left after seats seat kit seated.kits_are first with_kit;
      gears_are = part_more (λ (s : Seat X K M). gear s.caller) gears unused behind seats seat tool seated.gears_are next with_gear;
      numbered = subst (λ (ns : List ℕ). AreNumbered 1 ns) (sym (map-append (λ (s : Seat X K M). s.number) seats (seat ∷ [])))
          (numbered_more 1 seat.number (map (λ (s : Seat X K M). s.number) seats) seated.numbered one_more);
      new = Each-append (λ (s : Seat X K M). (cell s.caller ≡ cell p) × IsNew (pass s.caller)) seats (seat ∷ []) seated.new
          ((at ∙ seated.cell_is, new_born (pass q) (pass seat.caller) young), tt);
    }

-- the passes of these jobs were joined, and those of the others are left
pub record Joined {X E A G K M : Type 0} (cell : X → Cell Setting) (pass : X → PassOf E A) (gear : X → G) (before now : X) (all done left : List (Seat X K M))
    (kits : List K)
    (gears : List G) (end : ServeEnd) : Type 0 where
  pub cell_is : cell now ≡ cell before
  pub gear_is : gear now ≡ gear before
  pub all_are : all ≡ done ++ left
  pub joins : Joins pass (pass before) (pass now) done
  pub kits_are : kits ≡ map (λ s. s.kit) done
  pub gears_are : gears ≡ map (λ s. gear s.caller) done
  pub end_is : end ≡ worst (map (λ s. s.end) done)

-- none was joined yet
pub joins_none : {X E A K M : Type 0} (pass : X → PassOf E A) (p : PassOf E A) → Joins {K = K} {M = M} pass p p []
joins_none pass p = record { number = refl; own = refl; made = refl; kept = sym (append-nil p.kept); mine = begins_refl p.seen; theirs = tt }

pub joined_none : {X E A G K M : Type 0} (cell : X → Cell Setting) (pass : X → PassOf E A) (gear : X → G) (x : X) (all : List (Seat X K M))
    → Joined cell pass gear x x all [] all [] [] Served
joined_none cell pass gear x all = record {
  cell_is = refl;
  gear_is = refl;
  all_are = refl;
  joins = joins_none pass (pass x);
  kits_are = refl;
  gears_are = refl;
  end_is = refl;
}

worse_then : (x y z : ServeEnd) → worse x (worse y z) ≡ worse (worse x y) z
worse_then Served y z = refl
worse_then DoorsFault Served z = refl
worse_then DoorsFault DoorsFault Served = refl
worse_then DoorsFault DoorsFault DoorsFault = refl
worse_then DoorsFault DoorsFault HistoryFull = refl
worse_then DoorsFault HistoryFull z = refl
worse_then HistoryFull y z = refl

worse_served : (x : ServeEnd) → worse x Served ≡ x
worse_served Served = refl
worse_served DoorsFault = refl
worse_served HistoryFull = refl

worst_more : (ends : List ServeEnd) (end : ServeEnd) → worst (ends ++ end ∷ []) ≡ worse (worst ends) end
worst_more [] end = worse_served end
worst_more (e ∷ ends) end = ap (λ (w : ServeEnd). worse e w) (worst_more ends end) ∙ worse_then e (worst ends) end

callers_more : {X E A K M : Type 0} (pass : X → PassOf E A) (seats : List (Seat X K M)) (seat : Seat X K M)
    → callers_of (map (λ s. pass s.caller) (seats ++ seat ∷ []))
    ≡ callers_of (map (λ s. pass s.caller) seats) ++ row (pass seat.caller).number (pass seat.caller).own ∷ []
callers_more {X} {E} {A} {K} {M} pass seats seat =
    ap callers_of (map-append (λ (s : Seat X K M). pass s.caller) seats (seat ∷ []))
    ∙ map-append (λ (s : PassOf E A). row s.number s.own) (map (λ (s : Seat X K M). pass s.caller) seats) (pass seat.caller ∷ [])

-- one pass more into which none was joined and from which none was split off
pub joins_more : {X E A K M : Type 0} (pass : X → PassOf E A) (p q r : PassOf E A) (seats : List (Seat X K M)) (seat : Seat X K M) → Joins pass p q seats
    → r ≡ joined q (pass seat.caller) → IsAlone (pass seat.caller) → Begins q.seen r.seen → Begins (pass seat.caller).seen r.seen
    → Joins pass p r (seats ++ seat ∷ [])
joins_more {X} {E} {A} {K} {M} pass p q r seats seat joins is alone mine theirs =
    let s = pass seat.caller in
    record {
      number = ap (λ (t : PassOf E A). t.number) is ∙ joins.number;
      own = ap (λ (t : PassOf E A). t.own) is ∙ joins.own;
      made = ap (λ (t : PassOf E A). t.made) is ∙ ap (λ (ns : List ℕ). q.made ++ ns) alone.made ∙ append-nil q.made ∙ joins.made;
      kept = ap (λ (t : PassOf E A). t.kept) is
          ∙ ap (λ (rs : List (CallerOf E A)). q.kept ++ row s.number s.own ∷ rs) alone.kept
          ∙ ap (λ (rs : List (CallerOf E A)). rs ++ row s.number s.own ∷ []) joins.kept
          ∙ append_assoc p.kept (callers_of (map (λ (t : Seat X K M). pass t.caller) seats)) (row s.number s.own ∷ [])
          ∙ ap (λ (rs : List (CallerOf E A)). p.kept ++ rs) (sym (callers_more pass seats seat));
      mine = begins_trans p.seen q.seen r.seen joins.mine mine;
      theirs = Each-append (λ (t : Seat X K M). Begins (pass t.caller).seen r.seen) seats (seat ∷ [])
          (each_follows (λ (t : Seat X K M). Begins (pass t.caller).seen q.seen) (λ (t : Seat X K M). Begins (pass t.caller).seen r.seen)
          (λ (t : Seat X K M) begins. begins_trans (pass t.caller).seen q.seen r.seen begins mine) seats joins.theirs)
          (theirs, tt);
    }

-- the next is joined too
pub joined_more : {X E A G K M : Type 0} (cell : X → Cell Setting) (pass : X → PassOf E A) (gear : X → G) (p q r : X) (all done left after : List (Seat X K M))
    (seat : Seat X K M)
    (kits more : List K) (gears tools : List G) (end end' : ServeEnd)
    → Joined cell pass gear p q all done left kits gears end → left ≡ seat ∷ after → cell r ≡ cell q → gear r ≡ gear q
    → Joins pass (pass p) (pass r) (done ++ seat ∷ [])
    → more ≡ kits ++ seat.kit ∷ [] → tools ≡ gears ++ gear seat.caller ∷ [] → end' ≡ worse end seat.end
    → Joined cell pass gear p r all (done ++ seat ∷ []) after more tools end'
joined_more {X} {E} {A} {G} {K} {M} cell pass gear p q r all done left after seat kits more gears tools end end' before first same_cell same_gear joins kits_are
    gears_are end_is = record {
      cell_is = same_cell ∙ before.cell_is;
      gear_is = same_gear ∙ before.gear_is;
      all_are = before.all_are ∙ ap (λ (ss : List (Seat X K M)). done ++ ss) first ∙ sym (append_assoc done (seat ∷ []) after);
      joins = joins;
      kits_are = kits_are ∙ ap (λ (ks : List K). ks ++ seat.kit ∷ []) before.kits_are ∙ sym (map-append (λ (s : Seat X K M). s.kit) done (seat ∷ []));
      gears_are = gears_are ∙ ap (λ (gs : List G). gs ++ gear seat.caller ∷ []) before.gears_are
          ∙ sym (map-append (λ (s : Seat X K M). gear s.caller) done (seat ∷ []));
      end_is = end_is ∙ ap (λ (e : ServeEnd). worse e seat.end) before.end_is
          ∙ sym (worst_more (map (λ (s : Seat X K M). s.end) done) seat.end)
          ∙ ap worst (sym (map-append (λ (s : Seat X K M). s.end) done (seat ∷ [])));
    }
