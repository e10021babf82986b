-- Drains of a lane, and a request with the drains behind it, event by event.
use Rattle.std.proofs.Common.{◌≡◌, ◌∙◌, ℕ, List, [], ◌++◌, append-nil, arith, refl, sym, ap, subst}
use Rattle.satip_plain.specs.Histories.{Item}
use Rattle.satip_interleave.proofs.Entries.{inners-append}
use Rattle.satip_interleave.specs.Histories.{TunnelItem, inners}
use Rattle.satip_world.specs.Lines.{Line, SentAll, SendFailed}
use Rattle.satip_worker.specs.Progress.{Carries}
use Rattle.satip_worker.proofs.ProgressLemmas.{calm_from, calm_then, carries_nothing, carries_sent, rises_from}
use Rattle.satip_tunnel.specs.Events.{UnmadeEvent}
use Rattle.satip_tunnel.specs.Walk.{MayDrain, Stance, Draining}
use Rattle.satip_tunnel.specs.Wire.{wire}
use Rattle.satip_tunnel.specs.Seats.{Seat, conn_at}
use Rattle.satip_tunnel.specs.Exchanges.{Talks, Drains, DrainsInPart, DrainsToStop}
use Rattle.satip_tunnel.specs.Pauses.{dry_in}
use Rattle.satip_tunnel.proofs.PauseLemmas.{dry-append}
use Rattle.satip_tunnel.proofs.SeatLemmas.{grows_none, grows_then}
use Rattle.satip_tunnel.proofs.WalkLemmas.{walk_then, wire-append, in_part_behind}

-- all bytes were sent
pub carries_all : (tells : Type 0) (l m : Line) (bytes : List ℕ) → SentAll tells l m bytes → Carries tells l m [] bytes
carries_all tells l m bytes sent = record {
  content = sent.content;
  idles = omega (arith, sent.counts.idles);
  receive_faults = omega (arith, sent.counts.receive_faults);
  send_faults = omega (arith, sent.counts.send_faults);
}

-- a beginning was
pub carries_part : (tells : Type 0) (l m : Line) (bytes : List ℕ) (failed : SendFailed tells l m bytes) → Carries tells l m [] failed.part
carries_part tells l m bytes failed = record {
  content = failed.content;
  idles = omega (arith, failed.idles);
  receive_faults = omega (arith, failed.receive_faults);
  send_faults = failed.send_faults.kept;
}

-- one part behind another
pub talks_then : (tells : Type 0) (lane : ℕ) (o p n : Seat) (l k m : Line) (from mid to : Stance) (xs ys : List TunnelItem) (first second : List ℕ)
    → Talks tells lane (conn_at o l) (conn_at p k) from mid xs first → Talks tells lane (conn_at p k) (conn_at n m) mid to ys second
    → Talks tells lane (conn_at o l) (conn_at n m) from to (xs ++ ys) (first ++ second)
talks_then tells lane o p n l k m from mid to xs ys first second a b = record {
  walk = walk_then lane from mid to xs ys a.walk b.walk;
  grows = grows_then o p n xs ys a.grows b.grows;
  carries = carries_sent tells l k m [] first second a.carries b.carries;
  input = b.input ∙ a.input;
  idles = b.idles ∙ a.idles;
}

-- with the wire of all of them
pub talks_whole : (tells : Type 0) (lane : ℕ) (o p n : Seat) (l k m : Line) (from mid to : Stance) (xs ys : List TunnelItem)
    → Talks tells lane (conn_at o l) (conn_at p k) from mid xs (wire xs) → Talks tells lane (conn_at p k) (conn_at n m) mid to ys (wire ys)
    → Talks tells lane (conn_at o l) (conn_at n m) from to (xs ++ ys) (wire (xs ++ ys))
talks_whole tells lane o p n l k m from mid to xs ys a b =
    let P : List ℕ → Type 0 = λ s. Talks tells lane (conn_at o l) (conn_at n m) from to (xs ++ ys) s in
    subst P (sym (wire-append xs ys)) (talks_then tells lane o p n l k m from mid to xs ys (wire xs) (wire ys) a b)

-- the entries of the server behind none
pub inners_behind : (xs ys : List TunnelItem) (some : List Item) → inners xs ≡ [] → inners ys ≡ some → inners (xs ++ ys) ≡ some
inners_behind xs ys some none is = inners-append xs ys ∙ ap (λ (h : List Item). h ++ inners ys) none ∙ is

-- and before none
pub inners_before : (xs ys : List TunnelItem) (some : List Item) → inners xs ≡ some → inners ys ≡ [] → inners (xs ++ ys) ≡ some
inners_before xs ys some is none =
    inners-append xs ys ∙ ap (λ (h : List Item). h ++ inners ys) is ∙ ap (λ (h : List Item). some ++ h) none ∙ append-nil some

-- nothing was drained yet
abbrev pub drains_none : (tells : Type 0) (lane : ℕ) (o : Seat) (l : Line) (from : Stance) → Drains tells lane (conn_at o l) (conn_at o l) from from
drains_none tells lane o l from = record {
  entries = [];
  none_asked = refl;
  dry = omega arith;
  talks = record { walk = refl; grows = grows_none o; carries = carries_nothing tells l; input = refl; idles = refl };
  calm = calm_from l;
}

-- the history was full before the next drain
pub drains_stopped : (tells : Type 0) (lane : ℕ) (o n : Seat) (l : Line) (from : Stance) → MayDrain from → UnmadeEvent o n
    → DrainsToStop tells lane (conn_at o l) (conn_at n l) from
drains_stopped tells lane o n l from may unmade = record {
  to = from;
  going = may;
  drains = record {
    entries = [];
    none_asked = refl;
    dry = omega arith;
    talks = record { walk = refl; grows = unmade.grows; carries = carries_nothing tells l; input = refl; idles = refl };
    calm = calm_from l;
  };
  dry = refl;
  full = unmade.full;
}

module _ (tells : Type 0) (lane : ℕ) (o p n : Seat) (l k m : Line) (from mid : Stance) (before : Drains tells lane (conn_at o l) (conn_at p k) from mid)
    (none_dry : dry_in before.entries ≡ 0) where
  -- none of the later drains found no frame either
  none_dry_then : (entries : List TunnelItem) → dry_in entries ≡ 0 → dry_in (before.entries ++ entries) ≡ 0
  none_dry_then entries none = omega (arith, none_dry, none, dry-append before.entries entries)

  abbrev pub drains_then : (to : Stance) → Drains tells lane (conn_at p k) (conn_at n m) mid to → Drains tells lane (conn_at o l) (conn_at n m) from to
  drains_then to next = record {
    entries = before.entries ++ next.entries;
    none_asked = inners_behind before.entries next.entries [] before.none_asked next.none_asked;
    dry = let few = next.dry in omega (arith, none_dry, few, dry-append before.entries next.entries);
    talks = talks_whole tells lane o p n l k m from mid to before.entries next.entries before.talks next.talks;
    calm = calm_then l k m before.calm next.calm;
  }

  pub drains_then_lost : DrainsInPart tells lane (conn_at p k) (conn_at n m) mid → DrainsInPart tells lane (conn_at o l) (conn_at n m) from
  drains_then_lost next = record {
    entries = before.entries ++ next.entries;
    none_asked = inners_behind before.entries next.entries [] before.none_asked next.none_asked;
    dry = none_dry_then next.entries next.dry;
    sent = wire before.entries ++ next.sent;
    in_part = in_part_behind before.entries next.entries next.sent next.in_part;
    talks = talks_then tells lane o p n l k m from mid Draining before.entries next.entries (wire before.entries) next.sent before.talks next.talks;
    faults = rises_from l.send_faults k.send_faults m.send_faults before.talks.carries.send_faults next.faults;
    receives = next.receives ∙ before.calm.receive_faults;
  }

  pub drains_then_stop : DrainsToStop tells lane (conn_at p k) (conn_at n m) mid → DrainsToStop tells lane (conn_at o l) (conn_at n m) from
  drains_then_stop next = record {
    to = next.to;
    going = next.going;
    drains = drains_then next.to next.drains;
    dry = none_dry_then next.drains.entries next.dry;
    full = next.full;
  }

  -- frames were sent, and more may wait
  pub drains_dry : (next : Drains tells lane (conn_at p k) (conn_at n m) mid Draining) → dry_in (drains_then Draining next).entries ≡ 0
  drains_dry next = none_dry_then next.entries (let few = next.dry in omega (arith, few))
