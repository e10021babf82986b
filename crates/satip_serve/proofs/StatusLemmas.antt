-- What serving comes to, by its status, from how it ended.
use Rattle.std.proofs.Common.{◌≡◌, ◌∙◌, ℕ, ◌+◌, ◌<◌, ◌≤◌, ◌⊎◌, ◌↔◌, inl, inr, true, List, Option, Some, None, option_map, IfSome, IsNone, IsSome, IsSomeAnd, MatchOption, refl}
use Rattle.std.proofs.Common.{sym, ap, subst, ⊎_elim, arith}
use Rattle.satip_base.specs.Streams.{Feed, Rose}
use Rattle.satip_world.specs.Counts.{Rises}
use Rattle.satip_world.specs.Recordings.{IsStarted}
use Rattle.satip_plain.specs.Types.{Config as Configuration}
use Rattle.satip_config.specs.declared.fault.ConfigFault.{ConfigFault}
use Rattle.satip_base.specs.Lists.{Each, Has}
use Rattle.satip_config.specs.Configurations.{configuration_limit, Configured, Refused}
use Rattle.satip_jobs.specs.declared.end.ServeEnd.{ServeEnd}
use Rattle.satip_jobs.specs.declared.end.ServeEnd.TheVariants as serves
use Rattle.satip_serve.specs.ServeRuns.{HasFault, MatchEnd}
use Rattle.satip_desk.specs.Views.{DeskView, WorkerView, JobsView}
use Rattle.satip_serve.specs.declared.command.ServingEnd.{ServingEnd}
use Rattle.satip_serve.specs.declared.command.ServingEnd.TheVariants.{Served, Configuration as OfConfiguration, InputFault, DoorsFault, HistoryFull}
use Rattle.satip_serve.specs.declared.command.ServingEnd.TheVariants.{OutOfMemory}
use Rattle.satip_serve.specs.CommandEnds.{RanBy, ServingEnds, ServingLeft}
use Rattle.satip_desk.specs.Given.{ComeUnused}
use Rattle.satip_serve.specs.CommandRan.{EndsAtLimit, JobsEnd}
use Rattle.satip_serve.specs.Ran.{AreAtLimit}
use Rattle.satip_desk.specs.Desks.{GivenFrom}
use Rattle.satip_serve.specs.Servings.{end_of_run, IsServingOf, IsEndOfRun, IsOneOf, IsNeitherOf}
use Rattle.satip_desk.specs.Fresh.{AreUnused}
use Rattle.satip_serve.specs.Statuses.{serve_statuses, serving_status}

-- how jobs ended, by the status
pub jobs_end : (end : ServeEnd) (workers : List WorkerView) (full : Type 0)
    → MatchEnd end (Each (λ (w : WorkerView). w.hall.ended ≡ true) workers) (HasFault workers) full
    → JobsEnd workers full (serving_status (end_of_run end))
jobs_end serves.Served workers full tells = record {
  begun = inl refl;
  served = λ is. tells;
  doors_fault = λ is. absurd (omega (arith, is));
  history_full = λ is. absurd (omega (arith, is));
}
jobs_end serves.DoorsFault workers full tells = record {
  begun = inr (inl refl);
  served = λ is. absurd (omega (arith, is));
  doors_fault = λ is. tells;
  history_full = λ is. absurd (omega (arith, is));
}
jobs_end serves.HistoryFull workers full tells = record {
  begun = inr (inr refl);
  served = λ is. absurd (omega (arith, is));
  doors_fault = λ is. absurd (omega (arith, is));
  history_full = λ is. tells;
}

-- doors at their limit, by the status
pub limit_told : (by_limit : Type 0) (end : ServeEnd) (workers : List WorkerView) → AreAtLimit by_limit end workers
    → EndsAtLimit by_limit workers (serving_status (end_of_run end))
limit_told by_limit serves.Served workers limits is limited = limits refl limited
limit_told by_limit serves.DoorsFault workers limits is limited = absurd (omega (arith, is))
limit_told by_limit serves.HistoryFull workers limits is limited = absurd (omega (arith, is))

-- the statuses of a serve
has_end : (end : ServingEnd) → Has (serving_status end) serve_statuses
has_end Served = inl refl
has_end (OfConfiguration fault) = inr (inl refl)
has_end InputFault = inr (inr (inl refl))
has_end DoorsFault = inr (inr (inr (inl refl)))
has_end HistoryFull = inr (inr (inr (inr (inl refl))))
has_end OutOfMemory = inr (inr (inr (inr (inr (inl refl)))))

-- how the reading of a configuration bears on the end
record IsRead (ct : Type 0) (a b : Feed) (end : ServingEnd) : Type 0 where
  refused : (fault : ConfigFault) → end ≡ OfConfiguration fault → Refused ct a b fault
  failed : end ≡ InputFault → Rose a.faults b.faults
  faults : (end ≡ InputFault → ⊥) → b.faults ≡ a.faults
  settled : ct → (Rose a.faults b.faults → ⊥) → IsServingOf a.left end

-- there is one: jobs began, or the desk gave no kits, or there was no memory
abbrev IsBehindReading : ServingEnd → Type 0
IsBehindReading Served = Unit {0}
IsBehindReading (OfConfiguration fault) = ⊥
IsBehindReading InputFault = ⊥
IsBehindReading DoorsFault = Unit {0}
IsBehindReading HistoryFull = Unit {0}
IsBehindReading OutOfMemory = Unit {0}

behind_run : (end : ServingEnd) → IsEndOfRun end → IsBehindReading end
behind_run Served began = tt
behind_run (OfConfiguration fault) began = absurd began
behind_run InputFault began = absurd began
behind_run DoorsFault began = tt
behind_run HistoryFull began = tt
behind_run OutOfMemory began = tt

serving_of : (text : List ℕ) (end : ServingEnd) → IsBehindReading end → IsServingOf text Served → IsServingOf text end
serving_of text Served behind is = is
serving_of text (OfConfiguration fault) behind is = absurd behind
serving_of text InputFault behind is = absurd behind
serving_of text DoorsFault behind is = is
serving_of text HistoryFull behind is = is
serving_of text OutOfMemory behind is = tt

never_refused : (fault : ConfigFault) (end : ServingEnd) → IsBehindReading end → end ≡ OfConfiguration fault → ⊥
never_refused fault end behind is = subst IsBehindReading is behind

never_input : (end : ServingEnd) → IsBehindReading end → end ≡ InputFault → ⊥
never_input end behind is = subst IsBehindReading is behind

read_well : (ct : Type 0) (a b : Feed) (c : Configuration) (end : ServingEnd) → Configured ct a b c → IsBehindReading end → IsRead ct a b end
read_well ct a b c end well behind = record {
  refused = λ fault is. absurd (never_refused fault end behind is);
  failed = λ is. absurd (never_input end behind is);
  faults = λ other. well.whole.faults;
  settled = λ told still.
      let P : List ℕ → Type 0 = λ t. IsServingOf t Served in
      serving_of a.left end behind (subst P (sym (well.whole.content told)) (record { configuration = c; configured = well.configured }));
}

-- what came of the desk's kits, by the end
record IsLeft {L J : Type 0} (before now : ℕ) (given : Option JobsView) (last : Option L) (unused : Option J) (end : ServingEnd) : Type 0 where
  config : (now ≡ before) ⊎ ((end ≡ DoorsFault) × IsNone last)
  unused_end : IfSome unused (λ _. end ≡ OutOfMemory)
  served : (end ≡ Served) ⊎ (end ≡ HistoryFull) → IsSome last
  doors_fault : end ≡ DoorsFault → IsNone last → (given ≡ None) × Rises before now

-- how serving ended that has this status
ends_by_input : (end : ServingEnd) → serving_status end ≡ 5 → end ≡ InputFault
ends_by_input Served is = absurd (omega (arith, is))
ends_by_input (OfConfiguration fault) is = absurd (omega (arith, is))
ends_by_input InputFault is = refl
ends_by_input DoorsFault is = absurd (omega (arith, is))
ends_by_input HistoryFull is = absurd (omega (arith, is))
ends_by_input OutOfMemory is = absurd (omega (arith, is))

ends_by_doors : (end : ServingEnd) → serving_status end ≡ 7 → end ≡ DoorsFault
ends_by_doors Served is = absurd (omega (arith, is))
ends_by_doors (OfConfiguration fault) is = absurd (omega (arith, is))
ends_by_doors InputFault is = absurd (omega (arith, is))
ends_by_doors DoorsFault is = refl
ends_by_doors HistoryFull is = absurd (omega (arith, is))
ends_by_doors OutOfMemory is = absurd (omega (arith, is))

ends_by_serving : (end : ServingEnd) → (serving_status end ≡ 0) ⊎ (serving_status end ≡ 9) → (end ≡ Served) ⊎ (end ≡ HistoryFull)
ends_by_serving Served is = inl refl
ends_by_serving HistoryFull is = inr refl
ends_by_serving (OfConfiguration fault) (inl is) = absurd (omega (arith, is))
ends_by_serving (OfConfiguration fault) (inr is) = absurd (omega (arith, is))
ends_by_serving InputFault (inl is) = absurd (omega (arith, is))
ends_by_serving InputFault (inr is) = absurd (omega (arith, is))
ends_by_serving DoorsFault (inl is) = absurd (omega (arith, is))
ends_by_serving DoorsFault (inr is) = absurd (omega (arith, is))
ends_by_serving OutOfMemory (inl is) = absurd (omega (arith, is))
ends_by_serving OutOfMemory (inr is) = absurd (omega (arith, is))

-- status 3: the configuration has a fault
refused_at : (Refusal : ConfigFault → Type 0) (end : ServingEnd) → ((fault : ConfigFault) → end ≡ OfConfiguration fault → Refusal fault)
    → serving_status end ≡ 3 → (fault : ConfigFault) × (end ≡ OfConfiguration fault) × Refusal fault
refused_at Refusal Served refused is = absurd (omega (arith, is))
refused_at Refusal (OfConfiguration fault) refused is = (fault, refl, refused fault refl)
refused_at Refusal InputFault refused is = absurd (omega (arith, is))
refused_at Refusal DoorsFault refused is = absurd (omega (arith, is))
refused_at Refusal HistoryFull refused is = absurd (omega (arith, is))
refused_at Refusal OutOfMemory refused is = absurd (omega (arith, is))

-- status 5 comes exactly where the configuration's source failed
is_input : (end : ServingEnd) → (end ≡ InputFault) ⊎ (end ≡ InputFault → ⊥)
is_input Served = inr (λ is. cc)
is_input (OfConfiguration fault) = inr (λ is. cc)
is_input InputFault = inl refl
is_input DoorsFault = inr (λ is. cc)
is_input HistoryFull = inr (λ is. cc)
is_input OutOfMemory = inr (λ is. cc)

never_failed : (faults : ℕ) → faults ≡ 0 → Rose 0 faults → ⊥
never_failed faults none failed =
    ⊎_elim (λ (less : 0 < faults). omega (arith, less, none)) (λ (last : 18446744073709551615 ≤ faults). omega (arith, last, none)) failed

input_told : (ct : Type 0) (a b : Feed) (end : ServingEnd) → a.faults ≡ 0 → IsRead ct a b end → (serving_status end ≡ 5) ↔ Rose 0 b.faults
input_told ct a b end new read = (
  (λ is. let R : ℕ → Type 0 = λ k. Rose k b.faults in subst R new (read.failed (ends_by_input end is))),
  λ failed.
      ⊎_elim (λ (is : end ≡ InputFault). ap serving_status is)
      (λ (other : end ≡ InputFault → ⊥). absurd (never_failed b.faults (read.faults other ∙ new) failed)) (is_input end),
)

-- what the text of the configuration says of the status
settled_told : (ct : Type 0) (text : Option (List ℕ)) (a b : Feed) (end : ServingEnd) → IsStarted ct a text → IsRead ct a b end
    → (told : List ℕ) → text ≡ Some told → (Rose 0 b.faults → ⊥) → IsServingOf told end
settled_told ct text a b end started read told is still =
    let P : Option (List ℕ) → Type 0 = λ t. IsStarted ct a t in
    let begun : IsStarted ct a (Some told) = subst P is started in
    let R : ℕ → Type 0 = λ k. Rose k b.faults in
    let Q : List ℕ → Type 0 = λ t. IsServingOf t end in
    subst Q begun.holds.1 (read.settled begun.holds.0 (λ rose. still (subst R begun.faults rose)))

-- all of it, where the desk opened the configuration
ends_by : {L : Type 0} (ct : Type 0) (accepts : ℕ) (name : List ℕ) (d f : DeskView) (Ran : JobsView → Configuration → L → Type 0) (last : Option L)
    (unused : Option JobsView) (end : ServingEnd) (a b : Feed)
    → IsStarted ct a (d.text name) → a.taken ≡ 0 → b.taken ≤ a.taken + configuration_limit + 1
    → IsRead ct a b end → IsLeft d.faults f.faults f.given last unused end
    → IfSome last (λ l. IsSomeAnd f.given (λ g. RanBy ct (d.text name) b (λ c. Ran g c l)))
    → MatchOption f.given (IsNeitherOf last unused) (λ _. IsOneOf last unused) → IfSome unused (λ k. IsSomeAnd f.given (λ g. ComeUnused g k))
    → IfSome unused (AreUnused accepts)
    → ServingEnds ct (λ fault. end ≡ OfConfiguration fault) accepts name d f Ran
    (record { source = Some b; last = last; unused = unused; status = serving_status end })
ends_by ct accepts name d f Ran last unused end a b started untaken limit read left ran kits kits_unused unused_kits = record {
  status_is = has_end end;
  ran = ran;
  config =
      ⊎_elim (λ (same : f.faults ≡ d.faults). inl same) (λ (none : (end ≡ DoorsFault) × IsNone last). inr (ap serving_status none.0, none.1)) left.config;
  config_limit = omega (arith, limit, untaken);
  read = λ other. read.faults (λ is. other (ap serving_status is)) ∙ started.faults;
  kits = kits;
  kits_unused = kits_unused;
  unused_kits = unused_kits;
  unused_status = unused_told unused end left.unused_end;
  served = λ is. left.served (ends_by_serving end is);
  configuration = λ is.
      refused_at (λ fault. GivenFrom ct (d.text name) (λ from. Refused ct from b fault)) end
      (λ fault same. record { source = a; started = started; untaken = untaken; said = read.refused fault same }) is;
  input = input_told ct a b end started.faults read;
  doors_fault = λ is none. left.doors_fault (ends_by_doors end is) none;
  settled = λ told is still. record { ending = end; told = refl; ends = settled_told ct (d.text name) a b end started read told is still };
} where
  unused_told : {J : Type 0} (unused : Option J) (end : ServingEnd) → IfSome unused (λ _. end ≡ OutOfMemory) → IfSome unused (λ _. serving_status end ≡ 70)
  unused_told None end none = none
  unused_told (Some kits) end none = ap serving_status none

-- the desk gave kits
left_by : {L J : Type 0} (before now : ℕ) (given : Option JobsView) (last : Option L) (unused : Option J) (end : ServingEnd) → now ≡ before
    → IsOneOf last unused
    → MatchOption last (end ≡ OutOfMemory) (λ _. IsEndOfRun end) → IsLeft before now given last unused end
left_by before now given (Some l) None end same one begun =
    record { config = inl same; unused_end = tt; served = λ is. refl; doors_fault = λ is no. absurd (cc no) }
left_by before now given None (Some k) end same one begun = record {
  config = inl same;
  unused_end = begun;
  served = λ is.
      ⊎_elim (λ (served : end ≡ Served). absurd (cc (sym begun ∙ served))) (λ (full : end ≡ HistoryFull). absurd (cc (sym begun ∙ full))) is;
  doors_fault = λ is no. absurd (cc (sym begun ∙ is));
}
left_by before now given (Some l) (Some k) end same (inl one) begun = absurd (cc one.1)
left_by before now given (Some l) (Some k) end same (inr one) begun = absurd (cc one.0)
left_by before now given None None end same (inl one) begun = absurd (cc one.0)
left_by before now given None None end same (inr one) begun = absurd (cc one.1)

behind : {L : Type 0} (last : Option L) (end : ServingEnd) → MatchOption last (end ≡ OutOfMemory) (λ _. IsEndOfRun end) → IsBehindReading end
behind (Some l) end begun = behind_run end begun
behind None end begun = subst IsBehindReading (sym begun) tt

-- each is so with the kits that were given
with_given : {T G : Type 0} (x : Option T) (given : Option G) (g : G) (P : G → T → Type 0) → given ≡ Some g → IfSome x (P g)
    → IfSome x (λ t. IsSomeAnd given (λ h. P h t))
with_given None given g P is each = tt
with_given (Some t) given g P is each = rw is each

-- as contracts see it
some_seen : {S T : Type 0} (see : S → T) (P : T → Type 0) (x : Option S) → IfSome x (λ s. P (see s)) → IfSome (option_map see x) P
some_seen see P None is = tt
some_seen see P (Some s) is = is

one_seen : {S T U V : Type 0} (see : S → U) (view : T → V) (x : Option S) (y : Option T) → IsOneOf x y → IsOneOf (option_map see x) (option_map view y)
one_seen see view (Some s) None one = inl (refl, refl)
one_seen see view None (Some t) one = inr (refl, refl)
one_seen see view (Some s) (Some t) (inl one) = absurd (cc one.1)
one_seen see view (Some s) (Some t) (inr one) = absurd (cc one.0)
one_seen see view None None (inl one) = absurd (cc one.0)
one_seen see view None None (inr one) = absurd (cc one.1)

begun_seen : {S T : Type 0} (see : S → T) (A B : Type 0) (x : Option S) → MatchOption x A (λ _. B) → MatchOption (option_map see x) A (λ _. B)
begun_seen see A B None is = is
begun_seen see A B (Some s) is = is

ran_seen : {S L : Type 0} (ct : Type 0) (text : Option (List ℕ)) (a b : Feed) (c : Configuration) (see : S → L) (Ran : Configuration → L → Type 0)
    (x : Option S) → GivenFrom ct text (λ from. Configured ct from b c) → IfSome x (λ s. Ran c (see s))
    → IfSome (option_map see x) (λ l. RanBy ct text b (λ d. Ran d l))
ran_seen ct text a b c see Ran None from ran = tt
ran_seen ct text a b c see Ran (Some s) from ran = record { config = c; configured = from; ran = ran }

pub pair_each : {T : Type 0} (x : Option T) (P Q : T → Type 0) → IfSome x P → IfSome x Q → IfSome x (λ t. P t × Q t)
pair_each None P Q p q = tt
pair_each (Some t) P Q p q = (p, q)

-- the desk gave these kits for the configuration that was read, and jobs ran with them or are to run no more. `see` and `view` are how contracts see what jobs
-- leave, and kits
pub kits_ends : {S L J ct : Type 0} {accepts : ℕ} {name : List ℕ} {d f : DeskView} {Ran : JobsView → Configuration → L → Type 0} (see : S → L)
    (view : J → JobsView) (last : Option S) (unused : Option J) (end : ServingEnd) (a b : Feed) (c : Configuration) (given : JobsView)
    → IsStarted ct a (d.text name) → a.taken ≡ 0 → b.taken ≤ a.taken + configuration_limit + 1
    → Configured ct a b c → f.given ≡ Some given → f.faults ≡ d.faults
    → IsOneOf last unused → IfSome last (λ l. Ran given c (see l))
    → MatchOption last (end ≡ OutOfMemory) (λ _. IsEndOfRun end) → IfSome unused (λ k. ComeUnused given (view k))
    → IfSome unused (λ k. AreUnused accepts (view k))
    → ServingEnds ct (λ fault. end ≡ OfConfiguration fault) accepts name d f Ran
    (record { source = Some b; last = option_map see last; unused = option_map view unused; status = serving_status end })
kits_ends {L = L} {ct = ct} {accepts = accepts} {name = name} {d = d} {f = f} {Ran = Ran} see view last unused end a b c given started untaken limit well is same
    one ran begun kits_unused unused_kits =
    let seen : Option L = option_map see last in
    let left : Option JobsView = option_map view unused in
    let one_is : IsOneOf seen left = one_seen see view last unused one in
    let begun_is : MatchOption seen (end ≡ OutOfMemory) (λ _. IsEndOfRun end) = begun_seen see (end ≡ OutOfMemory) (IsEndOfRun end) last begun in
    ends_by ct accepts name d f Ran seen left end a b started untaken limit
    (read_well ct a b c end well (behind seen end begun_is))
    (left_by d.faults f.faults f.given seen left end same one_is begun_is)
    (with_given seen f.given given (λ g l. RanBy ct (d.text name) b (λ k. Ran g k l)) is
    (ran_seen ct (d.text name) a b c see (Ran given) last (record { source = a; started = started; untaken = untaken; said = well }) ran))
    (rw is one_is)
    (with_given left f.given given (λ g k. ComeUnused g k) is (some_seen view (ComeUnused given) unused kits_unused))
    (some_seen view (AreUnused accepts) unused unused_kits)

-- the desk failed to open the configuration
pub unopened_ends : {L ct : Type 0} {accepts : ℕ} {name : List ℕ} {d f : DeskView} {Ran : JobsView → Configuration → L → Type 0} → f.given ≡ None
    → Rises d.faults f.faults
    → ServingEnds ct (λ fault. InputFault ≡ OfConfiguration fault) accepts name d f Ran (record { source = None; last = None; unused = None; status = 5 })
unopened_ends none rises = record {
  status_is = has_end InputFault;
  ran = tt;
  config = rises;
  config_limit = tt;
  read = λ other. absurd (other refl);
  kits = rw none (refl, refl);
  kits_unused = tt;
  unused_kits = tt;
  unused_status = tt;
  served = λ is. ⊎_elim (λ (served : 5 ≡ 0). absurd (omega (arith, served))) (λ (full : 5 ≡ 9). absurd (omega (arith, full))) is;
  configuration = λ is. absurd (omega (arith, is));
  input = ((λ is. rises), λ failed. refl);
  doors_fault = λ is no. absurd (omega (arith, is));
  settled = λ told is. tt;
}

-- the configuration's fault is told in another way
pub told_otherwise : {L ct : Type 0} {Told Tells : ConfigFault → Type 0} {accepts : ℕ} {name : List ℕ} {d f : DeskView}
    {Ran : JobsView → Configuration → L → Type 0} {left : ServingLeft L} → ((fault : ConfigFault) → Told fault → Tells fault)
    → ServingEnds ct Told accepts name d f Ran left → ServingEnds ct Tells accepts name d f Ran left
told_otherwise tells ends = record {
  status_is = ends.status_is;
  ran = ends.ran;
  config = ends.config;
  config_limit = ends.config_limit;
  read = ends.read;
  kits = ends.kits;
  kits_unused = ends.kits_unused;
  unused_kits = ends.unused_kits;
  unused_status = ends.unused_status;
  served = ends.served;
  configuration = λ is. let told = ends.configuration is in (told.0, tells told.0 told.1, told.2);
  input = ends.input;
  doors_fault = ends.doors_fault;
  settled = ends.settled;
}
