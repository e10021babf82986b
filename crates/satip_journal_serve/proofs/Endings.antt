-- How serving with journals ends, by its status.
use Rattle.std.proofs.Common.{◌≡◌, ◌∙◌, ℕ, ◌<◌, ◌≤◌, ◌⊎◌, ◌↔◌, inl, inr, List, Option, Some, None, IfSome, IsNone, IsSome, refl, ap, subst}
use Rattle.std.proofs.Common.{⊎_elim, arith}
use Rattle.satip_base.specs.Streams.{Feed, Rose}
use Rattle.satip_world.specs.Counts.{Rises}
use Rattle.satip_world.specs.Recordings.{IsStarted}
use Rattle.satip_config.specs.declared.fault.ConfigFault.{ConfigFault}
use Rattle.satip_base.specs.Lists.{Has}
use Rattle.satip_desk.specs.Desks.{GivenFrom}
use Rattle.satip_config.specs.Lines.{configuration_line}
use Rattle.satip_config.specs.Outcomes.{line_of}
use Rattle.satip_journal_serve.specs.declared.ends.JournalEnd.{JournalEnd}
use Rattle.satip_journal_serve.specs.declared.ends.JournalEnd.TheVariants.{Served, Configuration, InputFault, JournalFault, DoorsFault, HistoryFull}
use Rattle.satip_journal_serve.specs.declared.ends.JournalEnd.TheVariants.{OutOfMemory}
use Rattle.satip_journal_serve.specs.Statuses.{journal_statuses, journal_status, outcome_of, IsEndOfRun, IsUnusedEnd, IsUnready, IsJournalOf}
use Rattle.satip_journal_serve.specs.Statuses.{IsJournalSettled}

-- the status is one of serving with journals
pub has_end : (end : JournalEnd) → Has (journal_status end) journal_statuses
has_end Served = inl refl
has_end (Configuration fault) = inr (inl refl)
has_end InputFault = inr (inr (inl refl))
has_end JournalFault = inr (inr (inr (inl refl)))
has_end DoorsFault = inr (inr (inr (inr (inl refl))))
has_end HistoryFull = inr (inr (inr (inr (inr (inl refl)))))
has_end OutOfMemory = inr (inr (inr (inr (inr (inr (inl refl))))))

-- status 3: the configuration's fault is told
pub fault_told : (Line : List ℕ → Type 0) (Refusal : ConfigFault → Type 0) (end : JournalEnd) → Line (line_of (outcome_of end))
    → ((fault : ConfigFault) → end ≡ Configuration fault → Refusal fault) → journal_status end ≡ 3
    → (fault : ConfigFault) × Line (configuration_line fault) × Refusal fault
fault_told Line Refusal Served line refused is = absurd (omega (arith, is))
fault_told Line Refusal (Configuration fault) line refused is = (fault, line, refused fault refl)
fault_told Line Refusal InputFault line refused is = absurd (omega (arith, is))
fault_told Line Refusal JournalFault line refused is = absurd (omega (arith, is))
fault_told Line Refusal DoorsFault line refused is = absurd (omega (arith, is))
fault_told Line Refusal HistoryFull line refused is = absurd (omega (arith, is))
fault_told Line Refusal OutOfMemory line refused is = absurd (omega (arith, is))

-- an end by the input, or another
is_input : (end : JournalEnd) → (end ≡ InputFault) ⊎ (end ≡ InputFault → ⊥)
is_input Served = inr (λ is. cc)
is_input (Configuration fault) = inr (λ is. cc)
is_input InputFault = inl refl
is_input JournalFault = inr (λ is. cc)
is_input DoorsFault = inr (λ is. cc)
is_input HistoryFull = inr (λ is. cc)
is_input OutOfMemory = inr (λ is. cc)

pub ends_input : (end : JournalEnd) → journal_status end ≡ 5 → end ≡ InputFault
ends_input Served is = absurd (omega (arith, is))
ends_input (Configuration fault) is = absurd (omega (arith, is))
ends_input InputFault is = refl
ends_input JournalFault is = absurd (omega (arith, is))
ends_input DoorsFault is = absurd (omega (arith, is))
ends_input HistoryFull is = absurd (omega (arith, is))
ends_input OutOfMemory is = absurd (omega (arith, is))

pub ends_memory : (end : JournalEnd) → journal_status end ≡ 70 → end ≡ OutOfMemory
ends_memory Served is = absurd (omega (arith, is))
ends_memory (Configuration fault) is = absurd (omega (arith, is))
ends_memory InputFault is = absurd (omega (arith, is))
ends_memory JournalFault is = absurd (omega (arith, is))
ends_memory DoorsFault is = absurd (omega (arith, is))
ends_memory HistoryFull is = absurd (omega (arith, is))
ends_memory OutOfMemory is = refl

-- jobs that ran don't end by memory that is refused
pub never_memory : {P : Type 0} (end : JournalEnd) → IsEndOfRun end → end ≡ OutOfMemory → P
never_memory end ran is = absurd (subst (λ (e : JournalEnd). IsEndOfRun e) is ran)

-- no job began with the kits
unused_status : (before now : ℕ) (end : JournalEnd) → IsUnusedEnd before now end → (journal_status end ≡ 6) ⊎ (journal_status end ≡ 70)
unused_status before now Served ends = absurd ends
unused_status before now (Configuration fault) ends = absurd ends
unused_status before now InputFault ends = absurd ends
unused_status before now JournalFault ends = inl refl
unused_status before now DoorsFault ends = absurd ends
unused_status before now HistoryFull ends = absurd ends
unused_status before now OutOfMemory ends = inr refl

unused_faults : (before now : ℕ) (end : JournalEnd) → IsUnusedEnd before now end → (now ≡ before) ⊎ ((journal_status end ≡ 6) ⊎ (journal_status end ≡ 7))
unused_faults before now Served ends = absurd ends
unused_faults before now (Configuration fault) ends = absurd ends
unused_faults before now InputFault ends = absurd ends
unused_faults before now JournalFault ends = inr (inl refl)
unused_faults before now DoorsFault ends = absurd ends
unused_faults before now HistoryFull ends = absurd ends
unused_faults before now OutOfMemory ends = inl ends

-- there were no kits
unready_faults : {V : Type 0} (before now : ℕ) (given : Option V) (end : JournalEnd) → IsUnready before now given end
    → (now ≡ before) ⊎ ((journal_status end ≡ 6) ⊎ (journal_status end ≡ 7))
unready_faults before now given Served ends = absurd ends
unready_faults before now given (Configuration fault) ends = inl ends
unready_faults before now given InputFault ends = inl ends
unready_faults before now given JournalFault ends = absurd ends
unready_faults before now given DoorsFault ends = inr (inr refl)
unready_faults before now given HistoryFull ends = absurd ends
unready_faults before now given OutOfMemory ends = inl ends

unused_rises : (before now : ℕ) (end : JournalEnd) → IsUnusedEnd before now end → journal_status end ≡ 6 → Rises before now
unused_rises before now Served ends is = absurd ends
unused_rises before now (Configuration fault) ends is = absurd ends
unused_rises before now InputFault ends is = absurd ends
unused_rises before now JournalFault ends is = ends
unused_rises before now DoorsFault ends is = absurd ends
unused_rises before now HistoryFull ends is = absurd ends
unused_rises before now OutOfMemory ends is = absurd (omega (arith, is))

never_begun : (before now : ℕ) (end : JournalEnd) → IsUnusedEnd before now end → (journal_status end ≡ 0) ⊎ (journal_status end ≡ 9) → ⊥
never_begun before now Served ends is = absurd ends
never_begun before now (Configuration fault) ends is = absurd ends
never_begun before now InputFault ends is = absurd ends
never_begun before now JournalFault ends is =
    ⊎_elim (λ (a : journal_status JournalFault ≡ 0). omega (arith, a)) (λ (b : journal_status JournalFault ≡ 9). omega (arith, b)) is
never_begun before now DoorsFault ends is = absurd ends
never_begun before now HistoryFull ends is = absurd ends
never_begun before now OutOfMemory ends is = ⊎_elim (λ (a : journal_status OutOfMemory ≡ 0). omega (arith, a))
    (λ (b : journal_status OutOfMemory ≡ 9). omega (arith, b)) is

never_ready : {V : Type 0} (before now : ℕ) (given : Option V) (end : JournalEnd) → IsUnready before now given end
    → (journal_status end ≡ 0) ⊎ (journal_status end ≡ 9) → ⊥
never_ready before now given Served ends is = absurd ends
never_ready before now given (Configuration fault) ends is =
    ⊎_elim (λ (a : journal_status (Configuration fault) ≡ 0). omega (arith, a)) (λ (b : journal_status (Configuration fault) ≡ 9). omega (arith, b)) is
never_ready before now given InputFault ends is =
    ⊎_elim (λ (a : journal_status InputFault ≡ 0). omega (arith, a)) (λ (b : journal_status InputFault ≡ 9). omega (arith, b)) is
never_ready before now given JournalFault ends is = absurd ends
never_ready before now given DoorsFault ends is =
    ⊎_elim (λ (a : journal_status DoorsFault ≡ 0). omega (arith, a)) (λ (b : journal_status DoorsFault ≡ 9). omega (arith, b)) is
never_ready before now given HistoryFull ends is = absurd ends
never_ready before now given OutOfMemory ends is =
    ⊎_elim (λ (a : journal_status OutOfMemory ≡ 0). omega (arith, a)) (λ (b : journal_status OutOfMemory ≡ 9). omega (arith, b)) is

unready_journals : {V : Type 0} (before now : ℕ) (given : Option V) (end : JournalEnd) → IsUnready before now given end → journal_status end ≡ 6 → ⊥
unready_journals before now given Served ends is = absurd ends
unready_journals before now given (Configuration fault) ends is = omega (arith, is)
unready_journals before now given InputFault ends is = omega (arith, is)
unready_journals before now given JournalFault ends is = absurd ends
unready_journals before now given DoorsFault ends is = omega (arith, is)
unready_journals before now given HistoryFull ends is = absurd ends
unready_journals before now given OutOfMemory ends is = omega (arith, is)

unready_doors : {V : Type 0} (before now : ℕ) (given : Option V) (end : JournalEnd) → IsUnready before now given end → journal_status end ≡ 7
    → (given ≡ None) × Rises before now
unready_doors before now given Served ends is = absurd ends
unready_doors before now given (Configuration fault) ends is = absurd (omega (arith, is))
unready_doors before now given InputFault ends is = absurd (omega (arith, is))
unready_doors before now given JournalFault ends is = absurd ends
unready_doors before now given DoorsFault ends is = ends
unready_doors before now given HistoryFull ends is = absurd ends
unready_doors before now given OutOfMemory ends is = absurd (omega (arith, is))

unused_doors : (before now : ℕ) (end : JournalEnd) → IsUnusedEnd before now end → journal_status end ≡ 7 → ⊥
unused_doors before now Served ends is = absurd ends
unused_doors before now (Configuration fault) ends is = absurd ends
unused_doors before now InputFault ends is = absurd ends
unused_doors before now JournalFault ends is = omega (arith, is)
unused_doors before now DoorsFault ends is = absurd ends
unused_doors before now HistoryFull ends is = absurd ends
unused_doors before now OutOfMemory ends is = omega (arith, is)

-- what is known of an end, by what was left
pub record IsLeft {L J V : Type 0} (before now : ℕ) (given : Option V) (last : Option L) (unused : Option J) (end : JournalEnd) : Type 0 where
  pub no_fault : IfSome last (λ _. now ≡ before)
  pub unused_end : IfSome unused (λ _. IsUnusedEnd before now end)
  pub not_begun : IsNone last → IsNone unused → IsUnready before now given end

pub faults_told : {L J V : Type 0} (before now : ℕ) (given : Option V) (last : Option L) (unused : Option J) (end : JournalEnd)
    → IsLeft before now given last unused end
    → (now ≡ before) ⊎ (((journal_status end ≡ 6) ⊎ (journal_status end ≡ 7)) × IsNone last)
faults_told before now given (Some l) unused end left = inl left.no_fault
faults_told before now given None (Some k) end left =
    ⊎_elim (λ (same : now ≡ before). inl same) (λ (is : (journal_status end ≡ 6) ⊎ (journal_status end ≡ 7)). inr (is, refl))
    (unused_faults before now end left.unused_end)
faults_told before now given None None end left =
    ⊎_elim (λ (same : now ≡ before). inl same) (λ (is : (journal_status end ≡ 6) ⊎ (journal_status end ≡ 7)). inr (is, refl))
    (unready_faults before now given end (left.not_begun refl refl))

pub unused_told : {L J V : Type 0} (before now : ℕ) (given : Option V) (last : Option L) (unused : Option J) (end : JournalEnd)
    → IsLeft before now given last unused end
    → IfSome unused (λ _. (journal_status end ≡ 6) ⊎ (journal_status end ≡ 70))
unused_told before now given last None end left = tt
unused_told before now given last (Some k) end left = unused_status before now end left.unused_end

pub begun_told : {L J V : Type 0} (before now : ℕ) (given : Option V) (last : Option L) (unused : Option J) (end : JournalEnd)
    → IsLeft before now given last unused end
    → (journal_status end ≡ 0) ⊎ (journal_status end ≡ 9) → IsSome last
begun_told before now given (Some l) unused end left is = refl
begun_told before now given None (Some k) end left is = absurd (never_begun before now end left.unused_end is)
begun_told before now given None None end left is = absurd (never_ready before now given end (left.not_begun refl refl) is)

pub journals_told : {L J V : Type 0} (before now : ℕ) (given : Option V) (last : Option L) (unused : Option J) (end : JournalEnd)
    → IsLeft before now given last unused end
    → journal_status end ≡ 6 → IsNone last → IsSome unused × Rises before now
journals_told before now given last (Some k) end left is none = (refl, unused_rises before now end left.unused_end is)
journals_told before now given last None end left is none = absurd (unready_journals before now given end (left.not_begun none refl) is)

pub doors_told : {L J V : Type 0} (before now : ℕ) (given : Option V) (last : Option L) (unused : Option J) (end : JournalEnd)
    → IsLeft before now given last unused end
    → journal_status end ≡ 7 → IsNone last → (given ≡ None) × Rises before now
doors_told before now given last (Some k) end left is none = absurd (unused_doors before now end left.unused_end is)
doors_told before now given last None end left is none = unready_doors before now given end (left.not_begun none refl) is

-- status 5 comes exactly where the source failed
never_failed : (faults : ℕ) → faults ≡ 0 → Rose 0 faults → ⊥
never_failed faults none failed =
    ⊎_elim (λ (less : 0 < faults). omega (arith, less, none)) (λ (last : 18446744073709551615 ≤ faults). omega (arith, last, none)) failed

pub input_told : (a b : Feed) (end : JournalEnd) → a.faults ≡ 0 → (end ≡ InputFault → Rose a.faults b.faults)
    → ((end ≡ InputFault → ⊥) → b.faults ≡ a.faults) → (journal_status end ≡ 5) ↔ Rose 0 b.faults
input_told a b end new input read = (
  (λ is. let R : ℕ → Type 0 = λ k. Rose k b.faults in subst R new (input (ends_input end is))),
  λ failed. ⊎_elim (λ (is : end ≡ InputFault). ap journal_status is)
      (λ (other : end ≡ InputFault → ⊥). absurd (never_failed b.faults (read other ∙ new) failed)) (is_input end),
)

-- the configuration is that of the desk's text
pub served_by : {L : Type 0} (ct : Type 0) (text : Option (List ℕ)) (a b : Feed) (last : Option L) (Said : L → Feed → Feed → Type 0) → IsStarted ct a text
    → a.taken ≡ 0 → IfSome last (λ l. Said l a b) → IfSome last (λ l. GivenFrom ct text (λ before. Said l before b))
served_by ct text a b None Said started untaken said = tt
served_by ct text a b (Some l) Said started untaken said = record { source = a; started = started; untaken = untaken; said = said }

-- where the source doesn't fail its text says the status
pub settled_told : (ct : Type 0) (text : Option (List ℕ)) (a b : Feed) (end : JournalEnd) → IsStarted ct a text
    → (ct → (Rose a.faults b.faults → ⊥) → IsJournalOf a.left end)
    → (told : List ℕ) → text ≡ Some told → (Rose 0 b.faults → ⊥) → IsJournalSettled told (journal_status end)
settled_told ct text a b end started settled told is still =
    let P : Option (List ℕ) → Type 0 = λ t. IsStarted ct a t in
    let begun : IsStarted ct a (Some told) = subst P is started in
    let R : ℕ → Type 0 = λ k. Rose k b.faults in
    let L : List ℕ → Type 0 = λ t. IsJournalOf t end in
    record { ending = end; told = refl; ends = subst L begun.holds.1 (settled begun.holds.0 (λ rose. still (subst R begun.faults rose))) }

-- the desk's count of faults is that before the configuration was opened
pub left_from : {L J V : Type 0} (before mid now : ℕ) (given : Option V) (last : Option L) (unused : Option J) (end : JournalEnd) → mid ≡ before
    → IsLeft mid now given last unused end → IsLeft before now given last unused end
left_from before mid now given last unused end same left =
    let P : ℕ → Type 0 = λ k. IsLeft k now given last unused end in subst P same left

-- status 5 is neither 0 nor 9
pub input_status : (status : ℕ) → status ≡ 5 → (status ≡ 0) ⊎ (status ≡ 9) → ⊥
input_status status five is = ⊎_elim (λ (a : status ≡ 0). omega (arith, five, a)) (λ (b : status ≡ 9). omega (arith, five, b)) is
