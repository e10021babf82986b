-- Lists and sets of packet identifiers (PIDs), and the changes of a set.
use Rattle.std.specs.Prelude.{ℕ, ◌<◌, ◌≤◌, List, [], length, All, Result, Ok, Err, Option, Some, None, if◌then◌else◌, nat_le, Bool, true}
use Rattle.satip_pids.specs.Rising.{IsRising, has_number, put_all, without}
use Rattle.satip_pids.specs.declared.fault.PidFault.{PidFault}
use Rattle.satip_pids.specs.declared.fault.PidFault.TheVariants.{TooMany, UnderAll}

-- at most 512 numbers, each below 8192
pub record IsPidList (pids : List ℕ) : Type 0 where
  pub few : length pids ≤ 512
  pub below : All (λ pid. pid < 8192) pids

-- the selection of a set: every PID, or those of a list
pub data Pids : Type 0 where
  Every : Pids
  Only : List ℕ → Pids

-- at most 256 numbers, each below 8192, rising strictly
pub record IsPidRow (pids : List ℕ) : Type 0 where
  pub rising : IsRising 0 pids
  pub few : length pids ≤ 256
  pub below : All (λ pid. pid < 8192) pids

-- a set that lists PIDs lists at most 256, in rising order, each once
abbrev pub IsPidSet : Pids → Type 0
IsPidSet Every = Unit {0}
IsPidSet (Only pids) = IsPidRow pids

-- whether a set selects a PID
abbrev pub has_pid : Pids → ℕ → Bool
has_pid Every pid = true
has_pid (Only pids) pid = has_number pids pid

-- how many PIDs a set lists
abbrev pub listed : Pids → ℕ
listed Every = 0
listed (Only pids) = length pids

-- a set with the listed numbers added, with no limit of their count
abbrev pub grown : Pids → List ℕ → Pids
grown Every list = Every
grown (Only pids) list = Only (put_all pids list)

-- a set, or the fault if it lists over 256 PIDs
abbrev pub limited : Pids → Result Pids PidFault
limited set = if nat_le (listed set) 256 then Ok set else Err TooMany

-- the set of the listed numbers
abbrev pub set_pids : List ℕ → Result Pids PidFault
set_pids list = limited (grown (Only []) list)

-- the set with the listed numbers added
abbrev pub add_pids : Pids → List ℕ → Result Pids PidFault
add_pids set list = limited (grown set list)

-- the set without the listed numbers
abbrev pub remove_pids : Pids → List ℕ → Result Pids PidFault
remove_pids Every list = Err UnderAll
remove_pids (Only pids) list = Ok (Only (without pids list))

-- the choice of the whole set in a request: none, all PIDs, or those of a list
pub data Choice : Type 0 where
  Unsaid : Choice
  AllPids : Choice
  Listed : List ℕ → Choice

-- the set after that choice
abbrev pub choose_pids : Pids → Choice → Result Pids PidFault
choose_pids set Unsaid = Ok set
choose_pids set AllPids = Ok Every
choose_pids set (Listed list) = set_pids list

-- the change by a list if one is given, else the same set
abbrev pub if_given : (Pids → List ℕ → Result Pids PidFault) → Option (List ℕ) → Pids → Result Pids PidFault
if_given change None set = Ok set
if_given change (Some list) set = change set list

-- the next change, unless an earlier one was refused
abbrev pub and_next : Result Pids PidFault → (Pids → Result Pids PidFault) → Result Pids PidFault
and_next (Ok set) next = next set
and_next (Err fault) next = Err fault

-- the changes of one request in their order: the whole set, the added PIDs, the removed PIDs; the first fault is the result
abbrev pub apply : Pids → Choice → Option (List ℕ) → Option (List ℕ) → Result Pids PidFault
apply set choice added removed =
    and_next (and_next (choose_pids set choice) (if_given add_pids added)) (if_given remove_pids removed)
