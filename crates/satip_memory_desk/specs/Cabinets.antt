-- The value of a desk over memory.
use Rattle.std.specs.Prelude.{ℕ, Bool, true, false, List, [], ◌∷◌, Option, Some, None}
use Rattle.std.specs.Str.{bytes_eq}
use Rattle.satip_world.specs.Outboxes.{Outbox}
use Rattle.satip_world.specs.Dials.{Dial}
use Rattle.satip_world.specs.Lines.{Line}
use Rattle.satip_world.specs.Inboxes.{Inbox}
use Rattle.satip_memory.specs.Shelves.{Shelf}
use Rattle.satip_desk.specs.Views.{WorkerView, TickView}
use Rattle.satip_desk.specs.Handed.{Handed, nothing_handed}

-- a pump's kit over memory: its store, and its outlet
pub record ShelfKit : Type 0 where
  pub store : Shelf
  pub outbox : Outbox

-- kits over memory, as they were given
pub record GivenKits : Type 0 where
  pub workers : List WorkerView
  pub pumps : List ShelfKit
  pub ticker : TickView

-- a desk over memory. `texts` are names with the texts of their configurations, `failing_takes` the takes of each that fail. `laid` is the number of
-- connections for which kits are laid, and `given` are the kits once they were given. `wire`, `inlet` and `clock` are still to be given to a client, and
-- `handed` is what was. `journals` is the number of jobs that get journals, and `journaled` are the jobs that got one. `failing` opens are still to fail, and
-- `faults` counts the failed calls
pub record Cabinet : Type 0 where
  pub texts : List (List ℕ × List ℕ)
  pub failing_takes : List (List ℕ)
  pub laid : Option ℕ
  pub given : Option GivenKits
  pub wire : Option Line
  pub inlet : Option Inbox
  pub clock : Option Dial
  pub handed : Handed
  pub journals : ℕ
  pub journaled : List ℕ
  pub failing : ℕ
  pub faults : ℕ

-- no name has a text, and `failing` opens are to fail
abbrev pub empty_cabinet : ℕ → Cabinet
empty_cabinet failing = record {
  texts = [];
  failing_takes = [];
  laid = None;
  given = None;
  wire = None;
  inlet = None;
  clock = None;
  handed = nothing_handed;
  journals = 0;
  journaled = [];
  failing = failing;
  faults = 0;
}

-- this text if the test holds, and else another
abbrev pub text_if : Bool → List ℕ → Option (List ℕ) → Option (List ℕ)
text_if true text other = Some text
text_if false text other = other

-- the text of a name: the first that it has
abbrev pub text_in : List (List ℕ × List ℕ) → List ℕ → Option (List ℕ)
text_in [] name = None
text_in (row ∷ rows) name = text_if (bytes_eq row.0 name) row.1 (text_in rows name)
