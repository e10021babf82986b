-- Lines of a journal, and the bytes of a sink, worked out by hand.
use Rattle.std.specs.Prelude.{◌≡◌, ℕ, true, false, List, [], ◌∷◌, codes}
use Rattle.satip_base.specs.Output.{empty}
use Rattle.satip_base.specs.Streams.{Drain}
use Rattle.satip_base.specs.History.{entry}
use Rattle.satip_plain.specs.declared.answers.Answer.TheVariants.{Beat}
use Rattle.satip_plain.specs.declared.answers.Beat.TheVariants.{Going, Stopping}
use Rattle.satip_plain.specs.declared.events.Event.TheVariants.{Stop, Tick}
use Rattle.satip_plain.specs.Histories.{Item}
use Rattle.satip_journal.specs.Places.{placed, own_at, lines_of}
use Rattle.satip_journal.specs.Logs.{Logs}

-- a tick of caller 4, a stop of caller 1 and a stop of caller 4
abbrev pub tick : Item
tick = entry 4 (Tick 10) (Beat Going) empty

abbrev pub other_stop : Item
other_stop = entry 1 Stop (Beat Stopping) empty

abbrev pub stop : Item
stop = entry 4 Stop (Beat Stopping) empty

abbrev pub three : List Item
three = tick ∷ other_stop ∷ stop ∷ []

-- places count the entries of others
abbrev pub OwnArePlaced : Type 0
OwnArePlaced = own_at 5 4 three ≡ placed 5 tick ∷ placed 7 stop ∷ []

abbrev pub OthersArePlaced : Type 0
OthersArePlaced = own_at 5 1 three ≡ placed 6 other_stop ∷ []

abbrev pub NoneIsPlaced : Type 0
NoneIsPlaced = own_at 5 2 three ≡ []

-- a line has the job's number and not the caller's
abbrev pub OwnAreLines : Type 0
OwnAreLines = lines_of 2 (own_at 5 4 three) ≡ codes "entry 5 2 02000000000000000a0200000000000000\nentry 7 2 080201000000000000\n"

abbrev pub sent : List ℕ → ℕ → Drain
sent bytes faults = record { sent = bytes; faults = faults }

abbrev pub AllIsLogged : Type 0
AllIsLogged = Logs (Unit {0}) (sent (codes "a") 0) (sent (codes "abc") 0) false false (codes "bc")

abbrev pub BeginningIsLogged : Type 0
BeginningIsLogged = Logs (Unit {0}) (sent (codes "a") 0) (sent (codes "ab") 1) false true (codes "bc")

abbrev pub BeginningIsNotAll : Type 0
BeginningIsNotAll = ¬ (Logs (Unit {0}) (sent (codes "a") 0) (sent (codes "ab") 0) false false (codes "bc"))

abbrev pub NothingBehindAFault : Type 0
NothingBehindAFault = ¬ (Logs (Unit {0}) (sent (codes "ab") 1) (sent (codes "abc") 1) true true (codes "c"))
