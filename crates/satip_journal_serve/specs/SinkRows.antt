-- The bytes that the sinks of two journals were sent, worked out by hand.
use Rattle.std.specs.Prelude.{ℕ, true, false, List, [], ◌∷◌, codes}
use Rattle.satip_base.specs.Streams.{Drain, fresh_drain}
use Rattle.satip_journal_serve.specs.Sent.{AreWritten}

abbrev pub sent : List ℕ → ℕ → Drain
sent bytes faults = record { sent = bytes; faults = faults }

abbrev pub two_fresh : List Drain
two_fresh = fresh_drain ∷ fresh_drain ∷ []

abbrev pub two_texts : List (List ℕ)
two_texts = codes "ab" ∷ codes "c" ∷ []

abbrev pub BothAreWhole : Type 0
BothAreWhole = AreWritten (Unit {0}) false two_fresh (sent (codes "ab") 0 ∷ sent (codes "c") 0 ∷ []) two_texts

abbrev pub FirstIsCut : Type 0
FirstIsCut = AreWritten (Unit {0}) true two_fresh (sent (codes "a") 1 ∷ sent (codes "c") 0 ∷ []) two_texts

abbrev pub CutIsNotWhole : Type 0
CutIsNotWhole = ¬ (AreWritten (Unit {0}) false two_fresh (sent (codes "a") 1 ∷ sent (codes "c") 0 ∷ []) two_texts)

abbrev pub SwappedIsNotWritten : Type 0
SwappedIsNotWritten = ¬ (AreWritten (Unit {0}) false two_fresh (sent (codes "c") 0 ∷ sent (codes "ab") 0 ∷ []) two_texts)

abbrev pub NoneRoseIsNoFault : Type 0
NoneRoseIsNoFault = ¬ (AreWritten (Unit {0}) true two_fresh (sent (codes "ab") 0 ∷ sent (codes "c") 0 ∷ []) two_texts)
