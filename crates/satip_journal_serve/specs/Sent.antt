-- The bytes that the sinks of journals were sent.
use Rattle.std.specs.Prelude.{ℕ, ◌⊎◌, Bool, true, false, List, [], ◌∷◌, map}
use Rattle.satip_base.specs.Streams.{Drain, FailedToPut, PutAll, Rose, fresh_drain}

-- that many journals, all empty
abbrev pub new_journals : List Drain → List Drain
new_journals drains = map (λ _. fresh_drain) drains

-- each sink was sent its journal, and its fault count is unchanged
abbrev pub AreWhole : (tells : Type 0) (before after : List Drain) (texts : List (List ℕ)) → Type 0
AreWhole tells [] [] [] = Unit {0}
AreWhole tells (o ∷ os) (n ∷ ns) (text ∷ texts) = PutAll tells o n text × AreWhole tells os ns texts
AreWhole tells _ _ _ = ⊥

-- each sink was sent its journal, or a prefix of it and its fault count rose
abbrev pub AreSent : (tells : Type 0) (before after : List Drain) (texts : List (List ℕ)) → Type 0
AreSent tells [] [] [] = Unit {0}
AreSent tells (o ∷ os) (n ∷ ns) (text ∷ texts) = (PutAll tells o n text ⊎ FailedToPut tells o n text) × AreSent tells os ns texts
AreSent tells _ _ _ = ⊥

-- the fault count of one of the sinks rose
abbrev pub HasRisen : (before after : List Drain) → Type 0
HasRisen (o ∷ os) (n ∷ ns) = Rose o.faults n.faults ⊎ HasRisen os ns
HasRisen _ _ = ⊥

-- if no put failed the journals are whole; else a prefix of each was sent, and one fault count rose
abbrev pub AreWritten : (tells : Type 0) (failed : Bool) (before after : List Drain) (texts : List (List ℕ)) → Type 0
AreWritten tells false os ns texts = AreWhole tells os ns texts
AreWritten tells true os ns texts = AreSent tells os ns texts × HasRisen os ns
