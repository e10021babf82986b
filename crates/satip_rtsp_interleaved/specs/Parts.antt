-- The messages of a whole text with frames between them, and the rest after them.
use Rattle.std.specs.Prelude.{◌≡◌, ℕ, List, [], ◌∷◌, ◌++◌}
use Rattle.satip_frame.specs.Said.{Said}
use Rattle.satip_frame.specs.Stream.{Tail, Begins, Ends}
use Rattle.satip_rtsp_interleaved.specs.Frames.{Spot, Between, behind}

-- the text has these messages and this tail; CR, LF and frames before a message are skipped, and a frame that isn't whole makes the text unfinished
abbrev pub Parts : List ℕ → List Said → Tail → Type 0
Parts text [] tail = Ends (behind Between text) tail
Parts text (m ∷ ms) tail = (rest : List ℕ) × Begins (behind Between text) m rest × Parts rest ms tail

-- the text begins with these messages and goes on as the rest does at that place, whatever bytes follow
abbrev pub Leads : List ℕ → List Said → Spot → List ℕ → Type 0
Leads text [] spot rest = (more : List ℕ) → behind Between (text ++ more) ≡ behind spot (rest ++ more)
Leads text (m ∷ ms) spot rest = (after : List ℕ) × Begins (behind Between text) m after × Leads after ms spot rest

-- these are the first messages of the text
abbrev pub AreFirst : List Said → List ℕ → Type 0
AreFirst ms text = (spot : Spot) × (rest : List ℕ) × Leads text ms spot rest
