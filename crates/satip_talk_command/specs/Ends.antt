-- The outcome of a talk, by its status.
use Rattle.std.specs.Prelude.{◌≡◌, ℕ, ◌≤◌, ◌⊎◌, List, [], ◌∷◌, ◌++◌, length}
use Rattle.satip_base.specs.Streams.{Feed, Drain, Rose}
use Rattle.satip_base.specs.Lists.{Has}
use Rattle.satip_talk_command.specs.Talk.{Answered}
use Rattle.satip_talk_command.specs.Runs.{input_limit, IsBroken, EndsEarly, ReadsInTime, NothingDone}

-- the statuses of a talk
abbrev pub talk_statuses : List ℕ
talk_statuses = 0 ∷ 5 ∷ 6 ∷ 8 ∷ 70 ∷ []

-- a closing reply answers a prefix of the text that is within the limit
pub record ClosesInTime (text : List ℕ) : Type 0 where
  pub earlier : List ℕ
  pub later : List ℕ
  pub whole : text ≡ earlier ++ later
  pub short : length earlier ≤ input_limit
  pub broken : IsBroken earlier

-- the text ends within the limit, or a closing reply is sent before the limit
abbrev pub IsWithinLimit : List ℕ → Type 0
IsWithinLimit text = (length text ≤ input_limit) ⊎ ClosesInTime text

-- a talk: its input before and after it, its output before and after it, and its status
pub record TalkEnds (in_tells out_tells : Type 0) (i j : Feed) (o n : Drain) (status : ℕ) : Type 0 where
  pub status_is : Has status talk_statuses
  -- with 0 the replies to the whole input were sent, no fault count rose, and nothing was taken after a closing reply
  pub replies : status ≡ 0 → in_tells → Answered out_tells o.sent n.sent i.left
  pub in_faults : status ≡ 0 → j.faults ≡ i.faults
  pub out_faults : status ≡ 0 → n.faults ≡ o.faults
  pub in_time : status ≡ 0 → ReadsInTime in_tells i j
  -- with 5 the output didn't fail, with 6 the input didn't, and with 8 neither did
  pub out_faults_at_input_fault : status ≡ 5 → n.faults ≡ o.faults
  pub in_faults_at_output_fault : status ≡ 6 → j.faults ≡ i.faults
  pub in_faults_at_limit : status ≡ 8 → j.faults ≡ i.faults
  pub out_faults_at_limit : status ≡ 8 → n.faults ≡ o.faults
  -- with another status than 0 a prefix of the replies to the taken bytes was sent
  pub beginning : (status ≡ 0 → ⊥) → EndsEarly in_tells out_tells i j o n
  -- with 70 nothing was taken, and nothing was sent
  pub out_of_memory : status ≡ 70 → NothingDone i j o n
  -- if neither failed and the input is within the limit, the status is 0 or 70
  pub settled : in_tells → IsWithinLimit i.left → (Rose i.faults j.faults → ⊥) → (Rose o.faults n.faults → ⊥)
      → (status ≡ 0) ⊎ (status ≡ 70)
