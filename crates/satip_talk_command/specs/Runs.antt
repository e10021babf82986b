-- The ends of a talk.
use Rattle.std.specs.Prelude.{◌≡◌, ℕ, ◌+◌, ◌≤◌, ◌⊎◌, true, List, ◌++◌, length}
use Rattle.satip_base.specs.Streams.{Feed, Drain, Rose}
use Rattle.satip_frame.specs.Said.{Said}
use Rattle.satip_frame.specs.Stream.{Unfinished, Broken, Messages}
use Rattle.satip_frame.specs.declared.framing.Break.{Break}
use Rattle.satip_config.specs.Reading.{Read}
use Rattle.satip_talk_command.specs.Talk.{Answered, PartlyAnswered}
use Rattle.satip_config.specs.declared.outcome.Outcome.{Outcome}
use Rattle.satip_config.specs.declared.outcome.Outcome.TheVariants.{Done, InputFault, OutputFault, TooLong, OutOfMemory}

-- the most bytes of input that are answered
abbrev pub input_limit : ℕ
input_limit = 67108864

-- the text is broken
pub record IsBroken (text : List ℕ) : Type 0 where
  pub messages : List Said
  pub cause : Break
  pub read : Messages text messages (Broken cause)

-- nothing is taken after a broken text: it wasn't broken before the last piece that was taken
pub record StopsInTime (text : List ℕ) : Type 0 where
  pub earlier : List ℕ
  pub piece : List ℕ
  pub whole : text ≡ earlier ++ piece
  pub short : length piece ≤ 4096
  pub messages : List Said
  pub unbroken : Messages earlier messages Unfinished

-- the input was read to its end, or to a closing reply, and all of it was answered
pub record EndsWell (in_tells out_tells : Type 0) (i j : Feed) (o n : Drain) : Type 0 where
  pub text : List ℕ
  pub read : Read in_tells i j text
  pub short : length text ≤ input_limit
  pub in_faults : j.faults ≡ i.faults
  pub out_faults : n.faults ≡ o.faults
  pub answered : Answered out_tells o.sent n.sent text
  pub whole : in_tells → Answered out_tells o.sent n.sent i.left
  pub ending : (j.ended ≡ true) ⊎ IsBroken text
  pub in_time : StopsInTime text

-- the run ended before that, with a prefix of the replies to the bytes taken
pub record EndsEarly (in_tells out_tells : Type 0) (i j : Feed) (o n : Drain) : Type 0 where
  pub text : List ℕ
  pub read : Read in_tells i j text
  pub part : PartlyAnswered out_tells o.sent n.sent text

-- the input failed
pub record EndsByInput (in_tells out_tells : Type 0) (i j : Feed) (o n : Drain) : Type 0 where
  pub early : EndsEarly in_tells out_tells i j o n
  pub short : length early.text ≤ input_limit
  pub rose : Rose i.faults j.faults
  pub out_faults : n.faults ≡ o.faults

-- the output failed
pub record EndsByOutput (in_tells out_tells : Type 0) (i j : Feed) (o n : Drain) : Type 0 where
  pub early : EndsEarly in_tells out_tells i j o n
  pub short : length early.text ≤ input_limit
  pub in_faults : j.faults ≡ i.faults
  pub rose : Rose o.faults n.faults

-- one byte too many was taken, and no closing reply was sent before it
pub record EndsByLength (in_tells out_tells : Type 0) (i j : Feed) (o n : Drain) : Type 0 where
  pub early : EndsEarly in_tells out_tells i j o n
  pub long : length early.text ≡ input_limit + 1
  pub in_time : StopsInTime early.text
  pub last : length in_time.piece ≡ 1
  pub in_faults : j.faults ≡ i.faults
  pub out_faults : n.faults ≡ o.faults

-- nothing was done
pub record NothingDone (i j : Feed) (o n : Drain) : Type 0 where
  pub input : j ≡ i
  pub output : n ≡ o

-- what was done, by the outcome of a talk; it has no other outcomes
abbrev pub TalkRuns : (in_tells out_tells : Type 0) (i j : Feed) (o n : Drain) → Outcome → Type 0
TalkRuns in_tells out_tells i j o n Done = EndsWell in_tells out_tells i j o n
TalkRuns in_tells out_tells i j o n InputFault = EndsByInput in_tells out_tells i j o n
TalkRuns in_tells out_tells i j o n OutputFault = EndsByOutput in_tells out_tells i j o n
TalkRuns in_tells out_tells i j o n TooLong = EndsByLength in_tells out_tells i j o n
TalkRuns in_tells out_tells i j o n OutOfMemory = NothingDone i j o n
TalkRuns in_tells out_tells i j o n _ = ⊥

-- the input was read to its end, or to the piece in which it is broken
pub record ReadsInTime (tells : Type 0) (i j : Feed) : Type 0 where
  pub text : List ℕ
  pub read : Read tells i j text
  pub ending : (j.ended ≡ true) ⊎ IsBroken text
  pub in_time : StopsInTime text
