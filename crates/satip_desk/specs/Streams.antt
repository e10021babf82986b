-- The input, the output and the errors of a run, and of which devices the content is known, as contracts see them.
use Rattle.satip_base.specs.Streams.{Feed, Drain}

-- the input, the output and the errors
pub record Streams : Type 0 where
  pub input : Feed
  pub output : Drain
  pub errors : Drain

-- the streams of a run, by the views of its source and its sinks
abbrev pub streams : {I O E : Type 0} → (I → Feed) → (O → Drain) → (E → Drain) → I → O → E → Streams
streams feed printed logged input output errors = record { input = feed input; output = printed output; errors = logged errors }

-- whether the content of a device is known: of the input, the output and the errors, of a desk's configurations, connections, outlets and journals, and of a
-- client's connection and inlet
pub record Tells : Type 1 where
  pub input : Type 0
  pub output : Type 0
  pub errors : Type 0
  pub config : Type 0
  pub conn : Type 0
  pub outlet : Type 0
  pub journal : Type 0
  pub wire : Type 0
  pub inlet : Type 0
