-- The streams of a batch command, as contracts see them.
use Rattle.satip_base.specs.Streams.{Feed, Drain}
use Rattle.satip_desk.specs.Streams.{Streams}

-- the source of the configuration, the input and the output
pub record BatchStreams : Type 0 where
  pub config : Feed
  pub input : Feed
  pub output : Drain

-- the source of a configuration, and the input and the output of a run
abbrev pub with_config : Feed → Streams → BatchStreams
with_config config s = record { config = config; input = s.input; output = s.output }
