-- The devices and the request of a recording, as contracts see them.
use Rattle.std.specs.Prelude.{ℕ, List}
use Rattle.satip_base.specs.Streams.{Drain}
use Rattle.satip_world.specs.Dials.{Dial}
use Rattle.satip_world.specs.Inboxes.{Inbox}
use Rattle.satip_world.specs.Lines.{Line}

-- whether the content of the connection, of the inlet, of the output and of the error sink is known
pub record DeviceTells : Type 1 where
  pub wire : Type 0
  pub inlet : Type 0
  pub output : Type 0
  pub errors : Type 0

abbrev pub device_tells : (wire inlet output errors : Type 0) → DeviceTells
device_tells wire inlet output errors = record { wire = wire; inlet = inlet; output = output; errors = errors }

-- the connection and the clock
pub record Link : Type 0 where
  pub wire : Line
  pub clock : Dial

abbrev pub link : Line → Dial → Link
link wire clock = record { wire = wire; clock = clock }

-- the connection, the clock, the inlet and the output
pub record Outside : Type 0 where
  pub wire : Line
  pub clock : Dial
  pub inlet : Inbox
  pub output : Drain

abbrev pub outside : Line → Dial → Inbox → Drain → Outside
outside wire clock inlet output = record { wire = wire; clock = clock; inlet = inlet; output = output }

-- the server's address, the query of the stream, and the number of packets to record
pub record Task : Type 0 where
  pub address : List ℕ
  pub query : List ℕ
  pub count : ℕ

abbrev pub task : (address query : List ℕ) → (count : ℕ) → Task
task address query count = record { address = address; query = query; count = count }

-- the words of SETUP: the server's address, the query and the inlet's port
pub record SetupWords : Type 0 where
  pub address : List ℕ
  pub query : List ℕ
  pub port : ℕ

abbrev pub setup_words : (address query : List ℕ) → (port : ℕ) → SetupWords
setup_words address query port = record { address = address; query = query; port = port }
