-- The words of the command line, and the texts that the program writes of itself.
use Rattle.std.specs.Prelude.{ℕ, ◌≤◌, Bool, true, false, List, [], ◌∷◌, ◌++◌, codes, Option, Some, None, if◌then◌else◌}
use Rattle.std.specs.Str.{bytes_eq}
use Rattle.satip_base.specs.Numbers.{number_of}
use Rattle.satip_recorder.specs.Words.{Wanted, wanted, wanted_of}
use Rattle.satip_program.specs.declared.commands.Command.{Command}
use Rattle.satip_program.specs.declared.commands.Command.TheVariants as commands
use Rattle.satip_program.specs.declared.commands.Service.{Service}
use Rattle.satip_program.specs.declared.commands.Service.TheVariants as services

-- a command that waits for no client; a replay and an audit have the name of their configuration, a stress run its seed and its count, and a recording its
-- request
pub data Form : Type 0 where
  Talk : Form
  Replay : List ℕ → Form
  Stress : ℕ → ℕ → Form
  Audit : List ℕ → Form
  Record : Wanted → Form
  Help : Form
  Version : Form

-- the form of a command
abbrev pub form_of : Command → Form
form_of commands.Talk = Talk
form_of (commands.Replay name) = Replay name.now
form_of (commands.Stress seed count) = Stress seed count
form_of (commands.Audit name) = Audit name.now
form_of (commands.Record recording) = Record (wanted recording)
form_of commands.Help = Help
form_of commands.Version = Version

-- the form of a single word
abbrev pub command_named : List ℕ → Option Form
command_named word =
    if bytes_eq word (codes "talk") then Some Talk
    else if bytes_eq word (codes "--help") then Some Help
    else if bytes_eq word (codes "--version") then Some Version
    else None

-- the form of two words; no configuration has the empty name
abbrev pub pair_by : List ℕ → List ℕ → Option Form
pair_by word name =
    if bytes_eq word (codes "replay") then Some (Replay name)
    else if bytes_eq word (codes "audit") then Some (Audit name)
    else None

-- the form of two words, unless the name is empty
abbrev pub pair_named : List ℕ → List ℕ → Option Form
pair_named word [] = None
pair_named word (byte ∷ bytes) = pair_by word (byte ∷ bytes)

-- the form of three words; the numbers are read if they are allowed
abbrev pub stress_by : Option ℕ → Option ℕ → Option Form
stress_by (Some seed) (Some count) = Some (Stress seed count)
stress_by (Some seed) None = None
stress_by None count = None

-- the form of `stress` with its two numbers
abbrev pub stress_named : List ℕ → Option ℕ → Option ℕ → Option Form
stress_named word seed count = if bytes_eq word (codes "stress") then stress_by seed count else None

-- the form of four words; the recording's request is read if it is allowed
abbrev pub recording_by : Option Wanted → Option Form
recording_by (Some w) = Some (Record w)
recording_by None = None

-- the form of `record` with its request
abbrev pub recording_named : List ℕ → Option Wanted → Option Form
recording_named word w = if bytes_eq word (codes "record") then recording_by w else None

-- the form of the words, if they ask for a command that waits for no client
unfoldable pub command_of : List (List ℕ) → Option Form
command_of [] = None
command_of (word ∷ []) = command_named word
command_of (word ∷ name ∷ []) = pair_named word name
command_of (word ∷ seed ∷ count ∷ []) =
    stress_named word (number_of 18446744073709551615 seed) (number_of 1000000 count)
command_of (word ∷ address ∷ query ∷ count ∷ []) = recording_named word (wanted_of address query count)
command_of (word ∷ address ∷ query ∷ count ∷ another ∷ others) = None

-- a command that waits for clients: a server, one through a tunnel, or one with journals. Each has the name of its configuration, and the number of
-- connections after which a worker's doors end
pub data Serving : Type 0 where
  Serve : List ℕ → ℕ → Serving
  Tunnel : List ℕ → ℕ → Serving
  Journal : List ℕ → ℕ → Serving

-- the definition's form of a service
abbrev pub serving_for : Service → Serving
serving_for (services.Serve name accepts) = Serve name.now accepts
serving_for (services.Tunnel name accepts) = Tunnel name.now accepts
serving_for (services.Journal name accepts) = Journal name.now accepts

-- the service of a word, with its name and its number
abbrev pub serving_by : List ℕ → List ℕ → ℕ → Option Serving
serving_by word name accepts =
    if bytes_eq word (codes "serve") then Some (Serve name accepts)
    else if bytes_eq word (codes "tunnel") then Some (Tunnel name accepts)
    else if bytes_eq word (codes "journal") then Some (Journal name accepts)
    else None

-- the service of three words; no configuration has the empty name
abbrev pub serving_named : List ℕ → List ℕ → Option ℕ → Option Serving
serving_named word [] accepts = None
serving_named word (byte ∷ bytes) (Some accepts) = serving_by word (byte ∷ bytes) accepts
serving_named word (byte ∷ bytes) None = None

-- the service that the words ask for, if any
unfoldable pub serving_of : List (List ℕ) → Option Serving
serving_of [] = None
serving_of (word ∷ []) = None
serving_of (word ∷ name ∷ []) = None
serving_of (word ∷ name ∷ accepts ∷ []) = serving_named word name (number_of 4294967295 accepts)
serving_of (word ∷ name ∷ accepts ∷ another ∷ others) = None

-- the command that words ask for: one that waits for no client, or a service; neither if they are an unknown command line
pub record Asked : Type 0 where
  pub form : Option Form
  pub serving : Option Serving

abbrev pub asked_of : List (List ℕ) → Asked
asked_of words = record { form = command_of words; serving = serving_of words }

-- the command that words ask for, if a service is an unknown command line
abbrev pub asked_offline : List (List ℕ) → Asked
asked_offline words = record { form = command_of words; serving = None }

-- the name of the configuration in a form, if it has one
abbrev pub config_named : Option Form → Option (List ℕ)
config_named (Some (Replay name)) = Some name
config_named (Some (Audit name)) = Some name
config_named (Some Talk) = None
config_named (Some (Stress seed count)) = None
config_named (Some (Record w)) = None
config_named (Some Help) = None
config_named (Some Version) = None
config_named None = None

-- the request of a form's recording, if it is one
abbrev pub recording_in : Option Form → Option Wanted
recording_in (Some (Record w)) = Some w
recording_in (Some Talk) = None
recording_in (Some (Replay name)) = None
recording_in (Some (Stress seed count)) = None
recording_in (Some (Audit name)) = None
recording_in (Some Help) = None
recording_in (Some Version) = None
recording_in None = None

-- whether a service goes through a tunnel
abbrev pub is_tunnel : Option Serving → Bool
is_tunnel (Some (Tunnel name accepts)) = true
is_tunnel (Some (Serve name accepts)) = false
is_tunnel (Some (Journal name accepts)) = false
is_tunnel None = false

-- whether a service keeps journals
abbrev pub is_journal : Option Serving → Bool
is_journal (Some (Journal name accepts)) = true
is_journal (Some (Serve name accepts)) = false
is_journal (Some (Tunnel name accepts)) = false
is_journal None = false

-- the count of a command is allowed
abbrev pub HasCount : Command → Type 0
HasCount commands.Talk = Unit {0}
HasCount (commands.Replay name) = Unit {0}
HasCount (commands.Stress seed count) = count ≤ 1000000
HasCount (commands.Audit name) = Unit {0}
HasCount (commands.Record recording) = (1 ≤ recording.count) × (recording.count ≤ 1000000)
HasCount commands.Help = Unit {0}
HasCount commands.Version = Unit {0}

-- the forms of the words
abbrev pub usage : List ℕ
usage = codes "usage: satip talk | replay CONFIG | serve CONFIG ACCEPTS | stress SEED COUNT | tunnel CONFIG ACCEPTS | journal CONFIG ACCEPTS | audit CONFIG | record ADDRESS QUERY COUNT\n"

-- the output of --help: the forms, a line for each command with an example of it, and the pages that say more
abbrev pub help : List ℕ
help = usage
    ++ codes "serve: clients, by the configuration in the file CONFIG; each worker ends after ACCEPTS connections, and never where it is 0\n"
    ++ codes "    satip serve satip.toml 0\n"
    ++ codes "    SATIP_PACE=recording plays each recording at its own rate, SATIP_REPEAT=1 again at its end\n"
    ++ codes "    SATIP_STOP=FILE ends it softly once FILE is there, SATIP_STATUS=FILE makes it write FILE once a second\n"
    ++ codes "replay: the events of the script on standard input, run by the configuration in the file CONFIG\n"
    ++ codes "    satip replay examples/satip.toml < examples/session.script\n"
    ++ codes "talk: one RTSP connection, from standard input to standard output\n"
    ++ codes "    satip talk < requests\n"
    ++ codes "stress: COUNT events that a generator makes of SEED, run and counted\n"
    ++ codes "    satip stress 7 100000\n"
    ++ codes "tunnel: as serve, but RTP and RTCP go down the RTSP connection, to clients that ask for RTP/AVP/TCP\n"
    ++ codes "    satip tunnel satip.toml 0\n"
    ++ codes "journal: as serve, and each job writes its entries to the file journal.N, by its number N, in the current folder\n"
    ++ codes "    satip journal satip.toml 0\n"
    ++ codes "audit: the verdict on the journals on standard input, by the configuration in the file CONFIG\n"
    ++ codes "    cat journal.* | satip audit satip.toml\n"
    ++ codes "record: COUNT packets of the stream of QUERY, from the server at ADDRESS, to standard output\n"
    ++ codes "    satip record 127.0.0.1:554 'src=1&freq=11494&pol=h&msys=dvbs&sr=22000&pids=all' 1000 > stream.ts\n"
    ++ codes "manual: man satip, or docs/satip.1; statuses: docs/PROTOCOL.md; configuration: examples/satip.toml\n"

-- the output of --version
abbrev pub version : List ℕ
version = codes "satip 0.2.0\n"
