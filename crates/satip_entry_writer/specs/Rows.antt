-- Entries whose lines are worked out by hand.
use Rattle.std.specs.Prelude.{◌≡◌, true, false, List, [], ◌∷◌, codes, Some, None}
use Rattle.satip_tune.specs.declared.signal.Pol.TheVariants.{L}
use Rattle.satip_tune.specs.declared.signal.RollOff.TheVariants.{R20}
use Rattle.satip_tune.specs.declared.signal.System.TheVariants.{Dvbs2}
use Rattle.satip_tune.specs.declared.signal.Modulation.TheVariants.{Psk8}
use Rattle.satip_tune.specs.declared.signal.Fec.TheVariants.{F910}
use Rattle.satip_query.specs.declared.queries.PidsGiven.TheVariants.{List as ThesePids}
use Rattle.satip_rtsp.specs.declared.requests.Method.TheVariants.{Setup}
use Rattle.satip_rtsp.specs.declared.requests.SessionName.TheVariants.{Named}
use Rattle.satip_rtsp.specs.declared.requests.Request.{Request}
use Rattle.satip_base.specs.declared.network.Address.{Address}
use Rattle.satip_base.specs.Output.{Datagram}
use Rattle.satip_plain.specs.declared.events.Event.{Event}
use Rattle.satip_plain.specs.declared.events.Event.TheVariants.{Request as Asked, Tick, Stop}
use Rattle.satip_plain.specs.declared.answers.Answer.TheVariants.{Replied as RepliedIs, Beat as BeatIs}
use Rattle.satip_plain.specs.declared.answers.Beat.TheVariants.{Going, Stopping}
use Rattle.satip_entry_writer.specs.Lines.{entry_line, start_line}

abbrev pub StopIsWritten : Type 0
StopIsWritten = entry_line 0 0 Stop (BeatIs Stopping) [] [] ≡ codes "entry 0 0 080201000000000000\n"

abbrev pub TickIsWritten : Type 0
TickIsWritten = entry_line 0 0 (Tick 10) (BeatIs Going) [] [] ≡ codes "entry 0 0 02000000000000000a0200000000000000\n"

abbrev pub StartIsWritten : Type 0
StartIsWritten = start_line 0 ≡ codes "start 0\n"

-- SETUP of stream 7 with a session, each field of a tuning but the front end, two lists of PIDs and ports
abbrev pub setup_request : Request
setup_request = record {
  cseq = Some 2;
  refusal = None;
  method = Setup;
  stream = Some 7;
  session = Named (record { count = 3; word = 4 });
  query = record {
    change = record {
      fe = None;
      src = Some 1;
      freq = Some 11494000;
      pol = Some L;
      ro = Some R20;
      msys = Some Dvbs2;
      mtype = Some Psk8;
      plts = Some true;
      sr = Some 22000;
      fec = Some F910;
    };
    pids = ThesePids (0 ∷ 16 ∷ []);
    addpids = Some (8191 ∷ 8191 ∷ []);
    delpids = None;
  };
  ports = Some (record { rtp = 5000; rtcp = 5001 });
}

abbrev pub client : Address
client = record { ip = 167772162; port = 5000 }

-- a datagram of three bytes, and an empty one
abbrev pub two_datagrams : List Datagram
two_datagrams = record { to = client; bytes = codes "abc" } ∷ record { to = client; bytes = [] } ∷ []

abbrev pub setup_event : Event
setup_event =
    Asked (record { ip = 167772162 }) (record { word = 16909060; ssrc = 84281096; first = 2314 }) setup_request

abbrev pub SetupIsWritten : Type 0
SetupIsWritten =
    entry_line 7 3 setup_event (RepliedIs (record { status = 200; closing = false })) (codes "ok") two_datagrams
    ≡ codes "entry 7 3 000a0000020102030405060708090a010000000200020100070100000003000000040001010100af62700102010201010101010101000055f00108030002000000100100021fff1fff0001138813890000c800000000026f6b00020a0000021388000000036162630a000002138800000000\n"
