-- Worked histories of the small server of satip_plain, in short.
use Rattle.std.specs.Prelude.{ℕ, Bool, false, List, [], ◌∷◌, ◌++◌, map, Option, Some, None}
use Rattle.std.specs.Option.{option_map_or}
use Rattle.satip_ts.specs.Packet.{pid_of}
use Rattle.satip_plain.specs.declared.events.Event.{Event}
use Rattle.satip_plain.specs.declared.setting.Setting.{Setting}
use Rattle.satip_plain.specs.Types.{SessionId}
use Rattle.satip_plain.specs.Histories.{Item, after}
use Rattle.satip_plain.specs.Packets.{payload}
use Rattle.satip_plain.specs.Numbering.{numbers_for}
use Rattle.satip_plain.specs.declared.answers.Answer.TheVariants.{Work as WorkIs}
use Rattle.satip_plain.specs.declared.answers.Work.{Work}
use Rattle.satip_plain.specs.Examples.{config, entry_of, packet_of, run}
use Rattle.satip_laws.specs.Given.{given}
use Rattle.satip_laws.specs.Makings.{made}
use Rattle.satip_laws.specs.Payload.{held_of}
use Rattle.satip_laws.specs.Pulls.{taken}
use Rattle.satip_laws.specs.InBytes.{payload_in_bytes}
use Rattle.satip_laws.specs.Numbers.{sent_in, shares_ssrc}
use Rattle.satip_laws.specs.OverReadings.{gives_tuning}
use Rattle.satip_plain.specs.Readings.{readings}
use Rattle.satip_plain.specs.Pumping.{Reel, Due, after_entry}
use Rattle.satip_laws.specs.Recorded.{current}
use Rattle.satip_laws.specs.ReadRecording.{fresh_packets}

abbrev pub setting : Setting
setting = record { config = config; start = 0 }

-- the history that these events make
abbrev pub history : List Event → List Item
history es = map entry_of (run es)

abbrev pub pids : List (List ℕ) → List ℕ
pids packets = map pid_of packets

-- the PIDs of what a session was given, of its payload, of its held packets and of what its pulls took
pub record Flow : Type 0 where
  pub given : List ℕ
  pub sent : List ℕ
  pub held : List ℕ
  pub taken : List ℕ

abbrev pub flow : List ℕ → List ℕ → List ℕ → List ℕ → Flow
flow given sent held taken = record { given = given; sent = sent; held = held; taken = taken }

abbrev pub flow_of : List Event → SessionId → Flow
flow_of es s = record {
  given = pids (given setting (history es) s);
  sent = pids (payload setting (history es) s);
  held = pids (held_of (after setting (history es)) s);
  taken = pids (taken setting (history es) s);
}

-- a created session, in short
pub record Newcomer : Type 0 where
  pub count : ℕ
  pub http : Bool
  pub stream : ℕ
  pub first : ℕ

abbrev pub newcomer : ℕ → Bool → ℕ → ℕ → Newcomer
newcomer count http stream first = record { count = count; http = http; stream = stream; first = first }

abbrev pub newcomers : List Event → List Newcomer
newcomers es = map (λ x. newcomer x.id.count x.http x.stream x.first) (made setting (history es))

abbrev pub last_item : List Item → Option Item
last_item [] = None
last_item (e ∷ []) = Some e
last_item (e ∷ f ∷ es) = last_item (f ∷ es)

-- whether one more event gives the stream of this home another tuning, from the readings
abbrev pub gives_next : List Event → Event → SessionId → Bool
gives_next es e home = option_map_or (λ i. gives_tuning (readings setting (history es)) i home) (last_item (history (es ++ e ∷ []))) false

abbrev pub numbers_of : List Event → SessionId → List ℕ
numbers_of es s = numbers_for s (sent_in setting (history es))

-- the head of a datagram of number 65535 and SSRC 0x11223344, at a clock of 1040
abbrev pub head : List ℕ
head = 128 ∷ 33 ∷ 255 ∷ 255 ∷ 0 ∷ 1 ∷ 109 ∷ 160 ∷ 17 ∷ 34 ∷ 51 ∷ 68 ∷ []

-- the PIDs of the packets in the bytes that left for a session
abbrev pub left_pids : List Event → SessionId → List ℕ
left_pids es s = pids (payload_in_bytes setting (history es) s)

abbrev pub shared_by : List Event → SessionId → ℕ → Bool
shared_by es s ssrc = shares_ssrc setting (history es) s ssrc

-- the PIDs of the packets of a front end and a tune number that weren't stale, from the state and from the readings
abbrev pub current_pids : List Event → ℕ → ℕ → List ℕ
current_pids es front tune = pids (current setting (history es) front tune)

abbrev pub fresh_pids : List Event → ℕ → ℕ → List ℕ
fresh_pids es front tune = pids (fresh_packets setting (history es) front tune)

-- a reel of packets of these PIDs, and recordings whose content isn't exposed
abbrev pub reel : ℕ → List ℕ → Reel
reel tune left = record { tune = tune; left = Some (map packet_of left) }

abbrev pub untold : ℕ → Option (List ℕ)
untold mux = None

-- the next event of a pump after an entry with this event and this work in its answer
abbrev pub due_after : Due → Event → Work → Due
due_after due event work = after_entry untold due (record { caller = 2; event = event; answer = WorkIs work; out = record { reply = []; datagrams = []; reply_spare = 0; datagram_spare = 0; count_spare = 0 } })
