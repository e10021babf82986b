-- A tunnel over the small server of satip_plain, for the worked examples: one connection, which is given lane 1.
use Rattle.std.specs.Prelude.{ℕ, List, ◌∷◌, map, length, Some}
use Rattle.satip_base.specs.Output.{empty}
use Rattle.satip_base.specs.History.{entry}
use Rattle.satip_ts.specs.Packet.{pid_of}
use Rattle.satip_rtsp.specs.declared.requests.Method.TheVariants.{Setup}
use Rattle.satip_plain.specs.declared.events.Event.{Event}
use Rattle.satip_plain.specs.declared.events.Event.TheVariants.{Request as Asked}
use Rattle.satip_plain.specs.declared.setting.Setting.{Setting}
use Rattle.satip_plain.specs.Histories.{Item}
use Rattle.satip_plain.specs.Packets.{payload}
use Rattle.satip_plain.specs.Examples.{config, draw_one, draw_two, entry_of, first_query, id_of, ports, request, run}
use Rattle.satip_interleave.specs.declared.events.TunnelEvent.TheVariants.{Inner, Enter}
use Rattle.satip_interleave.specs.declared.events.TunnelAnswer.TheVariants.{Inner as InnerAnswer, Lane}
use Rattle.satip_interleave.specs.Histories.{TunnelItem, inners}
use Rattle.satip_tunnel_laws.specs.LaneFrames.{lane}
use Rattle.satip_tunnel_laws.specs.Channels.{inside, packets_on}

-- the setting of that server, whose clock starts at 0
abbrev pub setting : Setting
setting = record { config = config; start = 0 }

-- the server's entry as one of the tunnel
abbrev pub as_tunnel : Item → TunnelItem
as_tunnel e = entry e.caller (Inner e.event) (InnerAnswer e.answer) e.out

-- a SETUP from a lane's connection, with channels 0 and 1, which are ports 1 and 2
abbrev pub setup_from : ℕ → Event
setup_from x = Asked (record { ip = x }) draw_one (record request { method = Setup; query = first_query; ports = Some (ports 1) })

-- another session's SETUP from there, with the same channels
abbrev pub other_setup_from : ℕ → Event
other_setup_from x = Asked (record { ip = x }) draw_two (record request { method = Setup; query = first_query; ports = Some (ports 1) })

-- a connection is given lane 1, and then these are the server's events
abbrev pub tunnelled : List Event → List TunnelItem
tunnelled es = entry 4 Enter (Lane 1) empty ∷ map as_tunnel (map entry_of (run es))

-- the PIDs of the packets on channel 0 of lane 1, and of the payload of the first session
abbrev pub pids_on_0 : List Event → List ℕ
pids_on_0 es = map pid_of (packets_on 0 (lane (tunnelled es) 1))

abbrev pub pids_sent : List Event → List ℕ
pids_sent es = map pid_of (payload setting (inners (tunnelled es)) (id_of 1 10))

-- the number of datagrams on a channel of lane 1
abbrev pub count_on : ℕ → List Event → ℕ
count_on channel es = length (inside channel (lane (tunnelled es) 1))
