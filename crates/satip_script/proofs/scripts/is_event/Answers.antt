use Rattle.std.proofs.Common.{refl}
use Rattle.satip_plain.specs.declared.events.Event.TheVariants.{Tick, Ended, Ask, Pull, Close, Stop}
use Rattle.satip_ts.specs.Digits.{bytes_of, packet_of}
use Rattle.satip_script.proofs.PartLemmas.{rtsp_some, http_some, packet_some, true_to}
use Rattle.satip_script.proofs.scripts.is_event.Goals as goal

pub returns-in-Rtsp-clause-yes : goal.returns-in-Rtsp-clause-yes
returns-in-Rtsp-clause-yes c =
    rw c.in-Rtsp.is (true_to c.says.result c.says.ensures.yes (rtsp_some c.in-Rtsp.peer c.in-Rtsp.draw (bytes_of c.in-Rtsp.digits.now)))

pub returns-in-Http-clause-yes : goal.returns-in-Http-clause-yes
returns-in-Http-clause-yes c =
    rw c.in-Http.is (true_to c.says-in-Http.result c.says-in-Http.ensures.yes (http_some c.in-Http.peer c.in-Http.draw (bytes_of c.in-Http.digits.now)))

pub returns-in-Packet-clause-yes : goal.returns-in-Packet-clause-yes
returns-in-Packet-clause-yes c =
    rw c.in-Packet.is (packet_some c.in-Packet.front c.in-Packet.tune (packet_of c.in-Packet.digits.now) c.is_packet.result c.is_packet.ensures.test)

pub returns-in-Tick-clause-yes : goal.returns-in-Tick-clause-yes
returns-in-Tick-clause-yes c = rw c.in-Tick.is (Tick c.in-Tick.now, refl)

pub returns-in-Ended-clause-yes : goal.returns-in-Ended-clause-yes
returns-in-Ended-clause-yes c = rw c.in-Ended.is (Ended c.in-Ended.front c.in-Ended.tune, refl)

pub returns-in-Ask-clause-yes : goal.returns-in-Ask-clause-yes
returns-in-Ask-clause-yes c = rw c.in-Ask.is (Ask c.in-Ask.front, refl)

pub returns-in-Pull-clause-yes : goal.returns-in-Pull-clause-yes
returns-in-Pull-clause-yes c = rw c.in-Pull.is (Pull c.in-Pull.session, refl)

pub returns-in-Close-clause-yes : goal.returns-in-Close-clause-yes
returns-in-Close-clause-yes c = rw c.in-Close.is (Close c.in-Close.session, refl)

pub returns-in-Stop-clause-yes : goal.returns-in-Stop-clause-yes
returns-in-Stop-clause-yes c = rw c.in-Stop.is (Stop, refl)
