use Rattle.std.proofs.Common.{◌≡◌, ◌==◌, ◌++◌, ◌∷◌, [], ℕ, List, arith, ap, sym, subst, true}
use Rattle.satip_fronts.specs.Choice.{choose, blocked, least, placed, may_take}
use Rattle.satip_ts.specs.Packet.{pid_of}
use Rattle.satip_ts.specs.Recording.{cut_packets}
use Rattle.satip_plain.specs.Examples.{packet_of}
use Rattle.satip_plain.specs.Readings.{readings}
use Rattle.satip_laws.specs.Examples.{setting}
use Rattle.satip_laws.specs.ReadRecording.{is_fresh}
use Rattle.satip_sharing_tests.proofs.RecordedRows.{and_false, none_where, none_before, too_many, first_told}
use Rattle.satip_sharing_tests.proofs.recorded.packets_are_of_recordings.Goals as goal

pub returns-clause-stale : goal.returns-clause-stale
returns-clause-stale c = (
  (λ tune. record {
    mux = 0;
    packets = record {
      rest = cut_packets [];
      whole = ap (λ (f : List (List ℕ)). f ++ cut_packets []) (sym (none_where (1 == tune) (packet_of 16 ∷ [])));
    };
    streams = λ g k e packet is event on. absurd (and_false (0 == tune) (subst (λ h. is_fresh (readings setting h) 1 tune ≡ true) (none_before g k e _ is) on));
  }),
  tt,
)

pub returns-clause-invented : goal.returns-clause-invented
unfolding choose blocked least placed may_take cut_packets
returns-clause-invented c = λ plays. too_many (packet_of 16 ∷ []) [] (plays.0 1).packets (omega arith)

pub returns-clause-another : goal.returns-clause-another
unfolding choose blocked least placed may_take cut_packets
returns-clause-another c = λ plays.
    let same : packet_of 17 ≡ packet_of 16 = first_told (packet_of 16) (packet_of 17) [] [] (plays.0 1).packets in
    let pids : 17 ≡ 16 = ap pid_of same in
    absurd (omega (arith, pids))

pub returns-clause-too_many : goal.returns-clause-too_many
unfolding choose blocked least placed may_take cut_packets
returns-clause-too_many c = λ plays. too_many (packet_of 16 ∷ packet_of 16 ∷ []) (packet_of 16 ∷ []) (plays.0 1).packets (omega arith)
