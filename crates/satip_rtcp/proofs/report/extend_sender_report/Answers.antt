use Rattle.std.proofs.Common.{ℕ, subst}
use Rattle.std.specs.Int.{to_be_bytes, w32}
use Rattle.satip_base.specs.Output.{Extended}
use Rattle.satip_base.proofs.Writing.{◌and_extended◌}
use Rattle.satip_rtcp.specs.Reports.{sender_body}
use Rattle.satip_rtcp.proofs.report.extend_sender_report.Goals as goal

pub returns-clause-extended : goal.returns-clause-extended
unfolding sender_body
returns-clause-extended c =
    let seconds = subst (λ (n : ℕ). Extended c.extend_word.new.out (to_be_bytes w32 n) c.extend_word-2.new.out) c.ntp_seconds.ensures.seconds
    c.extend_word-2.ensures.extended in
    let fraction = subst (λ (n : ℕ). Extended c.extend_word-2.new.out (to_be_bytes w32 n) c.extend_word-3.new.out) c.ntp_fraction.ensures.fraction
    c.extend_word-3.ensures.extended in
    let time = subst (λ (n : ℕ). Extended c.extend_word-3.new.out (to_be_bytes w32 n) c.extend_word-4.new.out) c.rtp_time.ensures.time
    c.extend_word-4.ensures.extended in
    c.extend_header.ensures.extended and_extended (
    c.extend_word.ensures.extended and_extended seconds and_extended fraction and_extended time
    and_extended c.extend_word-5.ensures.extended and_extended c.extend_word-6.ensures.extended
    )
