use Rattle.std.proofs.Common.{◌≡◌, ◌<◌, ◌≤◌, length, get_or, ap, ◌∙◌, rules}
use Rattle.satip_rtsp_interleaved.specs.Frames.{inside, behind}
use Rattle.satip_rtsp_interleaved.proofs.FrameLemmas.{inside_passed, head_open}
use Rattle.satip_rtsp_interleaved.proofs.passing.look.Goals as goal

pub returns-then-to_come-gt0 : goal.returns-then-to_come-gt0
returns-then-to_come-gt0 c =
    let n = c.args.to_come in
    let k = c.min-count.result in
    let below : k ≤ n = search rules in
    let within : k ≤ length c.args.bytes.now = search rules in
    let some : 0 < k = search rules in
    record { front = (record { within = within; same = λ more. inside_passed n k c.args.bytes.now more below within }, some) }

pub returns-then-bytes-lt-FRAME_HEAD : goal.returns-then-bytes-lt-FRAME_HEAD
returns-then-bytes-lt-FRAME_HEAD c =
    let bytes = c.args.bytes.now in
    let between : c.args.to_come ≡ 0 = search rules in
    let first : get_or bytes 0 0 ≡ 36 = search rules in
    let short : length bytes < 4 = search rules in
    record { front = record { none = ap (λ n. behind (inside n) bytes) between ∙ head_open bytes short first; short = short } }
