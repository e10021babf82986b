use Rattle.std.proofs.Common.{length, ap, ◌∙◌, arith, length-drop}
use Rattle.satip_flow.proofs.sink.pull_sink.Goals as goal

-- fewer packets are left in as many places
pub returns-in-Queued-clause-sound : goal.returns-in-Queued-clause-sound
returns-in-Queued-clause-sound c =
    let sound = rw c.in-Queued.is at c.requires.sound in
    let left = c.pull_queue.ensures.left in
    (ap (λ b. b.capacity) left ∙ sound.0, omega (arith, sound.1, ap (λ b. length b.items) left, length-drop 64 c.in-Queued.queue.items))
