-- Bytes that go both ways on a connection, and faults that are counted.
use Rattle.std.proofs.Common.{ℕ, List, [], ◌++◌, sym, ap, ◌∙◌, append_assoc, append-nil}
use Rattle.satip_world.specs.Lines.{Line, Grew}
use Rattle.satip_client.specs.Waits.{SameFaults}

-- bytes that went both ways, one after another
pub grew_then : (tells : Type 0) (o m n : Line) (got_a put_a got_b put_b : List ℕ) → Grew tells o m got_a put_a → Grew tells m n got_b put_b
    → Grew tells o n (got_a ++ got_b) (put_a ++ put_b)
grew_then tells o m n got_a put_a got_b put_b first second = record {
  received = λ told. second.received told ∙ ap (λ (t : List ℕ). t ++ got_b) (first.received told) ∙ append_assoc o.received got_a got_b;
  sent = λ told. second.sent told ∙ ap (λ (t : List ℕ). t ++ put_b) (first.sent told) ∙ append_assoc o.sent put_a put_b;
}

pub grew_none : (tells : Type 0) (o : Line) → Grew tells o o [] []
grew_none tells o = record { received = λ _. sym (append-nil o.received); sent = λ _. sym (append-nil o.sent) }

pub faults_then : (o m n : Line) → SameFaults o m → SameFaults m n → SameFaults o n
faults_then o m n first second = record {
  receive_faults = second.receive_faults ∙ first.receive_faults;
  send_faults = second.send_faults ∙ first.send_faults;
}
