-- Datagrams that an outlet was given, one after another.
use Rattle.std.specs.Prelude.{◌≡◌, ℕ, suc, ◌+◌, ◌≤◌, ◌⊎◌, List, [], ◌∷◌, ◌++◌}
use Rattle.satip_base.specs.Output.{Datagram}
use Rattle.satip_world.specs.Outboxes.{Outbox}

-- the second list is the first with n datagrams left out
pub data LeavesOut : List Datagram → List Datagram → ℕ → Type 0 where
  no_more : LeavesOut [] [] 0
  went : {d : Datagram} {ds sent : List Datagram} {n : ℕ} → LeavesOut ds sent n → LeavesOut (d ∷ ds) (d ∷ sent) n
  lost : {d : Datagram} {ds sent : List Datagram} {n : ℕ} → LeavesOut ds sent n → LeavesOut (d ∷ ds) sent (suc n)

-- these datagrams were sent in order, except for some that failed; each of those is a fault
pub record Delivers (tells : Type 0) (o n : Outbox) (all : List Datagram) : Type 0 where
  pub sent : List Datagram
  pub missing : ℕ
  pub leaves_out : LeavesOut all sent missing
  pub content : tells → n.sent ≡ o.sent ++ sent
  pub faults : (o.faults + missing ≤ n.faults) ⊎ (18446744073709551615 ≤ n.faults)
  pub kept : o.faults ≤ n.faults
