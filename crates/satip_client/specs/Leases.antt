-- The session that a client was given.
use Rattle.std.specs.Prelude.{ℕ, List}
use Rattle.satip_client.specs.declared.grants.Grant.{Grant}

-- its name, the number of seconds that it lives without a request, and its stream
pub record Terms : Type 0 where
  pub session : List ℕ
  pub timeout : ℕ
  pub stream : ℕ

-- the terms that a reply gives
abbrev pub terms_of : Grant → Terms
terms_of grant = record { session = grant.session.now; timeout = grant.timeout; stream = grant.stream }
