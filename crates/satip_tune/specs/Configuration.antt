-- Configurations, as contracts see them.
use Rattle.std.specs.Prelude.{ℕ, List}
use Rattle.satip_tune.specs.declared.frontends.Front.{Front}
use Rattle.satip_tune.specs.declared.frontends.Mux.{Mux}

-- the server's address and ports, its timeout in seconds, its number of workers, its front ends and its multiplexes, with the name of each multiplex's
-- recording
pub record Configuration : Type 0 where
  pub address : ℕ
  pub rtsp_port : ℕ
  pub http_port : ℕ
  pub timeout : ℕ
  pub workers : ℕ
  pub fronts : List Front
  pub muxes : List Mux
  pub files : List (List ℕ)
