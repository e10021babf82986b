-- The ranges of the values of every configuration that is read.
use Rattle.std.specs.Prelude.{◌≡◌, ℕ, ◌≤◌, ◌<◌, ◌^◌, List, length, All}
use Rattle.satip_tune.specs.declared.frontends.Front.{Front}
use Rattle.satip_tune.specs.declared.frontends.Mux.{Mux}
use Rattle.satip_tune.specs.Configuration.{Configuration}

-- a number from `least` to `most`
abbrev pub IsWithin : ℕ → ℕ → ℕ → Type 0
IsWithin least most n = (least ≤ n) × (n ≤ most)

-- a front end has a place for each source and each system
pub record HasPlaces (front : Front) : Type 0 where
  pub sources : length front.sources ≡ 256
  pub systems : length front.systems ≡ 2

-- a multiplex has a source, a frequency in kHz and a symbol rate in kSymb/s that are allowed
pub record IsReceivable (mux : Mux) : Type 0 where
  pub src : IsWithin 1 255 mux.src
  pub freq : IsWithin 1000 99999999 mux.freq
  pub sr : IsWithin 1 99999 mux.sr

-- the name of a file has 1 to 255 bytes
abbrev pub IsFileName : List ℕ → Type 0
IsFileName name = IsWithin 1 255 (length name)

-- each value of the configuration is within its range
pub record IsWithinRanges (c : Configuration) : Type 0 where
  pub address : c.address < 2 ^ 32
  pub rtsp_port : IsWithin 1 65535 c.rtsp_port
  pub http_port : IsWithin 1 65535 c.http_port
  pub timeout : IsWithin 10 3600 c.timeout
  pub workers : IsWithin 1 64 c.workers
  pub fronts : All HasPlaces c.fronts
  pub muxes : All IsReceivable c.muxes
  pub files : All IsFileName c.files
