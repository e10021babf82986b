-- The types of the plain server's definitions, from the crates that declare them.
pub use Rattle.satip_base.specs.declared.identity.SessionId.{SessionId}
pub use Rattle.satip_base.specs.declared.identity.Draw.{Draw}
pub use Rattle.satip_base.specs.declared.network.Peer.{Peer}
pub use Rattle.satip_base.specs.declared.network.Address.{Address}
pub use Rattle.satip_base.specs.declared.network.Ports.{Ports}
pub use Rattle.satip_tune.specs.declared.tunings.Tuning.{Tuning}
pub use Rattle.satip_tune.specs.declared.tunings.Change.{Change}
pub use Rattle.satip_tune.specs.declared.keys.Key.{Key}
pub use Rattle.satip_tune.specs.declared.frontends.Front.{Front}
pub use Rattle.satip_tune.specs.declared.frontends.Mux.{Mux}
pub use Rattle.satip_query.specs.declared.queries.Query.{Query}
pub use Rattle.satip_query.specs.declared.bodies.RefusalBody.{RefusalBody}
pub use Rattle.satip_rtsp.specs.declared.requests.Request.{Request}
pub use Rattle.satip_http.specs.declared.requests.HttpRequest.{HttpRequest}
pub use Rattle.satip_pids.specs.Pids.{Pids}
pub use Rattle.satip_tune.specs.Configuration.{Configuration as Config}
