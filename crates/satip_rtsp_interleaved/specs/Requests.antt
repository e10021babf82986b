-- The request of a message on a connection that carries the packets too.
use Rattle.std.specs.Prelude.{ℕ, List, Option, None, codes, option_and_then}
use Rattle.satip_base.specs.declared.network.Ports.{Ports}
use Rattle.satip_frame.specs.Said.{Said, first_value}
use Rattle.satip_rtsp.specs.declared.requests.Method.{Method}
use Rattle.satip_rtsp.specs.declared.requests.Method.TheVariants.{Setup}
use Rattle.satip_rtsp.specs.declared.requests.Request.{Request}
use Rattle.satip_rtsp.specs.Asked.{asked}
use Rattle.satip_rtsp_interleaved.specs.Channels.{interleaved_by}

-- the channels that a request with this method asks for
abbrev pub channels_asked : Method → Option (List ℕ) → Option Ports
channels_asked Setup value = option_and_then interleaved_by value
channels_asked method value = None

-- a request with its channels instead of UDP ports; a refused one has the method Options, so no channels
abbrev pub with_channels : Option (List ℕ) → Request → Request
with_channels value r = record r { ports = channels_asked r.method value }

-- the request of a message
abbrev pub asked_by_tunnel : Said → Request
asked_by_tunnel m = with_channels (first_value (codes "Transport") m.headers) (asked m)
