-- The room of a batch.
use Rattle.std.specs.Prelude.{◌&&◌, nat_le, Bool}
use Rattle.satip_base.specs.declared.limits.TheConstants.{EVENT_BYTES, EVENT_DATAGRAMS}
use Rattle.satip_base.specs.Bundles.{Bundle, no_datagrams}

-- a batch without datagrams
abbrev pub empty_bundle : Bundle
empty_bundle = no_datagrams 1310720 1024

-- whether there is room for the datagrams of any event: 256 datagrams of 262144 bytes together
abbrev pub has_room : Bundle → Bool
has_room b = nat_le EVENT_BYTES b.byte_spare && nat_le EVENT_DATAGRAMS b.count_spare
