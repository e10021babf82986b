-- Datagrams that are sent one after another.
use Rattle.std.specs.Prelude.{◌≡◌, ◌+◌, List, ◌++◌, length}
use Rattle.satip_base.specs.Output.{Output, Datagram, datagram_bytes}

-- the output after these datagrams were appended
pub record SendsAll (o : Output) (ds : List Datagram) (n : Output) : Type 0 where
  pub datagrams : n.datagrams ≡ o.datagrams ++ ds
  pub datagram_spare : n.datagram_spare + datagram_bytes ds ≡ o.datagram_spare
  pub count_spare : n.count_spare + length ds ≡ o.count_spare
  pub reply : n.reply ≡ o.reply
  pub reply_spare : n.reply_spare ≡ o.reply_spare
