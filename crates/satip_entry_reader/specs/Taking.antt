-- Reading from the front of some bytes into an output: `o` are the bytes before and `n` the rest, `p` the output before and `q` after.
use Rattle.std.specs.Prelude.{◌≡◌, ℕ, ◌≤◌, List, ◌++◌, length, take, drop, flat_map, Some}
use Rattle.satip_base.specs.declared.network.Address.{Address}
use Rattle.satip_base.specs.Output.{Datagram, Output, Sends, Wrote}
use Rattle.satip_entry_writer.specs.Records.{datagram_text}
use Rattle.satip_entry_reader.specs.ReadingEntries.{datagram_read, datagrams_read}

-- count bytes were appended to the reply
pub record TakesReply (count : ℕ) (o n : List ℕ) (p q : Output) : Type 0 where
  pub fits : count ≤ length o
  pub rest : n ≡ drop count o
  pub wrote : Wrote p (take count o) q

-- count bytes were sent as a datagram
pub record TakesPayload (to : Address) (count : ℕ) (o n : List ℕ) (p q : Output) : Type 0 where
  pub fits : count ≤ length o
  pub rest : n ≡ drop count o
  pub sent : Sends p to (take count o) q

-- a datagram was read and sent
pub record TakesDatagram (o n : List ℕ) (p q : Output) : Type 0 where
  pub added : Datagram
  pub read : datagram_read p.datagram_spare o ≡ Some (added, n)
  pub front : o ≡ datagram_text added ++ n
  pub sent : Sends p added.to added.bytes q

-- count datagrams were read
pub record TakesDatagrams (count : ℕ) (o n : List ℕ) (p q : Output) : Type 0 where
  pub read : datagrams_read count p.datagram_spare o ≡ Some (q.datagrams, n)
  pub front : o ≡ flat_map datagram_text q.datagrams ++ n
  pub length_is : length q.datagrams ≡ count
  pub reply : q.reply ≡ p.reply
