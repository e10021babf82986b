-- The output of one event: a reply and datagrams, with the room that is left for more.
use Rattle.std.specs.Prelude.{◌≡◌, ℕ, ◌+◌, List, [], ◌∷◌, ◌++◌, length, sum_by, Option, Some, None}
use Rattle.std.specs.Borrow.{Bor}
use Rattle.satip_base.specs.declared.network.Address.{Address}
use Rattle.satip_base.specs.declared.limits.TheConstants.{REPLY_BYTES, EVENT_BYTES, EVENT_DATAGRAMS}

-- a datagram and its destination
pub record Datagram : Type 0 where
  pub to : Address
  pub bytes : List ℕ

-- a reply, the datagrams, and how many more bytes of reply, bytes of datagrams and datagrams there is room for
pub record Output : Type 0 where
  pub reply : List ℕ
  pub datagrams : List Datagram
  pub reply_spare : ℕ
  pub datagram_spare : ℕ
  pub count_spare : ℕ

-- the output before anything is written
abbrev pub empty : Output
empty = record { reply = []; datagrams = []; reply_spare = REPLY_BYTES; datagram_spare = EVENT_BYTES; count_spare = EVENT_DATAGRAMS }

-- the number of bytes of all datagrams together
abbrev pub datagram_bytes : List Datagram → ℕ
datagram_bytes datagrams = sum_by (λ d. length d.bytes) datagrams

-- the room is what is written and what is left
pub record IsWithinRoom (o : Output) : Type 0 where
  pub reply : o.reply_spare + length o.reply ≡ REPLY_BYTES
  pub bytes : o.datagram_spare + datagram_bytes o.datagrams ≡ EVENT_BYTES
  pub count : o.count_spare + length o.datagrams ≡ EVENT_DATAGRAMS

-- the output after bytes were appended to the reply
pub record Wrote (o : Output) (bs : List ℕ) (n : Output) : Type 0 where
  pub reply : n.reply ≡ o.reply ++ bs
  pub reply_spare : n.reply_spare + length bs ≡ o.reply_spare
  pub datagrams : n.datagrams ≡ o.datagrams
  pub datagram_spare : n.datagram_spare ≡ o.datagram_spare
  pub count_spare : n.count_spare ≡ o.count_spare

-- the output after a datagram with these bytes was appended
pub record Sends (o : Output) (to : Address) (bs : List ℕ) (n : Output) : Type 0 where
  pub datagrams : n.datagrams ≡ o.datagrams ++ record { to = to; bytes = bs } ∷ []
  pub datagram_spare : n.datagram_spare + length bs ≡ o.datagram_spare
  pub count_spare : n.count_spare + 1 ≡ o.count_spare
  pub reply : n.reply ≡ o.reply
  pub reply_spare : n.reply_spare ≡ o.reply_spare

-- the datagrams with bytes appended to the last of them
abbrev pub extended : List Datagram → List ℕ → List Datagram
extended [] bs = []
extended (d ∷ []) bs = record { to = d.to; bytes = d.bytes ++ bs } ∷ []
extended (d ∷ e ∷ ds) bs = d ∷ extended (e ∷ ds) bs

-- the output after bytes were appended to the last datagram
pub record Extended (o : Output) (bs : List ℕ) (n : Output) : Type 0 where
  pub datagrams : n.datagrams ≡ extended o.datagrams bs
  pub count : length n.datagrams ≡ length o.datagrams
  pub datagram_spare : n.datagram_spare + length bs ≡ o.datagram_spare
  pub count_spare : n.count_spare ≡ o.count_spare
  pub reply : n.reply ≡ o.reply
  pub reply_spare : n.reply_spare ≡ o.reply_spare

-- the datagram of an address and a slice
abbrev pub shown : Option (Address × Bor (List ℕ)) → Option Datagram
shown None = None
shown (Some (to, bytes)) = Some (record { to = to; bytes = bytes.now })
