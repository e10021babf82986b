-- A client's address and query, for the worked examples.
use Rattle.std.specs.Prelude.{ℕ, List, codes}

abbrev pub some_address : List ℕ
some_address = codes "127.0.0.1:18554"

abbrev pub some_query : List ℕ
some_query = codes "freq=12402&pol=v&msys=dvbs&sr=27500&pids=all"
