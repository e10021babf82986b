-- A page of requests, as contracts see it.
use Rattle.std.specs.Prelude.{ℕ, ◌+◌, List, [], length}

-- the address of the server, the query of the stream, the request that was written last, and the number of bytes that the page has room for besides
pub record PageView : Type 0 where
  pub address : List ℕ
  pub query : List ℕ
  pub text : List ℕ
  pub spare : ℕ

-- a page without a request
abbrev pub blank_page : (address query : List ℕ) → PageView
blank_page address query = record { address = address; query = query; text = []; spare = length address + length query + 8448 }
