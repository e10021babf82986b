-- The request of a message over HTTP.
use Rattle.std.specs.Prelude.{◌≡◌, ℕ, ◌||◌, nat_eq, Bool, true, List, drop, Option, Some, None, Result, Ok, Err, unwrap_or, codes, if◌then◌else◌}
use Rattle.std.specs.List.{starts_with}
use Rattle.std.specs.Str.{bytes_eq}
use Rattle.satip_frame.specs.declared.framing.Break.{Break}
use Rattle.satip_frame.specs.declared.framing.Break.TheVariants.{Bad, TooLong as too_long}
use Rattle.satip_frame.specs.Said.{Said}
use Rattle.satip_query.specs.Queries.{new_query}
use Rattle.satip_query.specs.Reading.{query_of}
use Rattle.satip_query.specs.declared.queries.Query.{Query}
use Rattle.satip_query.specs.declared.faults.QueryFault.{QueryFault}
use Rattle.satip_frame.specs.Origins.{after_front}
use Rattle.satip_http.specs.declared.requests.HttpRefusal.{HttpRefusal}
use Rattle.satip_http.specs.declared.requests.HttpRefusal.TheVariants.{Broken, TooLong, Version, Method, Target, NotFound, Query as QueryAt}
use Rattle.satip_http.specs.declared.requests.HttpRequest.{HttpRequest}

-- a refused request
abbrev pub refused : HttpRefusal → HttpRequest
refused refusal = record { refusal = Some refusal; query = new_query }

-- whether a version is served
unfoldable pub is_served_text : List ℕ → Bool
is_served_text version = bytes_eq version (codes "HTTP/1.0") || bytes_eq version (codes "HTTP/1.1")

-- the target after its origin, if it has one
unfoldable pub rest_text : List ℕ → List ℕ
rest_text target = unwrap_or (after_front (codes "http://") target) target

-- the request of a query
abbrev pub get_of_query : Result Query QueryFault → HttpRequest
get_of_query (Ok query) = record { refusal = None; query = query }
get_of_query (Err fault) = refused (QueryAt fault)

-- the request of a path with its query: only `/` is served
abbrev pub get_of_path : List ℕ → HttpRequest
get_of_path path =
    if starts_with nat_eq path (codes "/?") then get_of_query (query_of (drop 2 path))
    else if starts_with nat_eq path (codes "/") then refused NotFound
    else refused Target

-- the request of a target after its origin: a path, or a query alone
unfoldable pub get_of_rest : List ℕ → HttpRequest
get_of_rest rest = if starts_with nat_eq rest (codes "?") then get_of_query (query_of (drop 1 rest)) else get_of_path rest

-- the request of a message: the first refusal is the result, in the order version, method, target, query
unfoldable pub asked_get : Said → HttpRequest
asked_get m =
    if is_served_text m.version then
    (if bytes_eq m.method (codes "GET") then get_of_rest (rest_text m.target) else refused Method)
    else refused Version

-- the message has a version that is served, and its method is GET
pub record IsGet (m : Said) : Type 0 where
  pub version : is_served_text m.version ≡ true
  pub method : bytes_eq m.method (codes "GET") ≡ true

-- whether a target after its origin begins with a path
abbrev pub is_path : List ℕ → Bool
is_path rest = starts_with nat_eq rest (codes "/")

-- the text of the query after an empty path or the path `/`, if there is one
abbrev pub query_in : List ℕ → Option (List ℕ)
query_in rest =
    if starts_with nat_eq rest (codes "?") then Some (drop 1 rest)
    else if starts_with nat_eq rest (codes "/?") then Some (drop 2 rest)
    else None

-- there is a query, with this first fault
abbrev pub AsksAtFault : QueryFault → Option (List ℕ) → Type 0
AsksAtFault fault None = ⊥
AsksAtFault fault (Some text) = query_of text ≡ Err fault

-- the request of a text that is no message
abbrev pub broken_get : Break → HttpRequest
broken_get Bad = refused Broken
broken_get too_long = refused TooLong
