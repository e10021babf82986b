-- The requests of a text, one after another: one of each message, and one of the break, if the text ends in one.
use Rattle.std.specs.Prelude.{◌≡◌, ℕ, List, [], ◌∷◌, ◌++◌, map}
use Rattle.satip_frame.specs.declared.framing.Break.{Break}
use Rattle.satip_frame.specs.Said.{Said}
use Rattle.satip_frame.specs.Stream.{Tail, Unfinished, Broken, Messages, Leads}
use Rattle.satip_frame.specs.Held.{Held}
use Rattle.satip_frame.specs.declared.hearing.Next.{Next}
use Rattle.satip_frame.specs.declared.hearing.Next.TheVariants.{Asked, Last, Nothing}

-- the request of the tail of a text: one for a break, none for an unfinished text
abbrev pub asked_by_tail : {A : Type 0} → (Break → A) → Tail → List A
asked_by_tail broken Unfinished = []
asked_by_tail broken (Broken cause) = broken cause ∷ []

-- all requests of a whole text
pub record AsksAll {A : Type 0} (asked : Said → A) (broken : Break → A) (text : List ℕ) (all : List A) : Type 0 where
  pub messages : List Said
  pub tail : Tail
  pub read : Messages text messages tail
  pub requests : all ≡ map asked messages ++ asked_by_tail broken tail

-- the requests of the first messages of the text; rest follows these messages, but for CR and LF
pub record AsksFirst {A : Type 0} (asked : Said → A) (text : List ℕ) (requests : List A) (rest : List ℕ) : Type 0 where
  pub messages : List Said
  pub leads : Leads text messages rest
  pub requests_are : requests ≡ map asked messages

-- the requests of all messages of the text; rest follows them, and more bytes may follow it
pub record AsksSoFar {A : Type 0} (asked : Said → A) (text : List ℕ) (requests : List A) (rest : List ℕ) : Type 0 where
  pub first : AsksFirst asked text requests rest
  pub read : Messages text first.messages Unfinished

-- the requests of the first messages of the text with one more, that of the next message
pub record AsksNext {A : Type 0} (asked : Said → A) (text : List ℕ) (before : List A) (request : A) (rest : List ℕ) : Type 0 where
  pub message : Said
  pub request_is : request ≡ asked message
  pub first : AsksFirst asked text (before ++ request ∷ []) rest

-- the text is broken after all its messages, and this is the request of that break
pub record AsksLast {A : Type 0} (asked : Said → A) (broken : Break → A) (text : List ℕ) (before : List A) (request : A) : Type 0 where
  pub messages : List Said
  pub cause : Break
  pub read : Messages text messages (Broken cause)
  pub before_are : before ≡ map asked messages
  pub request_is : request ≡ broken cause

-- the answer of `next_asked` after earlier requests; the bytes that wait are those of the framer and the rest of the piece
abbrev pub Hears : {A : Type 0} → (Said → A) → (Break → A) → List ℕ → List A → A → Held → List ℕ → Next → Type 0
Hears asked broken text before request framer rest Asked = AsksNext asked text before request (framer.bytes ++ rest)
Hears asked broken text before request framer rest Last = AsksLast asked broken text before request
Hears asked broken text before request framer rest Nothing = AsksSoFar asked text before framer.bytes × (rest ≡ [])

-- the requests are a prefix of all requests of the text
pub record AsksMore {A : Type 0} (asked : Said → A) (broken : Break → A) (text : List ℕ) (requests : List A) : Type 0 where
  pub all : List A
  pub asks : AsksAll asked broken text all
  pub others : List A
  pub longer : all ≡ requests ++ others
