-- The messages of a whole text of received bytes, and the rest after them.
use Rattle.std.specs.Prelude.{◌≡◌, ℕ, ◌+◌, ◌<◌, ◌≤◌, ◌⊎◌, List, [], ◌∷◌, length, take, drop, if◌then◌else◌}
use Rattle.httparse.specs.Pieces.{is_newline}
use Rattle.satip_frame.specs.declared.framing.Break.{Break}
use Rattle.satip_frame.specs.declared.framing.Break.TheVariants.{Bad, TooLong}
use Rattle.satip_frame.specs.Said.{Said}
use Rattle.satip_frame.specs.Head.{HasNoEmptyLine, head_limit, IsHeadEnd, IsGoodHead}

-- the most bytes of a body
abbrev pub body_limit : ℕ
body_limit = 4096

-- the rest after the messages of a text: a prefix of one more, or a break
pub data Tail : Type 0 where
  Unfinished : Tail
  Broken : Break → Tail

-- the text from its first byte that is neither CR nor LF
abbrev pub skip_newlines : List ℕ → List ℕ
skip_newlines [] = []
skip_newlines (b ∷ text) = if is_newline b then skip_newlines text else (b ∷ text)

-- the text begins with a head of `head` bytes, which is that of m and announces a body of `body` bytes
pub record HasHead (text : List ℕ) (head : ℕ) (m : Said) (body : ℕ) : Type 0 where
  pub end : IsHeadEnd text head
  pub good : IsGoodHead (take head text) m body

-- the text begins with the message m, whose body is ignored, and rest follows
pub record Begins (text : List ℕ) (m : Said) (rest : List ℕ) : Type 0 where
  pub head : ℕ
  pub body : ℕ
  pub has_head : HasHead text head m body
  pub fits : body ≤ body_limit
  pub whole : head + body ≤ length text
  pub rest_is : rest ≡ drop (head + body) text

-- the head isn't complete yet: no empty line ends so far, and the text is shorter than the limit
abbrev pub IsHeadOpen : List ℕ → Type 0
IsHeadOpen text = (length text < head_limit) × HasNoEmptyLine (length text) text

-- the head is too long: no empty line ends within the limit
abbrev pub IsHeadEndless : List ℕ → Type 0
IsHeadEndless text = (head_limit ≤ length text) × HasNoEmptyLine head_limit text

-- the head is complete, and part of the body is missing
abbrev pub IsBodyOpen : List ℕ → Type 0
IsBodyOpen text =
    (head : ℕ) × (m : Said) × (body : ℕ) × HasHead text head m body × (body ≤ body_limit) × (length text < head + body)

-- the head is complete, and it isn't that of a message
abbrev pub IsHeadBad : List ℕ → Type 0
IsHeadBad text =
    (head : ℕ) × IsHeadEnd text head × ((m : Said) (body : ℕ) → IsGoodHead (take head text) m body → ⊥)

-- the head is complete, and it announces a body that is too long
abbrev pub IsBodyTooLong : List ℕ → Type 0
IsBodyTooLong text = (head : ℕ) × (m : Said) × (body : ℕ) × HasHead text head m body × (body_limit < body)

-- the text begins with no whole message, for this reason
abbrev pub Ends : List ℕ → Tail → Type 0
Ends text Unfinished = IsHeadOpen text ⊎ IsBodyOpen text
Ends text (Broken Bad) = IsHeadEndless text ⊎ IsHeadBad text
Ends text (Broken TooLong) = IsBodyTooLong text

-- the text has these messages and this tail; CR and LF before a message are skipped
abbrev pub Messages : List ℕ → List Said → Tail → Type 0
Messages text [] tail = Ends (skip_newlines text) tail
Messages text (m ∷ ms) tail = (rest : List ℕ) × Begins (skip_newlines text) m rest × Messages rest ms tail

-- the text begins with these messages, and rest follows, but for CR and LF
abbrev pub Leads : List ℕ → List Said → List ℕ → Type 0
Leads text [] rest = skip_newlines text ≡ skip_newlines rest
Leads text (m ∷ ms) rest = (after : List ℕ) × Begins (skip_newlines text) m after × Leads after ms rest

-- these are the first messages of the text
abbrev pub AreFirst : List Said → List ℕ → Type 0
AreFirst ms text = (rest : List ℕ) × Leads text ms rest
