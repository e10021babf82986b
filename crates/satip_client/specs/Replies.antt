-- The reply at the front of the bytes that a server sent.
use Rattle.std.specs.Prelude.{◌≡◌, ℕ, ◌+◌, List, ◌++◌, length}
use Rattle.std.specs.Option.{option_copied}
use Rattle.satip_client.specs.Fields.{cseq_in, session_in, timeout_in, stream_in}
use Rattle.satip_client.specs.Heads.{Head, print_head, headers_of, status_of, HasReply}
use Rattle.satip_client.specs.declared.reply.ReplyRead.{ReplyRead}
use Rattle.satip_client.specs.declared.reply.ReplyRead.TheVariants.{Reply, More, Bad}
use Rattle.satip_client.specs.declared.reply.ReplyView.{ReplyView}

-- the content of a reply, with a body of `size` bytes
pub record Says (h : Head) (size : ℕ) (view : ReplyView) : Type 0 where
  pub length_is : view.length ≡ length (print_head h) + size
  pub status : view.status ≡ status_of h
  pub cseq : view.cseq ≡ cseq_in (headers_of h)
  pub session : option_copied view.session ≡ session_in (headers_of h)
  pub timeout : view.timeout ≡ timeout_in (headers_of h)
  pub stream : view.stream ≡ stream_in (headers_of h)

-- the text begins with a whole reply of this content
abbrev pub IsReply : List ℕ → ReplyView → Type 0
IsReply text view = (h : Head) × (size : ℕ) × HasReply text h size × Says h size view

-- the text begins with no whole reply
abbrev pub HasNoReply : List ℕ → Type 0
HasNoReply text = (h : Head) (size : ℕ) → HasReply text h size → ⊥

-- more bytes can make the text begin with a whole reply
abbrev pub CanBecomeReply : List ℕ → Type 0
CanBecomeReply text = (more : List ℕ) × (h : Head) × (size : ℕ) × HasReply (text ++ more) h size

-- no more bytes make the text begin with a whole reply
abbrev pub NeverHasReply : List ℕ → Type 0
NeverHasReply text = (more : List ℕ) → HasNoReply (text ++ more)

-- the outcome of reading a text
abbrev pub IsReadAs : List ℕ → ReplyRead → Type 0
IsReadAs text (Reply view) = IsReply text view
IsReadAs text More = HasNoReply text × CanBecomeReply text
IsReadAs text Bad = NeverHasReply text
