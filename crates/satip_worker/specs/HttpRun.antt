-- The run of an HTTP connection.
use Rattle.std.specs.Prelude.{◌≡◌, ℕ, ◌+◌, ◌⊎◌, true, List, [], ◌∷◌, ◌++◌, Option, Some, None}
use Rattle.satip_base.specs.declared.network.Peer.{Peer}
use Rattle.satip_base.specs.declared.identity.Draw.{Draw}
use Rattle.satip_base.specs.declared.identity.SessionId.{SessionId}
use Rattle.satip_frame.specs.Said.{Said}
use Rattle.satip_frame.specs.Stream.{Tail, Unfinished, Broken, Messages}
use Rattle.satip_http.specs.declared.requests.HttpRequest.{HttpRequest}
use Rattle.satip_http.specs.Gets.{asked_get, broken_get}
use Rattle.satip_plain.specs.declared.answers.Answer.{Answer}
use Rattle.satip_plain.specs.declared.answers.Answer.TheVariants.{Get as Got, Pulled}
use Rattle.satip_plain.specs.declared.answers.GetAnswer.TheVariants.{Started, Refused}
use Rattle.satip_plain.specs.declared.answers.Pulled.TheVariants.{Bytes, Empty, Gone}
use Rattle.satip_plain.specs.declared.events.Event.TheVariants.{Get, Pull, Close}
use Rattle.satip_plain.specs.Histories.{Item}
use Rattle.satip_world.specs.declared.doors.ConnEnd.{ConnEnd}
use Rattle.satip_world.specs.declared.doors.ConnEnd.TheVariants.{Done, ReadFault, WriteFault}
use Rattle.satip_worker.specs.Ends.{is_unmade}

-- the first request: that of the first message, or of the bytes that are no message
abbrev pub asked_first : List Said → Tail → Option HttpRequest
asked_first [] Unfinished = None
asked_first [] (Broken cause) = Some (broken_get cause)
asked_first (message ∷ messages) tail = Some (asked_get message)

-- a session was closed for this cause: by one last entry, or by none if the service made none
abbrev pub Closes : SessionId → (cause end : ConnEnd) → List Item → Type 0
Closes id cause end [] = is_unmade end ≡ true
Closes id cause end (entry ∷ []) = (entry.event ≡ Close id) × (end ≡ cause)
Closes id cause end (entry ∷ next ∷ entries) = ⊥

-- a reply was sent whole, and the session goes on with the rest of the bytes sent
pub record SentWhole (reply sent : List ℕ) (GoesOn : List ℕ → Type 0) : Type 0 where
  pub rest : List ℕ
  pub whole : sent ≡ reply ++ rest
  pub goes_on : GoesOn rest

-- a prefix of a reply was sent, and the session was closed
pub record SentCut (id : SessionId) (end : ConnEnd) (reply sent : List ℕ) (entries : List Item) : Type 0 where
  pub rest : List ℕ
  pub part : reply ≡ sent ++ rest
  pub closes : Closes id WriteFault end entries

-- the bytes and entries from a reply on
abbrev pub Follows : SessionId → ConnEnd → (reply sent : List ℕ) → List Item → (List ℕ → Type 0) → Type 0
Follows id end reply sent entries GoesOn = SentWhole reply sent GoesOn ⊎ SentCut id end reply sent entries

-- the bytes and entries after a pull that found nothing: the session goes on; or it was closed, since a receive failed or the input ended
abbrev pub FollowsEmpty : SessionId → ConnEnd → (sent : List ℕ) → List Item → (List ℕ → Type 0) → Type 0
FollowsEmpty id end sent entries GoesOn =
    GoesOn sent ⊎ ((sent ≡ []) × (Closes id Done end entries ⊎ Closes id ReadFault end entries))

-- the bytes and entries after the answer of a pull
abbrev pub FollowsPull : SessionId → ConnEnd → Answer → (reply sent : List ℕ) → List Item → (List ℕ → Type 0) → Type 0
FollowsPull id end (Pulled (Bytes count)) reply sent entries GoesOn = Follows id end reply sent entries GoesOn
FollowsPull id end (Pulled Empty) reply sent entries GoesOn = FollowsEmpty id end sent entries GoesOn
FollowsPull id end (Pulled Gone) reply sent entries GoesOn = (entries ≡ []) × (sent ≡ []) × (end ≡ Done)
FollowsPull id end _ reply sent entries GoesOn = ⊥

-- the entries of a session from a pull on, and the bytes sent from there on
abbrev pub Pulls : SessionId → ConnEnd → List Item → List ℕ → Type 0
Pulls id end [] sent = (is_unmade end ≡ true) × (sent ≡ [])
Pulls id end (entry ∷ entries) sent =
    (entry.event ≡ Pull id) × FollowsPull id end entry.answer entry.out.reply sent entries (Pulls id end entries)

-- a refusal was sent, whole or in part
abbrev pub RefusalSent : ConnEnd → (reply sent : List ℕ) → Type 0
RefusalSent end reply sent = ((sent ≡ reply) × (end ≡ Done)) ⊎ ((rest : List ℕ) × (reply ≡ sent ++ rest) × (end ≡ WriteFault))

-- the bytes and entries after the answer of a GET
abbrev pub FollowsGet : ConnEnd → Answer → (reply sent : List ℕ) → List Item → Type 0
FollowsGet end (Got (Refused status)) reply sent entries = (entries ≡ []) × RefusalSent end reply sent
FollowsGet end (Got (Started id)) reply sent entries = Follows id end reply sent entries (Pulls id end entries)
FollowsGet end _ reply sent entries = ⊥

-- the entries of a connection with this first request and this draw
abbrev pub Gets : Peer → Draw → HttpRequest → ConnEnd → List Item → List ℕ → Type 0
Gets peer draw request end [] sent = (is_unmade end ≡ true) × (sent ≡ [])
Gets peer draw request end (entry ∷ entries) sent =
    (entry.event ≡ Get peer draw request) × FollowsGet end entry.answer entry.out.reply sent entries

-- the entries by the first request, for which one draw is taken
abbrev pub HttpEntries : Peer → (ℕ → Draw) → (from to : ℕ) → ConnEnd → List Item → List ℕ → Option HttpRequest → Type 0
HttpEntries peer drawn from to end entries sent None = (entries ≡ []) × (sent ≡ []) × (to ≡ from)
HttpEntries peer drawn from to end entries sent (Some request) =
    Gets peer (drawn from) request end entries sent × (to ≡ from + 1)

-- the run of an HTTP connection that received and sent these bytes, and took the draws from number `from` up to `to`
pub record HttpRun (peer : Peer) (drawn : ℕ → Draw) (from to : ℕ) (received sent : List ℕ) (end : ConnEnd) (entries : List Item) : Type 0 where
  pub messages : List Said
  pub tail : Tail
  pub read : Messages received messages tail
  pub entries_are : HttpEntries peer drawn from to end entries sent (asked_first messages tail)
