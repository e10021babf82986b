-- The run of an RTSP connection.
use Rattle.std.specs.Prelude.{◌≡◌, ◌≢◌, ℕ, ◌+◌, List, [], ◌∷◌, ◌++◌, length}
use Rattle.std.specs.List.{flat_map}
use Rattle.satip_base.specs.declared.network.Peer.{Peer}
use Rattle.satip_base.specs.declared.identity.Draw.{Draw}
use Rattle.satip_plain.specs.declared.events.Event.{Event}
use Rattle.satip_plain.specs.Histories.{Item}
use Rattle.satip_rtsp.specs.declared.requests.Request.{Request}
use Rattle.satip_world.specs.declared.doors.ConnEnd.{ConnEnd}
use Rattle.satip_world.specs.declared.doors.ConnEnd.TheVariants.{Done, ReadFault, WriteFault, Spent, Want}
use Rattle.satip_worker.specs.Answers.{events_of}
use Rattle.satip_worker.specs.Requests.{AsksAll, request_events}

-- the replies of entries, in order
abbrev pub replies : List Item → List ℕ
replies entries = flat_map (λ entry. entry.out.reply) entries

-- the replies of all entries but the last were sent, and a prefix of the last one's
pub record SentInPart (entries : List Item) (sent : List ℕ) : Type 0 where
  pub before : List Item
  pub last : Item
  pub entries_are : entries ≡ before ++ last ∷ []
  pub part : List ℕ
  pub rest : List ℕ
  pub reply : last.out.reply ≡ part ++ rest
  pub sent_is : sent ≡ replies before ++ part

-- the bytes that were sent, by each end
abbrev pub RepliesSent : ConnEnd → List Item → List ℕ → Type 0
RepliesSent Done entries sent = sent ≡ replies entries
RepliesSent ReadFault entries sent = sent ≡ replies entries
RepliesSent WriteFault entries sent = SentInPart entries sent
RepliesSent Spent entries sent = sent ≡ replies entries
RepliesSent Want entries sent = sent ≡ replies entries

-- the events that were asked for and have no entry: none after `Done` or a failed receive, and at least one if the service made no entry
abbrev pub LeftOver : ConnEnd → List Event → Type 0
LeftOver Done rest = rest ≡ []
LeftOver ReadFault rest = rest ≡ []
LeftOver WriteFault rest = Unit {0}
LeftOver Spent rest = rest ≢ []
LeftOver Want rest = rest ≢ []

-- the number of draws taken: one for each entry, and one for an event that the service made no entry of
abbrev pub draws_taken : ConnEnd → List Item → ℕ
draws_taken Done entries = length entries
draws_taken ReadFault entries = length entries
draws_taken WriteFault entries = length entries
draws_taken Spent entries = length entries + 1
draws_taken Want entries = length entries + 1

-- the run of an RTSP connection that received and sent these bytes, and took the draws from number `from` up to `to`
pub record RtspRun (peer : Peer) (drawn : ℕ → Draw) (from to : ℕ) (received sent : List ℕ) (end : ConnEnd) (entries : List Item) : Type 0 where
  pub requests : List Request
  pub asks : AsksAll received requests
  pub rest : List Event
  pub events : request_events peer drawn from requests ≡ events_of entries ++ rest
  pub left_over : LeftOver end rest
  pub replies_sent : RepliesSent end entries sent
  pub draws : to ≡ from + draws_taken end entries
