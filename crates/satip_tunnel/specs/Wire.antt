-- The bytes that a connection is sent: rewritten replies and interleaved frames (RFC 2326, section 10.12).
use Rattle.std.specs.Prelude.{◌≡◌, ℕ, List, [], ◌∷◌, ◌++◌}
use Rattle.std.specs.List.{flat_map}
use Rattle.satip_base.specs.Output.{Output}
use Rattle.satip_rtsp_interleaved.specs.Turned.{turned}
use Rattle.satip_interleave.specs.declared.events.TunnelEvent.{TunnelEvent}
use Rattle.satip_interleave.specs.declared.events.TunnelEvent.TheVariants.{Inner, Drain}
use Rattle.satip_interleave.specs.declared.events.TunnelAnswer.{TunnelAnswer}
use Rattle.satip_interleave.specs.declared.events.TunnelAnswer.TheVariants.{Frames}
use Rattle.satip_interleave.specs.Histories.{TunnelItem}

-- the bytes sent for an entry: the rewritten reply of a request, or frames
abbrev pub sent_by : TunnelEvent → TunnelAnswer → Output → List ℕ
sent_by (Inner event) answer out = turned out.reply
sent_by (Drain lane) (Frames count) out = out.reply
sent_by event answer out = []

-- the bytes sent for entries, in order
abbrev pub wire : List TunnelItem → List ℕ
wire entries = flat_map (λ t. sent_by t.event t.answer t.out) entries

-- the bytes of all entries but the last were sent, and a prefix of the last one's
pub record SentInPart (entries : List TunnelItem) (sent : List ℕ) : Type 0 where
  pub before : List TunnelItem
  pub last : TunnelItem
  pub entries_are : entries ≡ before ++ last ∷ []
  pub part : List ℕ
  pub rest : List ℕ
  pub bytes : sent_by last.event last.answer last.out ≡ part ++ rest
  pub sent_is : sent ≡ wire before ++ part
