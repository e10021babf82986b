-- The requests whose replies have the form of replies, in every legal history.
use Rattle.std.specs.Prelude.{◌≡◌, ℕ, true, List, Option, Some}
use Rattle.std.specs.List.{list_all}
use Rattle.satip_base.specs.Lists.{Each}
use Rattle.satip_plain.specs.declared.events.Event.{Event}
use Rattle.satip_plain.specs.declared.events.Event.TheVariants.{Request as Asks}
use Rattle.satip_plain.specs.declared.setting.Setting.{Setting}
use Rattle.satip_plain.specs.Histories.{Item, Legal}
use Rattle.satip_rtsp.specs.declared.requests.Refusal.{Refusal}
use Rattle.satip_rtsp.specs.declared.requests.Refusal.TheVariants.{Require}
use Rattle.satip_tunnel_laws.specs.Pieces.{IsReply, is_plain}

-- a `Require` text that is kept of a request has no CR and no LF
abbrev pub KeepsPlain : Option Refusal → Type 0
KeepsPlain (Some (Require kept)) = list_all is_plain kept ≡ true
KeepsPlain _ = Unit {0}

-- the reply to a request has the form of a reply, if the request keeps no CR and no LF. Nothing is said of other events
abbrev pub HasReply : Event → List ℕ → Type 0
HasReply (Asks peer draw request) reply = KeepsPlain request.refusal → IsReply reply
HasReply _ reply = Unit {0}

-- the same for each entry of a legal history
abbrev pub HistoriesReply : Type 0
HistoriesReply = (c : Setting) (h : List Item) → Legal c h → Each (λ e. HasReply e.event e.out.reply) h
