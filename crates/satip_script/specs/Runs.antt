-- The run of a script: the history in which caller 0 submits its events.
use Rattle.std.specs.Prelude.{◌≡◌, ℕ, ◌-◌, List, [], ◌∷◌, length, map}
use Rattle.satip_base.specs.declared.limits.TheConstants.{REPLY_BYTES, EVENT_BYTES}
use Rattle.satip_base.specs.History.{entry}
use Rattle.satip_base.specs.Lists.{Each}
use Rattle.satip_base.specs.Output.{Output, Datagram, datagram_bytes}
use Rattle.satip_plain.specs.declared.events.Event.{Event}
use Rattle.satip_plain.specs.declared.setting.Setting.{Setting}
use Rattle.satip_plain.specs.Types.{Config}
use Rattle.satip_plain.specs.State.{State}
use Rattle.satip_plain.specs.Steps.{Outcome, step}
use Rattle.satip_plain.specs.Histories.{Item, datagram, opening, Legal}

-- the output of an `Out` that was empty before: this reply, these datagrams, and the room that is left
abbrev pub output_with : List ℕ → List Datagram → Output
output_with reply datagrams = record {
  reply = reply;
  datagrams = datagrams;
  reply_spare = REPLY_BYTES - length reply;
  datagram_spare = EVENT_BYTES - datagram_bytes datagrams;
  count_spare = 256 - length datagrams;
}

-- the entry of an event that caller 0 submits
abbrev pub item_of : Event → Outcome → Item
item_of e o = entry 0 e o.answer (output_with o.reply (map datagram o.sent))

-- the entries of events from a state on
abbrev pub run_from : Config → State → List Event → List Item
run_from c st [] = []
run_from c st (e ∷ events) = item_of e (step c st e) ∷ run_from c (step c st e).state events

-- the one legal history in which caller 0 submits these events
abbrev pub run : Setting → List Event → List Item
run c events = run_from c.config (opening c) events

-- a legal history in which caller 0 submits these events, each with an `Out` that was empty before
pub record IsRun (c : Setting) (events : List Event) (h : List Item) : Type 0 where
  pub legal : Legal c h
  pub made : map (λ (e : Item). e.event) h ≡ events
  pub callers : Each (λ (e : Item). e.caller ≡ 0) h
  pub outs : Each (λ (e : Item). e.out ≡ output_with e.out.reply e.out.datagrams) h
