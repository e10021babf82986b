-- The state of a talk's server in the middle of the talk.
use Rattle.std.specs.Prelude.{◌≡◌, ℕ, ◌+◌, ◌%◌, List, length}
use Rattle.satip_rtsp.specs.declared.requests.Request.{Request}
use Rattle.satip_plain.specs.Steps.{step}
use Rattle.satip_core.specs.Serving.{Stands}
use Rattle.satip_talk_command.specs.Talk.{talk_config, talk_setting, start, after, event_of, events_of}
use Rattle.satip_talk_command.specs.declared.talker.Talker.{Talker}

-- these requests were answered, one after another, and no others
pub record HasAnswered (talker : Talker) (requests : List Request) : Type 0 where
  pub setting : talker.server.setting ≡ talk_setting
  pub stands : Stands talker.server (after start (events_of requests))
  pub count : talker.count ≡ length requests % 4294967296

-- the reply to one more request
abbrev pub next_reply : List Request → Request → List ℕ
next_reply requests request = (step talk_config (after start (events_of requests)) (event_of (length requests + 1) request)).reply
