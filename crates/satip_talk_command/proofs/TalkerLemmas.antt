-- One more request was answered by the server of a talk.
use Rattle.std.proofs.Common.{◌≡◌, ℕ, ◌+◌, ◌%◌, List, [], ◌∷◌, ◌++◌, length, length-append, sym, ◌∙◌, ap, subst, arith}
use Rattle.std.proofs.Math.Nat.{mod-add-mod}
use Rattle.satip_base.specs.Output.{Output}
use Rattle.satip_rtsp.specs.declared.requests.Request.{Request}
use Rattle.satip_plain.specs.declared.answers.Answer.{Answer}
use Rattle.satip_plain.specs.declared.events.Event.{Event}
use Rattle.satip_plain.specs.declared.events.Event.TheVariants.{Request as Asked}
use Rattle.satip_plain.specs.declared.setting.Setting.{Setting}
use Rattle.satip_plain.specs.State.{State}
use Rattle.satip_plain.specs.Steps.{step}
use Rattle.satip_core.specs.Doing.{Did}
use Rattle.satip_core.specs.Serving.{Stands, Steps}
use Rattle.satip_talk_command.specs.Talk.{localhost, talk_config, talk_setting, start, after, event_of, events_of}
use Rattle.satip_talk_command.specs.Talking.{HasAnswered}
use Rattle.satip_talk_command.specs.declared.talker.Talker.{Talker}
use Rattle.satip_talk_command.proofs.TalkLemmas.{after_push}

-- the count of one more request
pub count_next : (old : ℕ) (requests : List Request) → old ≡ length requests % 4294967296
    → (old + 1) % 4294967296 ≡ (length requests + 1) % 4294967296
count_next old requests before = ap (λ (c : ℕ). (c + 1) % 4294967296) before ∙ mod-add-mod (length requests) 4294967296 1

-- a request with the draw of this number
abbrev pub drawn : ℕ → Request → Event
drawn number request = Asked (record { ip = localhost }) (record { word = number; ssrc = number; first = 0 }) request

-- what the server did at the request
pub did_next : (old new : Talker) (requests : List Request) (request : Request) (answer : Answer) (out : Output)
    → HasAnswered old requests
    → Steps old.server (drawn ((old.count + 1) % 4294967296) request) new.server answer out
    → Did talk_config new.server.kept answer out (step talk_config (after start (events_of requests)) (event_of (length requests + 1) request))
did_next old new requests request answer out answered steps =
    let st = after start (events_of requests) in
    let N : ℕ → Type 0 = λ number. Did talk_config new.server.kept answer out (step talk_config st (drawn number request)) in
    let C : Setting → Type 0 = λ c. Did c.config new.server.kept answer out (step c.config st (drawn ((old.count + 1) % 4294967296) request)) in
    subst N (count_next old.count requests answered.count) (subst C answered.setting (steps st answered.stands))

-- the request was answered
pub answered_next : (old new : Talker) (requests : List Request) (request : Request) (answer : Answer) (out : Output)
    → HasAnswered old requests
    → new.server.setting ≡ old.server.setting
    → new.count ≡ (old.count + 1) % 4294967296
    → Steps old.server (drawn ((old.count + 1) % 4294967296) request) new.server answer out
    → HasAnswered new (requests ++ request ∷ [])
answered_next old new requests request answer out answered same count steps =
    let did = did_next old new requests request answer out answered steps in
    let setting = same ∙ answered.setting in
    let longer : length requests + 1 ≡ length (requests ++ request ∷ []) = omega (arith, length-append requests (request ∷ [])) in
    let S : State → Type 0 = λ st. Stands (record { setting = talk_setting; kept = new.server.kept }) st in
    let C : Setting → Type 0 = λ c. Stands (record { setting = c; kept = new.server.kept }) (after start (events_of (requests ++ request ∷ []))) in
    record {
      setting = setting;
      stands = subst C (sym setting) (subst S (sym (after_push requests request)) did.stands);
      count = count ∙ count_next old.count requests answered.count ∙ ap (λ (n : ℕ). n % 4294967296) longer;
    }
