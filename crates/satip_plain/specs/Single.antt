-- Facts that have at most one proof: that a history is legal, that two settings are equal.
use Rattle.std.specs.Prelude.{ℕ, List, [], ◌∷◌}
use Rattle.std.specs.Coded.{×_prop, Unit-prop}
use Rattle.std.proofs.Props.{props}
use mathlib.Core.Sum.{⊎_set}
use Rattle.satip_base.specs.Output.{Datagram}
use Rattle.satip_base.specs.Lists.{Each}
use Rattle.satip_query.specs.declared.queries.PidsGiven.{PidsGiven}
use Rattle.satip_query.specs.declared.queries.PidsGiven.TheVariants.{List as ThesePids}
use Rattle.satip_rtsp.specs.declared.requests.Refusal.{Refusal}
use Rattle.satip_rtsp.specs.declared.requests.Refusal.TheVariants.{Require}
use Rattle.satip_rtsp.specs.declared.requests.SessionName.{SessionName}
use Rattle.satip_rtsp.specs.declared.requests.SessionName.TheVariants.{Named}
use Rattle.satip_plain.specs.declared.answers.Answer.{Answer}
use Rattle.satip_plain.specs.declared.events.Event.{Event}
use Rattle.satip_plain.specs.declared.events.Event.TheVariants.{Request as Asked, Get as Got, Tick, Packet, Ended, Ask, Pull, Close, Stop}
use Rattle.satip_plain.specs.declared.setting.Setting.{Setting}
use Rattle.satip_plain.specs.Types.{Config, Front, Mux}
use Rattle.satip_plain.specs.State.{State}
use Rattle.satip_plain.specs.Steps.{Outcome, step}
use Rattle.satip_plain.specs.Values.{AreBytes, IsRefusal, ArePidsGiven, IsName, IsEvent, IsFrontEnd, IsMultiplex, IsServable, IsSetting}
use Rattle.satip_plain.specs.Histories.{Item, Fits, Legal, LegalFrom, opening}

Each-prop : {T : Type 0} (P : T → Type 0) → ((x : T) → IsProp (P x)) → (xs : List T) → IsProp (Each P xs)
Each-prop P prop [] = Unit-prop
Each-prop P prop (x ∷ xs) = ×_prop (prop x) (Each-prop P prop xs)

IsRefusal-prop : (refusal : Refusal) → IsProp (IsRefusal refusal)
IsRefusal-prop (Require kept) = hlevel props
IsRefusal-prop _ = Unit-prop

ArePidsGiven-prop : (pids : PidsGiven) → IsProp (ArePidsGiven pids)
ArePidsGiven-prop (ThesePids pids) = hlevel props
ArePidsGiven-prop _ = Unit-prop

IsName-prop : (name : SessionName) → IsProp (IsName name)
IsName-prop (Named id) = hlevel props
IsName-prop _ = Unit-prop

IsEvent-prop : (event : Event) → IsProp (IsEvent event)
IsEvent-prop (Asked peer draw request) = hlevel (props, IsRefusal-prop, ArePidsGiven-prop, IsName-prop)
IsEvent-prop (Got peer draw request) = hlevel (props, ArePidsGiven-prop)
IsEvent-prop (Tick now) = hlevel props
IsEvent-prop (Packet front tune packet) = hlevel props
IsEvent-prop (Ended front tune) = hlevel props
IsEvent-prop (Ask front) = hlevel props
IsEvent-prop (Pull session) = hlevel props
IsEvent-prop (Close session) = hlevel props
IsEvent-prop Stop = Unit-prop

IsFrontEnd-prop : (front : Front) → IsProp (IsFrontEnd front)
IsFrontEnd-prop front = hlevel props

IsMultiplex-prop : (mux : Mux) → IsProp (IsMultiplex mux)
IsMultiplex-prop mux = hlevel props

AreBytes-prop : (bytes : List ℕ) → IsProp (AreBytes bytes)
AreBytes-prop bytes = hlevel props

IsServable-prop : (c : Config) → IsProp (IsServable c)
IsServable-prop c = hlevel props

IsSetting-prop : (c : Setting) → IsProp (IsSetting c)
IsSetting-prop c =
    let fronts : IsProp (Each IsFrontEnd c.config.fronts) = Each-prop IsFrontEnd IsFrontEnd-prop c.config.fronts in
    let muxes : IsProp (Each IsMultiplex c.config.muxes) = Each-prop IsMultiplex IsMultiplex-prop c.config.muxes in
    let files : IsProp (Each AreBytes c.config.files) = Each-prop AreBytes AreBytes-prop c.config.files in
    hlevel (props, fronts, muxes, files)

Answer-set : IsSet Answer
Answer-set = hlevel (props, ⊎_set)

Datagram-set : IsSet Datagram
Datagram-set = hlevel props

Fits-prop : (o : Outcome) (e : Item) → IsProp (Fits o e)
Fits-prop o e = hlevel (props, Answer-set, Datagram-set)

LegalFrom-prop : (c : Config) (st : State) (h : List Item) → IsProp (LegalFrom c st h)
LegalFrom-prop c st [] = Unit-prop
LegalFrom-prop c st (e ∷ es) = ×_prop (Fits-prop (step c st e.event) e) (LegalFrom-prop c (step c st e.event).state es)

-- two proofs that a history is legal are equal
pub legal_prop : (c : Setting) (h : List Item) → IsProp (Legal c h)
legal_prop c h =
    let events : IsProp (Each (λ (e : Item). IsEvent e.event) h) = Each-prop (λ (e : Item). IsEvent e.event) (λ e. IsEvent-prop e.event) h in
    let entries : IsProp (LegalFrom c.config (opening c) h) = LegalFrom-prop c.config (opening c) h in
    hlevel (IsServable-prop, IsSetting-prop, events, entries)

pub Setting-set : IsSet Setting
Setting-set = hlevel (props, ⊎_set)
