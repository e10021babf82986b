-- A session whose accepted SETUPs are from one lane has its channels there.
use Rattle.std.proofs.Common.{◌≡◌, ◌∙◌, ℕ, ◌&&◌, Bool, true, false, List, [], ◌∷◌, ◌++◌, if◌then◌else◌, append_assoc, append-nil, Option, Some, None, is_none, unwrap_or, refl, sym, ap, subst, inl, inr, ⊎_elim}
use Rattle.std.specs.Prelude.{◌⊎◌}
use Rattle.std.specs.Option.{option_map_or}
use Rattle.std.proofs.lemmas.Bool.{true≢false}
use Rattle.satip_base.specs.declared.network.Peer.{Peer}
use Rattle.satip_base.specs.declared.network.Ports.{Ports}
use Rattle.satip_base.specs.History.{entry}
use Rattle.satip_base.specs.Lists.{Has}
use Rattle.satip_base.proofs.Elements.{Has-append_left, Has-append_right, each_at, each_has}
use Rattle.satip_interleave.proofs.Entries.{inners-append}
use Rattle.satip_interleave.specs.Calls.{IsRising}
use Rattle.satip_interleave.specs.declared.events.TunnelEvent.{TunnelEvent}
use Rattle.satip_interleave.specs.declared.events.TunnelEvent.TheVariants.{Inner, Enter, Drain, Leave}
use Rattle.satip_interleave.specs.declared.events.TunnelAnswer.{TunnelAnswer}
use Rattle.satip_interleave.specs.declared.events.TunnelAnswer.TheVariants.{Inner as InnerAnswer, Lane, Full, Frames, Empty, Broken, Gone, Left}
use Rattle.satip_interleave.specs.Histories.{TunnelItem, TunnelLegal, inner_by, inners}
use Rattle.satip_interleave.specs.Laws.{numbers_in}
use Rattle.satip_laws.specs.Targets.Targets.{SetUp, session_of, set_up_by, set_up_in, set_ups, set_ups_from}
use Rattle.satip_laws.proofs.Deciding.{all_none, causes, decided_refuses, where_none}
use Rattle.satip_plain.specs.declared.answers.Answer.{Answer}
use Rattle.satip_plain.specs.declared.events.Event.{Event}
use Rattle.satip_plain.specs.declared.events.Event.TheVariants.{Request as Asks, Get, Tick, Packet, Ended, Ask, Pull, Close, Stop}
use Rattle.satip_plain.specs.declared.setting.Setting.{Setting}
use Rattle.satip_plain.specs.Histories.{Item, LegalFrom, opening}
use Rattle.satip_plain.specs.Readings.{Readings, is_accepted, nothing_read, read_one}
use Rattle.satip_plain.specs.Refusals.{Refused, decide, plainly}
use Rattle.satip_plain.specs.State.{State, same_id}
use Rattle.satip_plain.specs.Steps.{done_by, heard_by, no_ports, refuse, step}
use Rattle.satip_plain.specs.Types.{Config, Draw, Request, SessionId}
use Rattle.satip_rtsp.specs.Methods.{is_setup}
use Rattle.satip_tunnel_laws.specs.Channels.{CarriesOnChannels, HasChannels, OwnsChannels}
use Rattle.satip_tunnel_laws.specs.LaneFrames.{enters}
use Rattle.satip_tunnel_serve.specs.Sent.{SendsPayloads}
use Rattle.satip_tunnel_serve.proofs.AskedOn.{AskedWithin, IsAsk}
use Rattle.satip_tunnel_laws.proofs.Connecting.{given_apart}
use Rattle.satip_tunnel_serve.proofs.Parsing.{AreChannels}

-- an accepted SETUP has ports

some_ports : (ports : Option Ports) → is_none ports ≡ false → ports ≡ Some (unwrap_or ports no_ports)
some_ports None is = absurd (true≢false is)
some_ports (Some p) is = refl

accepted_ports : (c : Config) (st : State) (peer : Peer) (draw : Draw) (r : Request) → is_accepted (step c st (Asks peer draw r)).answer ≡ true
    → is_setup r.method ≡ true → r.ports ≡ Some (unwrap_or r.ports no_ports)
accepted_ports c st peer draw r accepted setup = by (decide c st r) refl accepted
  where
    heard : State
    heard = heard_by r st

    by : (o : Option Refused) → decide c st r ≡ o
        → is_accepted (option_map_or (refuse r (heard_by r st)) o (done_by r.method c peer draw r (heard_by r st))).answer ≡ true
        → r.ports ≡ Some (unwrap_or r.ports no_ports)
    by (Some x) is f = absurd (true≢false (sym f ∙ decided_refuses c st r x is))
    by None is f =
        let all = all_none (causes c st r) is in
        let none : (is_setup r.method && is_none r.ports) ≡ false =
        where_none (is_setup r.method && is_none r.ports) (plainly 461) all.1.1.1.1.1.1.0 in
        some_ports r.ports (sym (ap (λ (b : Bool). b && is_none r.ports) setup) ∙ none)

-- where an accepted SETUP is in a history

record IsSetUpAt (h : List TunnelItem) (u : SetUp) : Type 0 where
  before : List TunnelItem
  t : TunnelItem
  later : List TunnelItem
  whole : h ≡ before ++ t ∷ later
  peer : Peer
  draw : Draw
  request : Request
  answer : Answer
  asks : IsAsk t peer draw request answer
  peer_is : u.peer ≡ peer
  ports_are : request.ports ≡ Some u.ports

behind_one : (t : TunnelItem) (ts : List TunnelItem) (u : SetUp) → IsSetUpAt ts u → IsSetUpAt (t ∷ ts) u
behind_one t ts u at = record {
  before = t ∷ at.before;
  t = at.t;
  later = at.later;
  whole = ap (λ (us : List TunnelItem). t ∷ us) at.whole;
  peer = at.peer;
  draw = at.draw;
  request = at.request;
  answer = at.answer;
  asks = at.asks;
  peer_is = at.peer_is;
  ports_are = at.ports_are;
}

has_split : {T : Type 0} (x : T) (xs ys : List T) → Has x (xs ++ ys) → Has x xs ⊎ Has x ys
has_split x [] ys has = inr has
has_split x (y ∷ xs) ys (inl here) = inl (inl here)
has_split x (y ∷ xs) ys (inr later) = ⊎_elim (λ (h : Has x xs). inl (inr h)) (λ (h : Has x ys). inr h) (has_split x xs ys later)

module _ (c : Config) (g : Readings) (st : State) (t : TunnelItem) (ts : List TunnelItem) (u : SetUp) where
  -- in the entry of a request
  request_here : (peer : Peer) (draw : Draw) (r : Request) (answer : Answer) → IsAsk t peer draw r answer
      → answer ≡ (step c st (Asks peer draw r)).answer → is_accepted answer ≡ true → Has u (set_up_by g (Asks peer draw r)) → IsSetUpAt (t ∷ ts) u
  request_here peer draw r answer asks is accepted has = by (is_setup r.method) refl has
    where
      by : (b : Bool) → is_setup r.method ≡ b → Has u (if b then record { session = session_of g draw r.session; peer = peer; ports = unwrap_or r.ports no_ports } ∷ [] else [])
          → IsSetUpAt (t ∷ ts) u
      by false setup found = absurd found
      by true setup found =
          ⊎_elim (λ (same : u ≡ record { session = session_of g draw r.session; peer = peer; ports = unwrap_or r.ports no_ports }). record {
            before = [];
            t = t;
            later = ts;
            whole = refl;
            peer = peer;
            draw = draw;
            request = r;
            answer = answer;
            asks = asks;
            peer_is = ap (λ (v : SetUp). v.peer) same;
            ports_are = accepted_ports c st peer draw r (subst (λ (x : Answer). is_accepted x ≡ true) is accepted) setup
                ∙ ap (λ (v : SetUp). Some v.ports) (sym same);
          }) (λ (none : ⊥). absurd none) found

  here : (event : Event) (answer : Answer) → t.event ≡ Inner event → t.answer ≡ InnerAnswer answer → answer ≡ (step c st event).answer
      → (b : Bool) → is_accepted answer ≡ b → Has u (if b then set_up_by g event else []) → IsSetUpAt (t ∷ ts) u
  here event answer event_is answer_is is false accepted has = absurd has
  here (Asks peer draw r) answer event_is answer_is is true accepted has =
      request_here peer draw r answer (record { event = event_is; answer_is = answer_is }) is accepted has
  here (Get peer draw r) answer event_is answer_is is true accepted has = absurd has
  here (Tick now) answer event_is answer_is is true accepted has = absurd has
  here (Packet front tune packet) answer event_is answer_is is true accepted has = absurd has
  here (Ended front tune) answer event_is answer_is is true accepted has = absurd has
  here (Ask front) answer event_is answer_is is true accepted has = absurd has
  here (Pull session) answer event_is answer_is is true accepted has = absurd has
  here (Close session) answer event_is answer_is is true accepted has = absurd has
  here Stop answer event_is answer_is is true accepted has = absurd has

module _ (c : Config) (g : Readings) (st : State) (t : TunnelItem) (ts : List TunnelItem) (u : SetUp)
    (rest : (g2 : Readings) (st2 : State) → LegalFrom c st2 (inners ts) → Has u (set_ups_from c g2 (inners ts)) → IsSetUpAt ts u) where
  one_entry : (event : TunnelEvent) (answer : TunnelAnswer) → t.event ≡ event → t.answer ≡ answer
      → LegalFrom c st (inner_by t.caller event answer t.out ++ inners ts)
      → Has u (set_ups_from c g (inner_by t.caller event answer t.out ++ inners ts)) → IsSetUpAt (t ∷ ts) u
  one_entry (Inner event) (InnerAnswer answer) event_is answer_is legal has =
      let e : Item = entry t.caller event answer t.out in
      ⊎_elim (λ (found : Has u (set_up_in g e)).
      here c g st t ts u event answer event_is answer_is legal.0.answer (is_accepted answer) refl found)
      (λ (later : Has u (set_ups_from c (read_one c g e) (inners ts))).
      behind_one t ts u (rest (read_one c g e) (step c st event).state legal.1 later))
      (has_split u (set_up_in g e) (set_ups_from c (read_one c g e) (inners ts)) has)
  one_entry (Inner event) (Lane lane) event_is answer_is legal has = behind_one t ts u (rest g st legal has)
  one_entry (Inner event) Full event_is answer_is legal has = behind_one t ts u (rest g st legal has)
  one_entry (Inner event) (Frames count) event_is answer_is legal has = behind_one t ts u (rest g st legal has)
  one_entry (Inner event) Empty event_is answer_is legal has = behind_one t ts u (rest g st legal has)
  one_entry (Inner event) Broken event_is answer_is legal has = behind_one t ts u (rest g st legal has)
  one_entry (Inner event) Gone event_is answer_is legal has = behind_one t ts u (rest g st legal has)
  one_entry (Inner event) Left event_is answer_is legal has = behind_one t ts u (rest g st legal has)
  one_entry Enter answer event_is answer_is legal has = behind_one t ts u (rest g st legal has)
  one_entry (Drain lane) answer event_is answer_is legal has = behind_one t ts u (rest g st legal has)
  one_entry (Leave lane) answer event_is answer_is legal has = behind_one t ts u (rest g st legal has)

set_up_at : (c : Config) (g : Readings) (st : State) (h : List TunnelItem) (u : SetUp) → LegalFrom c st (inners h) → Has u (set_ups_from c g (inners h))
    → IsSetUpAt h u
set_up_at c g st [] u legal has = absurd has
set_up_at c g st (t ∷ ts) u legal has =
    one_entry c g st t ts u (λ g2 st2 lawful later. set_up_at c g2 st2 ts u lawful later) t.event t.answer refl refl legal has

-- the first entries of a history

legal_first : (c : Config) (st : State) (xs ys : List Item) → LegalFrom c st (xs ++ ys) → LegalFrom c st xs
legal_first c st [] ys legal = tt
legal_first c st (e ∷ es) ys legal = (legal.0, legal_first c (step c st e.event).state es ys legal.1)

has_first : (c : Config) (g : Readings) (xs ys : List Item) (u : SetUp) → Has u (set_ups_from c g xs) → Has u (set_ups_from c g (xs ++ ys))
has_first c g [] ys u has = absurd has
has_first c g (e ∷ es) ys u has =
    ⊎_elim (λ (here : Has u (set_up_in g e)). Has-append_left u (set_up_in g e) (set_ups_from c (read_one c g e) (es ++ ys)) here)
    (λ (later : Has u (set_ups_from c (read_one c g e) es)).
    Has-append_right u (set_up_in g e) (set_ups_from c (read_one c g e) (es ++ ys)) (has_first c (read_one c g e) es ys u later))
    (has_split u (set_up_in g e) (set_ups_from c (read_one c g e) es) has)

record IsPlaced (h : List TunnelItem) (t : TunnelItem) : Type 0 where
  before : List TunnelItem
  later : List TunnelItem
  whole : h ≡ before ++ t ∷ later

place_of : (h : List TunnelItem) (t : TunnelItem) → Has t h → IsPlaced h t
place_of [] t has = absurd has
place_of (u ∷ us) t has =
    ⊎_elim (λ (same : t ≡ u). record { before = []; later = us; whole = ap (λ (v : TunnelItem). v ∷ us) (sym same) })
    (λ (in_rest : Has t us).
    let place = place_of us t in_rest in
    record { before = u ∷ place.before; later = place.later; whole = ap (λ (vs : List TunnelItem). u ∷ vs) place.whole }) has

-- what follows of the run

module _ (c : Setting) (h : List TunnelItem) (asked : AskedWithin h) (legal : TunnelLegal c h) (rises : IsRising 0 (numbers_in h)) (s : SessionId) (x : ℕ)
    (ports : Ports) (own : OwnsChannels c h s x ports) where
  -- an accepted SETUP of the session in the first part of the history
  record IsOnLane (before : List TunnelItem) : Type 0 where
    entered : TunnelItem
    has : Has entered before
    gives : enters x entered.event entered.answer ≡ true
    channels : AreChannels ports

  on_lane : (before rest : List TunnelItem) → h ≡ before ++ rest → (u : SetUp) → Has u (set_ups c (inners before)) → same_id u.session s ≡ true
      → IsOnLane before
  on_lane before rest whole u has is =
      let split : inners h ≡ inners before ++ inners rest = ap (λ (es : List TunnelItem). inners es) whole ∙ inners-append before rest in
      let lawful : LegalFrom c.config (opening c) (inners before) =
      legal_first c.config (opening c) (inners before) (inners rest)
      (subst (λ (es : List Item). LegalFrom c.config (opening c) es) split legal.inner.entries) in
      let in_all : Has u (set_ups c (inners h)) =
      subst (λ (es : List Item). Has u (set_ups c es)) (sym split) (has_first c.config (nothing_read c) (inners before) (inners rest) u has) in
      let mine = each_at (λ (v : SetUp). same_id v.session s ≡ true → (v.peer.ip ≡ x) × (v.ports ≡ ports)) (set_ups c (inners h)) u own.its_own in_all is in
      let at = set_up_at c.config (nothing_read c) (opening c) before u lawful has in
      let there : h ≡ at.before ++ at.t ∷ (at.later ++ rest) =
      whole ∙ ap (λ (es : List TunnelItem). es ++ rest) at.whole ∙ append_assoc at.before (at.t ∷ at.later) rest in
      let on = asked at.before (at.later ++ rest) at.t at.peer at.draw at.request at.answer there at.asks in
      let of_lane : at.peer.ip ≡ x = sym (ap (λ (p : Peer). p.ip) at.peer_is) ∙ mine.0 in
      record {
        entered = on.entered;
        has = subst (λ (es : List TunnelItem). Has on.entered es) (sym at.whole) (Has-append_left on.entered at.before (at.t ∷ at.later) on.has);
        gives = subst (λ (n : ℕ). enters n on.entered.event on.entered.answer ≡ true) of_lane on.gives;
        channels = on.parsed.channels ports (at.ports_are ∙ ap (λ (p : Ports). Some p) mine.1);
      }

  -- none before the lane was given
  none_before : (before later : List TunnelItem) (e : TunnelItem) → h ≡ before ++ e ∷ later → enters x e.event e.answer ≡ true
      → (u : SetUp) → Has u (set_ups c (inners before)) → (b : Bool) → same_id u.session s ≡ b → b ≡ false
  none_before before later e whole gives u has false is = refl
  none_before before later e whole gives u has true is =
      let earlier = on_lane before (e ∷ later) whole u has is in
      absurd (given_apart x before (e ∷ later) 0 earlier.entered e (subst (λ (es : List TunnelItem). IsRising 0 (numbers_in es)) whole rises) earlier.has
      earlier.gives (inl refl) gives)

  pub has_channels : HasChannels c h s x ports
  has_channels =
      let here = on_lane h [] (sym (append-nil h)) own.setup own.has own.of in
      let place = place_of h here.entered here.has in
      record {
        before = place.before;
        entered = here.entered;
        later = place.later;
        whole = place.whole;
        gives = here.gives;
        none_before = each_has (λ (u : SetUp). same_id u.session s ≡ false) (set_ups c (inners place.before)) (λ u has.
            none_before place.before place.later here.entered place.whole here.gives u has (same_id u.session s) refl);
        its_own = own.its_own;
        others = own.others;
        channel = here.channels.channel;
        two = here.channels.two;
      }

pub payloads_sent : (c : Setting) (h : List TunnelItem) → AskedWithin h → TunnelLegal c h → IsRising 0 (numbers_in h) → CarriesOnChannels c h
    → SendsPayloads c h
payloads_sent c h asked legal rises carries m x ports frames has rtsp own first =
    carries m x ports frames has rtsp (has_channels c h asked legal rises m.id x ports own) first
