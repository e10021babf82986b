-- The sessions that are read to be made are those that the server makes.
use Rattle.std.proofs.Common.{arith, ◌≡◌, inl, inr, ℕ, ◌+◌, ◌≤◌, ◌&&◌, Bool, true, false, List, [], ◌∷◌, ◌++◌, length, Option, Some, None, is_none, option_to_list, refl, ap, sym, subst, ◌∙◌, if◌then◌else◌, unwrap_or, option_and_then, append-nil, append_assoc}
use Rattle.std.specs.Option.{option_map_or}
use Rattle.std.proofs.lemmas.Bool.{and_parts}
use Rattle.satip_plain.proofs.SameIds.{same_id_is}
use Rattle.satip_base.specs.Lists.{Each, Has}
use Rattle.satip_http.specs.Heads.{http_refusal}
use Rattle.satip_rtsp.specs.declared.requests.Method.{Method}
use Rattle.satip_rtsp.specs.declared.requests.Method.TheVariants.{Options, Describe, Setup, Play, Teardown}
use Rattle.satip_plain.specs.declared.answers.Answer.{Answer}
use Rattle.satip_plain.specs.declared.answers.Answer.TheVariants.{Get}
use Rattle.satip_plain.specs.declared.answers.GetAnswer.TheVariants.{Refused as GetRefused}
use Rattle.satip_plain.specs.declared.events.Event.{Event}
use Rattle.satip_plain.specs.declared.events.Event.TheVariants.{Request as Asked, Get as Got, Tick, Packet, Ended, Ask, Pull, Close, Stop}
use Rattle.satip_plain.specs.declared.setting.Setting.{Setting}
use Rattle.satip_plain.specs.Types.{SessionId, Config, Peer, Draw, Request, HttpRequest}
use Rattle.satip_plain.specs.State.{Session, State, same_id}
use Rattle.satip_plain.specs.Sending.{settle}
use Rattle.satip_plain.specs.Refusals.{Refused, decide, decide_get, makes_session}
use Rattle.satip_rtsp.specs.Methods.{is_setup, names_none}
use Rattle.satip_plain.specs.Steps
use Rattle.satip_plain.specs.Steps.{step, new_session, no_ports, setup_number, least_free, done_by, heard_by}
use Rattle.satip_plain.specs.Values.{IsEvent}
use Rattle.satip_plain.specs.Histories.{Item, Legal, LegalFrom, opening}
use Rattle.satip_plain.specs.Readings.{Made, Readings, is_accepted, makes, next_made, home_of_number, nothing_read, read_one, read_from, readings}
use Rattle.satip_plain.specs.Readings
use Rattle.satip_laws.proofs.Agree.{Agrees}
use Rattle.satip_laws.proofs.Deciding.{decided_refuses}
use Rattle.satip_laws.proofs.Law.{agrees_opening}
use Rattle.satip_laws.proofs.Steps.{agrees_step}
use Rattle.satip_laws.specs.Makings.{made_by, made_from, made, made_as}
use Rattle.satip_laws.proofs.Ids.{look, id_same, Apart, above_absent}
use Rattle.satip_laws.proofs.Moves.{IsSound}
use Rattle.satip_laws.proofs.Events.{a_step}
use Rattle.satip_laws.proofs.Over.{made_above, new_one, opening_sound}

-- a session as it is made, and as it is read to be made
pub record IsMaking (x : Session) (m : Made) : Type 0 where
  pub id : x.id ≡ m.id
  pub http : x.http ≡ m.http
  pub ssrc : x.ssrc ≡ m.draw.ssrc
  pub first : x.first ≡ m.draw.first

abbrev pub Makings : List Session → List Made → Type 0
Makings [] [] = Unit {0}
Makings [] (m ∷ ms) = ⊥
Makings (x ∷ xs) [] = ⊥
Makings (x ∷ xs) (m ∷ ms) = IsMaking x m × Makings xs ms

abbrev Making : Option Session → Option Made → Type 0
Making None None = Unit {0}
Making None (Some m) = ⊥
Making (Some x) None = ⊥
Making (Some x) (Some m) = IsMaking x m

makings_append : (o : Option Session) (p : Option Made) (xs : List Session) (ms : List Made) → Making o p → Makings xs ms
    → Makings (option_to_list o ++ xs) (option_to_list p ++ ms)
makings_append None None xs ms one rest = rest
makings_append None (Some m) xs ms one rest = absurd one
makings_append (Some x) None xs ms one rest = absurd one
makings_append (Some x) (Some m) xs ms one rest = (one, rest)

-- an accepted SETUP is answered as such
setup_accepted : (m : Method) (c : Config) (peer : Peer) (draw : Draw) (r : Request) (st : State) → is_setup m ≡ true
    → is_accepted (done_by m c peer draw r st).answer ≡ true
setup_accepted Setup c peer draw r st e = refl
setup_accepted Options c peer draw r st e = cc
setup_accepted Describe c peer draw r st e = cc
setup_accepted Play c peer draw r st e = cc
setup_accepted Teardown c peer draw r st e = cc

next_same : (st : State) (g : Readings) (word : ℕ) → st.made ≡ length g.made → record { count = st.made + 1; word = word } ≡ next_made g word
next_same st g word e = let with_count : ℕ → SessionId = λ n. record { count = n + 1; word = word } in ap with_count e

request_makes : (c : Config) (st : State) (g : Readings) (peer : Peer) (draw : Draw) (r : Request) (answer : Answer) → st.made ≡ length g.made
    → answer ≡ (step c st (Asked peer draw r)).answer
    → Making (made_by c st (Asked peer draw r)) (if is_accepted answer then Readings.made_by g (Asked peer draw r) else None)
request_makes c st g peer draw r answer count e = by (makes_session r) refl (decide c st r) refl e
  where
    new : Session
    new = new_session st false peer draw (unwrap_or r.ports no_ports) (setup_number r st)

    id : SessionId
    id = next_made g draw.word

    told : Made
    told = record { id = id; http = false; home = unwrap_or (option_and_then (home_of_number g) r.stream) id; draw = draw }

    one : IsMaking new told
    one = record { id = next_same st g draw.word count; http = refl; ssrc = refl; first = refl }

    by : (b : Bool) → (is_setup r.method && names_none r.session) ≡ b → (o : Option Refused) → decide c st r ≡ o
        → answer ≡ (option_map_or (Steps.refuse r (heard_by r st)) o (done_by r.method c peer draw r (heard_by r st))).answer
        → Making (if b && is_none o then Some new else None) (if is_accepted answer then (if b then Some told else None) else None)
    by true g None h f =
        let acc : is_accepted answer ≡ true = ap is_accepted f
        ∙ setup_accepted r.method c peer draw r (heard_by r st) (and_parts (is_setup r.method) (names_none r.session) g).0 in
        rw acc one
    by true g (Some x) h f =
        let not_acc : is_accepted answer ≡ false = ap is_accepted f ∙ decided_refuses c st r x h in
        rw not_acc tt
    by false g o h f = never (is_none o) (is_accepted answer)
      where
        never : (a b : Bool) → Making (if false && a then Some new else None) (if b then (if false then Some told else None) else None)
        never a true = tt
        never a false = tt

get_makes : (c : Config) (st : State) (g : Readings) (peer : Peer) (draw : Draw) (r : HttpRequest) (answer : Answer) → st.made ≡ length g.made
    → answer ≡ (step c st (Got peer draw r)).answer
    → Making (made_by c st (Got peer draw r)) (if is_accepted answer then Readings.made_by g (Got peer draw r) else None)
get_makes c st g peer draw r answer count e = by (decide_get c st r) e
  where
    new : Session
    new = new_session st true peer draw no_ports (least_free st.streams)

    told : Made
    told = record { id = next_made g draw.word; http = true; home = next_made g draw.word; draw = draw }

    by : (o : Option Refused)
        → answer ≡ (option_map_or (λ refused. Steps.outcome (settle st) (Get (GetRefused refused.status)) (http_refusal refused.status refused.body)) o
        (Steps.start c peer draw r st)).answer
        → Making (if is_none o then Some new else None) (if is_accepted answer then Some told else None)
    by None f = let acc : is_accepted answer ≡ true = ap is_accepted f in
        rw acc (record { id = next_same st g draw.word count; http = refl; ssrc = refl; first = refl })
    by (Some x) f = let not_acc : is_accepted answer ≡ false = ap is_accepted f in rw not_acc tt

none_makes : (b : Bool) → Making None (if b then None else None)
none_makes true = tt
none_makes false = tt

one_makes : (c : Config) (st : State) (g : Readings) (e : Event) (answer : Answer) → st.made ≡ length g.made → answer ≡ (step c st e).answer
    → Making (made_by c st e) (if is_accepted answer then Readings.made_by g e else None)
one_makes c st g (Asked peer draw r) answer count e = request_makes c st g peer draw r answer count e
one_makes c st g (Got peer draw r) answer count e = get_makes c st g peer draw r answer count e
one_makes c st g (Tick now) answer count e = none_makes (is_accepted answer)
one_makes c st g (Packet front tune packet) answer count e = none_makes (is_accepted answer)
one_makes c st g (Ended front tune) answer count e = none_makes (is_accepted answer)
one_makes c st g (Ask front) answer count e = none_makes (is_accepted answer)
one_makes c st g (Pull id) answer count e = none_makes (is_accepted answer)
one_makes c st g (Close id) answer count e = none_makes (is_accepted answer)
one_makes c st g Stop answer count e = none_makes (is_accepted answer)

-- over a history

record AreMade (c : Config) (st : State) (g : Readings) (es : List Item) : Type 0 where
  new : List Made
  made : (read_from c g es).made ≡ g.made ++ new
  same : Makings (made_from c st es) new

are_made : (c : Config) (es : List Item) (st : State) (g : Readings) → Each (λ e. IsEvent e.event) es → LegalFrom c st es → Agrees c st g → AreMade c st g es
are_made c [] st g events legal a = record { new = []; made = sym (append-nil g.made); same = tt }
are_made c (e ∷ es) st g events legal a =
    let rest : AreMade c (step c st e.event).state (read_one c g e) es =
    are_made c es (step c st e.event).state (read_one c g e) events.1 legal.1 (agrees_step c st g e events.0 legal.0 a) in
    record {
      new = option_to_list (makes g e) ++ rest.new;
      made = rest.made ∙ append_assoc g.made (option_to_list (makes g e)) rest.new;
      same = makings_append (made_by c st e.event) (makes g e) (made_from c (step c st e.event).state es) rest.new
          (one_makes c st g e.event e.answer a.loosely.made legal.0.answer) rest.same;
    }

pub makings : (c : Setting) (h : List Item) → Legal c h → Makings (made c h) (readings c h).made
makings c h legal =
    let all = are_made c.config h (opening c) (nothing_read c) legal.events legal.entries (agrees_opening c) in
    subst (λ (ms : List Made). Makings (made c h) ms) (sym all.made) all.same

-- no two sessions are made with one id

apart_one : (o : Option Session) (n : ℕ) (xs : List Session) → ((x : Session) → o ≡ Some x → look x.id xs ≡ None) → Apart xs → Apart (option_to_list o ++ xs)
apart_one None n xs none apart = apart
apart_one (Some x) n xs none apart = (none x refl, apart)

made_apart : (c : Config) (es : List Item) (st : State) → IsSound st → Apart (made_from c st es)
made_apart c [] st sound = tt
made_apart c (e ∷ es) st sound =
    let st1 : State = (step c st e.event).state in
    let step1 = a_step c st e.event sound in
    apart_one (made_by c st e.event) st.made (made_from c st1 es)
    (λ x f. above_absent st1.made x.id (made_from c st1 es) (made_above c es st1 step1.sound)
    (few (made_by c st e.event) x f ((new_one c st e.event x f).count) step1.made))
    (made_apart c es st1 step1.sound)
  where
    few : (o : Option Session) (x : Session) → o ≡ Some x → x.id.count ≡ st.made + 1 → (step c st e.event).state.made ≡ st.made + length (option_to_list o)
        → x.id.count ≤ (step c st e.event).state.made
    few None x f count made = cc
    few (Some y) x f count made = omega (arith, count, made)

pub all_apart : (c : Setting) (h : List Item) → Apart (made c h)
all_apart c h = made_apart c.config h (opening c) (opening_sound c)

-- what is read to be made was made, as this

has_found : (xs : List Session) (ms : List Made) (m : Made) → Makings xs ms → Apart xs → Has m ms → (x : Session) × (look m.id xs ≡ Some x) × IsMaking x m
has_found [] [] m makings apart has = absurd has
has_found [] (n ∷ ms) m makings apart has = absurd makings
has_found (x ∷ xs) [] m makings apart has = absurd makings
has_found (x ∷ xs) (n ∷ ms) m makings apart (inl e) =
    let one : IsMaking x m = subst (λ (k : Made). IsMaking x k) (sym e) makings.0 in
    (x, (rw (one.id, id_same m.id) refl), one)
has_found (x ∷ xs) (n ∷ ms) m makings apart (inr has) =
    let there = has_found xs ms m makings.1 apart.1 has in
    (there.0, by (same_id x.id m.id) refl there.0 there.1, there.2)
  where
    by : (b : Bool) → same_id x.id m.id ≡ b → (y : Session) → look m.id xs ≡ Some y → (if b then Some x else look m.id xs) ≡ Some y
    by true f y g = let none : look m.id xs ≡ None = rw (← same_id_is x.id m.id f) apart.0 in cc
    by false f y g = g

pub made_of : (c : Setting) (h : List Item) (m : Made) → Legal c h → Has m (readings c h).made → (x : Session) × (made_as c h m.id ≡ Some x) × IsMaking x m
made_of c h m legal has = has_found (made c h) (readings c h).made m (makings c h legal) (all_apart c h) has

-- what is read to be made with one id is one
same_made : (xs : List Session) (ms : List Made) (m n : Made) → Makings xs ms → Apart xs → Has m ms → Has n ms → m.id ≡ n.id → m ≡ n
same_made [] [] m n makings apart hm hn e = absurd hm
same_made [] (k ∷ ms) m n makings apart hm hn e = absurd makings
same_made (x ∷ xs) [] m n makings apart hm hn e = absurd makings
same_made (x ∷ xs) (k ∷ ms) m n makings apart (inl f) (inl g) e = f ∙ sym g
same_made (x ∷ xs) (k ∷ ms) m n makings apart (inr f) (inr g) e = same_made xs ms m n makings.1 apart.1 f g e
same_made (x ∷ xs) (k ∷ ms) m n makings apart (inl f) (inr g) e =
    let there = has_found xs ms n makings.1 apart.1 g in
    let id : x.id ≡ n.id = makings.0.id ∙ ap (λ z. z.id) (sym f) ∙ e in
    let none : look n.id xs ≡ None = rw (← id) apart.0 in
    absurd (clash (look n.id xs) there.0 none there.1)
  where
    clash : (o : Option Session) (y : Session) → o ≡ None → o ≡ Some y → ⊥
    clash o y p q = cc
same_made (x ∷ xs) (k ∷ ms) m n makings apart (inr f) (inl g) e =
    let there = has_found xs ms m makings.1 apart.1 f in
    let id : x.id ≡ m.id = makings.0.id ∙ ap (λ z. z.id) (sym g) ∙ sym e in
    let none : look m.id xs ≡ None = rw (← id) apart.0 in
    absurd (clash (look m.id xs) there.0 none there.1)
  where
    clash : (o : Option Session) (y : Session) → o ≡ None → o ≡ Some y → ⊥
    clash o y p q = cc

pub one_made : (c : Setting) (h : List Item) (m n : Made) → Legal c h → Has m (readings c h).made → Has n (readings c h).made → m.id ≡ n.id → m ≡ n
one_made c h m n legal hm hn e = same_made (made c h) (readings c h).made m n (makings c h legal) (all_apart c h) hm hn e
