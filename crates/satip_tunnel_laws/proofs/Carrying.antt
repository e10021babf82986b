-- The frames of a channel are the RTP datagrams of the one session that was given it.
use Rattle.std.proofs.Common.{◌≡◌, ◌≢◌, ◌∙◌, ℕ, ◌-◌, ◌≤◌, ◌==◌, ◌&&◌, Bool, true, false, List, [], ◌∷◌, ◌++◌, drop, map, slice_index, append_assoc, arith, refl, sym, ap, subst, if◌then◌else◌, inl, ⊎_elim, eqb-true}
use Rattle.std.specs.List.{flat_map}
use Rattle.std.proofs.lemmas.Bool.{true≢false}
use Rattle.std.proofs.lemmas.Bool.Decides.{eqb_tells, nat_tests}
use Rattle.std.proofs.lemmas.Grind.{flat_map-append}
use Rattle.satip_base.specs.Output.{Datagram, Output}
use Rattle.satip_base.specs.Lists.{Begins, Each, Has}
use Rattle.satip_base.proofs.Elements.{Each-append_left, Each-append_right, each_at, each_follows, each_has}
use Rattle.satip_interleave.specs.Calls.{IsRising}
use Rattle.satip_interleave.specs.Frames.{frame}
use Rattle.satip_interleave.specs.Lanes.{PlainLanes, is_channel_port, no_lanes}
use Rattle.satip_plain.specs.declared.setting.Setting.{Setting}
use Rattle.satip_plain.specs.Types.{SessionId, Config, Ports}
use Rattle.satip_plain.specs.State.{State, same_id}
use Rattle.satip_plain.specs.Sending.{Sent, Rtp, Report}
use Rattle.satip_plain.specs.Steps.{step}
use Rattle.satip_plain.specs.Histories.{Item, Legal, LegalFrom, after_from, datagram, opening}
use Rattle.satip_plain.specs.Packets.{sent_from}
use Rattle.satip_plain.specs.Readings.{readings}
use Rattle.satip_laws.specs.Carried.{packets_inside}
use Rattle.satip_laws.specs.InBytes.{bytes_for, bytes_from, bytes_marked, payload_in_bytes}
use Rattle.satip_laws.specs.Numbers.{is_rtp_of}
use Rattle.satip_laws.specs.OverReadings.{PayloadIsSelected}
use Rattle.satip_laws.proofs.ReadRecording.{legal_before}
use Rattle.satip_laws.specs.Targets.Targets.{DatagramsGoToOne, GoesToOne, SetUp, set_ups}
use Rattle.satip_interleave.specs.declared.events.TunnelEvent.{TunnelEvent}
use Rattle.satip_interleave.specs.declared.events.TunnelEvent.TheVariants.{Inner, Enter, Drain, Leave}
use Rattle.satip_interleave.specs.declared.events.TunnelAnswer.{TunnelAnswer}
use Rattle.satip_interleave.specs.declared.events.TunnelAnswer.TheVariants.{Inner as InnerAnswer, Lane, Full, Frames, Empty, Broken, Gone, Left}
use Rattle.satip_interleave.specs.Answers.{IsAnswered}
use Rattle.satip_interleave.specs.Histories.{LanesFrom, TunnelItem, TunnelLegal, inner_by, inners, lanes_from, moved}
use Rattle.satip_interleave.specs.Laws.{LaneNumbersRise, numbers_in}
use Rattle.satip_tunnel_laws.specs.LaneFrames.{enters, frame_to, frames_by, frames_to, frames_until, lane, leaves}
use Rattle.satip_tunnel_laws.proofs.Connecting.{given_apart}
use Rattle.satip_tunnel_laws.proofs.Moving.{differs}
use Rattle.satip_tunnel_laws.specs.Channels.{ChannelsCarryPayload, HasChannels, LeavesPort, inside, packets_on}

-- beginnings

begins_both : (a b c : List (List ℕ)) → Begins b c → Begins (a ++ b) (a ++ c)
begins_both a b c begins = record { rest = begins.rest; whole = ap (λ rest. a ++ rest) begins.whole ∙ sym (append_assoc a b begins.rest) }

begins_all : (a b c : List (List ℕ)) → Begins a b → Begins b c → Begins a c
begins_all a b c first second = record {
  rest = first.rest ++ second.rest;
  whole = second.whole ∙ ap (λ front. front ++ second.rest) first.whole ∙ append_assoc a first.rest second.rest;
}

inside-append : (channel : ℕ) (a b : List (List ℕ)) → inside channel (a ++ b) ≡ inside channel a ++ inside channel b
inside-append channel [] b = refl
inside-append channel (f ∷ fs) b =
    ap (λ rest. (if slice_index f 1 == channel then drop 4 f ∷ [] else []) ++ rest) (inside-append channel fs b)
    ∙ sym (append_assoc (if slice_index f 1 == channel then drop 4 f ∷ [] else []) (inside channel fs) (inside channel b))

begins_inside : (channel : ℕ) (a b : List (List ℕ)) → Begins a b → Begins (inside channel a) (inside channel b)
begins_inside channel a b begins =
    record { rest = inside channel begins.rest; whole = ap (inside channel) begins.whole ∙ inside-append channel a begins.rest }

begins_packets : (a b : List (List ℕ)) → Begins a b → Begins (flat_map packets_inside a) (flat_map packets_inside b)
begins_packets a b begins = record {
  rest = flat_map packets_inside begins.rest;
  whole = ap (flat_map packets_inside) begins.whole ∙ flat_map-append packets_inside a begins.rest;
}

-- one datagram

channel_low : (port : ℕ) → is_channel_port port ≡ true → 1 ≤ port
channel_low port is = grind (arith, nat_tests)

this_frame : (x port : ℕ) (d : Datagram) → is_channel_port port ≡ true → d.to.ip ≡ x → d.to.port ≡ port → inside (port - 1) (frame_to x d) ≡ d.bytes ∷ []
this_frame x port d is ip to = both d.to.ip d.to.port ip to
  where
    eq_same : (n : ℕ) → (n == n) ≡ true
    eq_same n = ⊎_elim (λ t. t.0) (λ t. absurd (t.1 refl)) (eqb_tells n n)

    framed : inside (port - 1) (if x == x && is_channel_port port then frame (port - 1) d.bytes ∷ [] else []) ≡ d.bytes ∷ []
    framed =
        ap (λ b. inside (port - 1) (if b && is_channel_port port then frame (port - 1) d.bytes ∷ [] else [])) (eq_same x)
        ∙ ap (λ b. inside (port - 1) (if b then frame (port - 1) d.bytes ∷ [] else [])) is
        ∙ ap (λ b. (if b then d.bytes ∷ [] else []) ++ []) (eq_same (port - 1))

    both : (a b : ℕ) → a ≡ x → b ≡ port → inside (port - 1) (if a == x && is_channel_port b then frame (b - 1) d.bytes ∷ [] else []) ≡ d.bytes ∷ []
    both a b e f =
        ap (λ n. inside (port - 1) (if n == x && is_channel_port b then frame (b - 1) d.bytes ∷ [] else [])) e
        ∙ ap (λ n. inside (port - 1) (if x == x && is_channel_port n then frame (n - 1) d.bytes ∷ [] else [])) f
        ∙ framed

other_frame : (x port : ℕ) (d : Datagram) → is_channel_port port ≡ true → (d.to.ip ≡ x → d.to.port ≢ port) → inside (port - 1) (frame_to x d) ≡ []
other_frame x port d is other = by (d.to.ip == x) refl (is_channel_port d.to.port) refl
  where
    apart : (n : ℕ) → 1 ≤ n → 1 ≤ port → n ≢ port → ((n - 1) == (port - 1)) ≡ false
    apart n low_n low never = differs (n - 1) (port - 1) (λ e. never (omega (arith, low_n, low, e)))

    by : (a : Bool) → (d.to.ip == x) ≡ a → (b : Bool) → is_channel_port d.to.port ≡ b
        → inside (port - 1) (if a && b then frame (d.to.port - 1) d.bytes ∷ [] else []) ≡ []
    by true e true f =
        ap (λ b. (if b then d.bytes ∷ [] else []) ++ [])
        (apart d.to.port (channel_low d.to.port f) (channel_low port is) (other (eqb-true d.to.ip x e)))
    by true e false f = refl
    by false e b f = refl

-- what the SETUPs say of a session's channels
record Channelled (us : List SetUp) (s : SessionId) (x : ℕ) (ports : Ports) : Type 0 where
  its_own : Each (λ u. same_id u.session s ≡ true → (u.peer.ip ≡ x) × (u.ports ≡ ports)) us
  others : Each (λ u. same_id u.session s ≡ false → LeavesPort x ports.rtp u) us
  channel : is_channel_port ports.rtp ≡ true
  two : ports.rtcp ≢ ports.rtp

its_at : (us : List SetUp) (s : SessionId) (x : ℕ) (ports : Ports) → Channelled us s x ports → (u : SetUp) → Has u us → same_id u.session s ≡ true
    → (u.peer.ip ≡ x) × (u.ports ≡ ports)
its_at us s x ports has u in_us = each_at (λ (v : SetUp). same_id v.session s ≡ true → (v.peer.ip ≡ x) × (v.ports ≡ ports)) us u has.its_own in_us

others_at : (us : List SetUp) (s : SessionId) (x : ℕ) (ports : Ports) → Channelled us s x ports → (u : SetUp) → Has u us → same_id u.session s ≡ false
    → LeavesPort x ports.rtp u
others_at us s x ports has u in_us = each_at (λ (v : SetUp). same_id v.session s ≡ false → LeavesPort x ports.rtp v) us u has.others in_us

one_marked : (us : List SetUp) (s : SessionId) (x : ℕ) (ports : Ports) → Channelled us s x ports → (d : Sent) → GoesToOne us d
    → inside (ports.rtp - 1) (frame_to x (datagram d)) ≡ (if is_rtp_of s d then (datagram d).bytes ∷ [] else [])
one_marked us s x ports has (Rtp id to number clock ssrc packets) goes = by (same_id id s) refl
  where
    d : Datagram
    d = datagram (Rtp id to number clock ssrc packets)

    by : (b : Bool) → same_id id s ≡ b → inside (ports.rtp - 1) (frame_to x (datagram (Rtp id to number clock ssrc packets)))
        ≡ (if b then (datagram (Rtp id to number clock ssrc packets)).bytes ∷ [] else [])
    by true e =
        let own = its_at us s x ports has goes.setup goes.has (ap (λ i. same_id i s) goes.session ∙ e) in
        this_frame x ports.rtp d has.channel (ap (λ a. a.ip) goes.to_it ∙ own.0) (ap (λ a. a.port) goes.to_it ∙ ap (λ p. p.rtp) own.1)
    by false e =
        let leaves_it = others_at us s x ports has goes.setup goes.has (ap (λ i. same_id i s) goes.session ∙ e) in
        other_frame x ports.rtp d has.channel
        (λ ip port. (leaves_it (sym (ap (λ a. a.ip) goes.to_it) ∙ ip)).0 (sym (ap (λ a. a.port) goes.to_it) ∙ port))
one_marked us s x ports has (Report id view sender) goes = by (same_id id s) refl
  where
    d : Datagram
    d = datagram (Report id view sender)

    by : (b : Bool) → same_id id s ≡ b → inside (ports.rtp - 1) (frame_to x (datagram (Report id view sender))) ≡ []
    by true e =
        let own = its_at us s x ports has goes.setup goes.has (ap (λ i. same_id i s) goes.session ∙ e) in
        other_frame x ports.rtp d has.channel
        (λ ip port. has.two (sym (ap (λ a. a.port) goes.to_it ∙ ap (λ p. p.rtcp) own.1) ∙ port))
    by false e =
        let leaves_it = others_at us s x ports has goes.setup goes.has (ap (λ i. same_id i s) goes.session ∙ e) in
        other_frame x ports.rtp d has.channel
        (λ ip port. (leaves_it (sym (ap (λ a. a.ip) goes.to_it) ∙ ip)).1 (sym (ap (λ a. a.port) goes.to_it) ∙ port))

all_marked : (us : List SetUp) (s : SessionId) (x : ℕ) (ports : Ports) → Channelled us s x ports → (sent : List Sent) → Each (GoesToOne us) sent
    → inside (ports.rtp - 1) (frames_to x (map datagram sent)) ≡ bytes_marked (is_rtp_of s) sent (map datagram sent)
all_marked us s x ports has [] goes = refl
all_marked us s x ports has (d ∷ sent) goes =
    inside-append (ports.rtp - 1) (frame_to x (datagram d)) (frames_to x (map datagram sent))
    ∙ ap (λ front. front ++ inside (ports.rtp - 1) (frames_to x (map datagram sent))) (one_marked us s x ports has d goes.0)
    ∙ ap (λ back. (if is_rtp_of s d then (datagram d).bytes ∷ [] else []) ++ back) (all_marked us s x ports has sent goes.1)

-- entries

one_entry : (us : List SetUp) (s : SessionId) (x : ℕ) (ports : Ports) → Channelled us s x ports
    → (c : Config) (st : State) (lanes : PlainLanes) (n : ℕ) (event : TunnelEvent) (answer : TunnelAnswer) (out : Output) (rest : List (List ℕ))
    (tail : List Item)
    → IsAnswered lanes event answer out → LegalFrom c st (inner_by n event answer out ++ tail)
    → Each (GoesToOne us) (sent_from c st (inner_by n event answer out ++ tail))
    → ((next : State) → LegalFrom c next tail → Each (GoesToOne us) (sent_from c next tail) → Begins rest (bytes_from (is_rtp_of s) c next tail))
    → Begins (inside (ports.rtp - 1) (frames_by x event out.datagrams) ++ rest) (bytes_from (is_rtp_of s) c st (inner_by n event answer out ++ tail))
one_entry us s x ports has c st lanes n (Inner event) (InnerAnswer answer) out rest tail answered legal goes then_rest =
    let sent : List Sent = (step c st event).sent in
    let next : State = (step c st event).state in
    let now : inside (ports.rtp - 1) (frames_to x out.datagrams) ≡ bytes_marked (is_rtp_of s) sent out.datagrams =
    ap (λ ds. inside (ports.rtp - 1) (frames_to x ds)) legal.0.datagrams
    ∙ all_marked us s x ports has sent (Each-append_left (GoesToOne us) sent (sent_from c next tail) goes)
    ∙ ap (bytes_marked (is_rtp_of s) sent) (sym legal.0.datagrams) in
    subst (λ front. Begins (front ++ rest) (bytes_marked (is_rtp_of s) sent out.datagrams ++ bytes_from (is_rtp_of s) c next tail)) (sym now)
    (begins_both (bytes_marked (is_rtp_of s) sent out.datagrams) rest (bytes_from (is_rtp_of s) c next tail)
    (then_rest next legal.1 (Each-append_right (GoesToOne us) sent (sent_from c next tail) goes)))
one_entry us s x ports has c st lanes n (Inner event) (Lane number) out rest tail answered legal goes then_rest = absurd answered
one_entry us s x ports has c st lanes n (Inner event) Full out rest tail answered legal goes then_rest = absurd answered
one_entry us s x ports has c st lanes n (Inner event) (Frames count) out rest tail answered legal goes then_rest = absurd answered
one_entry us s x ports has c st lanes n (Inner event) Empty out rest tail answered legal goes then_rest = absurd answered
one_entry us s x ports has c st lanes n (Inner event) Broken out rest tail answered legal goes then_rest = absurd answered
one_entry us s x ports has c st lanes n (Inner event) Gone out rest tail answered legal goes then_rest = absurd answered
one_entry us s x ports has c st lanes n (Inner event) Left out rest tail answered legal goes then_rest = absurd answered
one_entry us s x ports has c st lanes n Enter answer out rest tail answered legal goes then_rest = then_rest st legal goes
one_entry us s x ports has c st lanes n (Drain number) answer out rest tail answered legal goes then_rest = then_rest st legal goes
one_entry us s x ports has c st lanes n (Leave number) answer out rest tail answered legal goes then_rest = then_rest st legal goes

until_begins : (us : List SetUp) (s : SessionId) (x : ℕ) (ports : Ports) → Channelled us s x ports
    → (c : Config) (ts : List TunnelItem) (st : State) (lanes : PlainLanes)
    → LanesFrom lanes ts → LegalFrom c st (inners ts) → Each (GoesToOne us) (sent_from c st (inners ts))
    → Begins (inside (ports.rtp - 1) (frames_until ts x)) (bytes_from (is_rtp_of s) c st (inners ts))
until_begins us s x ports has c [] st lanes all legal goes = record { rest = []; whole = refl }
until_begins us s x ports has c (t ∷ ts) st lanes all legal goes =
    by (leaves x t.event t.answer)
    (one_entry us s x ports has c st lanes t.caller t.event t.answer t.out (inside (ports.rtp - 1) (frames_until ts x)) (inners ts) all.0 legal goes
    (λ next more sent. until_begins us s x ports has c ts next (moved lanes t) all.1 more sent))
  where
    by : (b : Bool) → Begins (inside (ports.rtp - 1) (frames_by x t.event t.out.datagrams) ++ inside (ports.rtp - 1) (frames_until ts x))
        (bytes_from (is_rtp_of s) c st (inners (t ∷ ts)))
        → Begins (inside (ports.rtp - 1) (if b then [] else frames_by x t.event t.out.datagrams ++ frames_until ts x))
        (bytes_from (is_rtp_of s) c st (inners (t ∷ ts)))
    by true rest = record { rest = bytes_from (is_rtp_of s) c st (inners (t ∷ ts)); whole = refl }
    by false rest =
        subst (λ (front : List (List ℕ)). Begins front (bytes_from (is_rtp_of s) c st (inners (t ∷ ts))))
        (sym (inside-append (ports.rtp - 1) (frames_by x t.event t.out.datagrams) (frames_until ts x))) rest

-- entries before others

inners-append : (h k : List TunnelItem) → inners (h ++ k) ≡ inners h ++ inners k
inners-append [] k = refl
inners-append (t ∷ ts) k =
    ap (λ rest. inner_by t.caller t.event t.answer t.out ++ rest) (inners-append ts k)
    ∙ sym (append_assoc (inner_by t.caller t.event t.answer t.out) (inners ts) (inners k))

lanes_behind : (lanes : PlainLanes) (h k : List TunnelItem) → LanesFrom lanes (h ++ k) → LanesFrom (lanes_from lanes h) k
lanes_behind lanes [] k all = all
lanes_behind lanes (t ∷ ts) k all = lanes_behind (moved lanes t) ts k all.1

legal_behind : (c : Config) (st : State) (h k : List Item) → LegalFrom c st (h ++ k) → LegalFrom c (after_from c st h) k
legal_behind c st [] k legal = legal
legal_behind c st (e ∷ es) k legal = legal_behind c (step c st e.event).state es k legal.1

sent_from-append : (c : Config) (st : State) (h k : List Item) → sent_from c st (h ++ k) ≡ sent_from c st h ++ sent_from c (after_from c st h) k
sent_from-append c st [] k = refl
sent_from-append c st (e ∷ es) k =
    ap (λ rest. (step c st e.event).sent ++ rest) (sent_from-append c (step c st e.event).state es k)
    ∙ sym (append_assoc (step c st e.event).sent (sent_from c (step c st e.event).state es) (sent_from c (after_from c (step c st e.event).state es) k))

bytes_from-append : (p : Sent → Bool) (c : Config) (st : State) (h k : List Item)
    → bytes_from p c st (h ++ k) ≡ bytes_from p c st h ++ bytes_from p c (after_from c st h) k
bytes_from-append p c st [] k = refl
bytes_from-append p c st (e ∷ es) k =
    let now = bytes_marked p (step c st e.event).sent e.out.datagrams in
    ap (λ rest. now ++ rest) (bytes_from-append p c (step c st e.event).state es k)
    ∙ sym (append_assoc now (bytes_from p c (step c st e.event).state es) (bytes_from p c (after_from c (step c st e.event).state es) k))

-- a session that no SETUP was of was sent nothing

no_rtp : (us : List SetUp) (s : SessionId) → Each (λ (u : SetUp). same_id u.session s ≡ false) us → (d : Sent) → GoesToOne us d → is_rtp_of s d ≡ false
no_rtp us s none (Rtp id to number clock ssrc packets) goes =
    ap (λ i. same_id i s) (sym goes.session) ∙ each_at (λ (u : SetUp). same_id u.session s ≡ false) us goes.setup none goes.has
no_rtp us s none (Report id view sender) goes = refl

none_marked : (p : Sent → Bool) (sent : List Sent) (ds : List Datagram) → Each (λ (d : Sent). p d ≡ false) sent → bytes_marked p sent ds ≡ []
none_marked p [] ds none = refl
none_marked p (d ∷ sent) [] none = refl
none_marked p (d ∷ sent) (b ∷ ds) none = ap (λ t. (if t then b.bytes ∷ [] else []) ++ bytes_marked p sent ds) none.0 ∙ none_marked p sent ds none.1

none_from : (p : Sent → Bool) (c : Config) (h : List Item) (st : State) → Each (λ (d : Sent). p d ≡ false) (sent_from c st h) → bytes_from p c st h ≡ []
none_from p c [] st none = refl
none_from p c (e ∷ es) st none =
    let sent = (step c st e.event).sent in
    let later = sent_from c (step c st e.event).state es in
    ap (λ front. front ++ bytes_from p c (step c st e.event).state es)
    (none_marked p sent e.out.datagrams (Each-append_left (λ (d : Sent). p d ≡ false) sent later none))
    ∙ none_from p c es (step c st e.event).state (Each-append_right (λ (d : Sent). p d ≡ false) sent later none)

-- the lane's entry

lane_from : (x : ℕ) (before later : List TunnelItem) (t : TunnelItem) → Each (λ (u : TunnelItem). enters x u.event u.answer ≡ false) before
    → enters x t.event t.answer ≡ true
    → lane (before ++ t ∷ later) x ≡ frames_until later x
lane_from x [] later t none gives = ap (λ b. if b then frames_until later x else lane later x) gives
lane_from x (u ∷ us) later t none gives =
    ap (λ b. if b then frames_until (us ++ t ∷ later) x else lane (us ++ t ∷ later) x) none.0 ∙ lane_from x us later t none.1 gives

none_enters : (x : ℕ) (before later : List TunnelItem) (t : TunnelItem) → IsRising 0 (numbers_in (before ++ t ∷ later)) → enters x t.event t.answer ≡ true
    → Each (λ (u : TunnelItem). enters x u.event u.answer ≡ false) before
none_enters x before later t rises gives = each_has (λ (u : TunnelItem). enters x u.event u.answer ≡ false) before by
  where
    by : (u : TunnelItem) → Has u before → enters x u.event u.answer ≡ false
    by u has = at (enters x u.event u.answer) refl
      where
        at : (b : Bool) → enters x u.event u.answer ≡ b → b ≡ false
        at true e = absurd (given_apart x before (t ∷ later) 0 u t rises has e (inl refl) gives)
        at false e = refl

no_inner : (x n : ℕ) (event : TunnelEvent) (answer : TunnelAnswer) (out : Output) → enters x event answer ≡ true → inner_by n event answer out ≡ []
no_inner x n (Inner event) answer out gives = absurd (true≢false (sym gives))
no_inner x n Enter answer out gives = refl
no_inner x n (Drain number) answer out gives = refl
no_inner x n (Leave number) answer out gives = refl

lane_begins : DatagramsGoToOne → LaneNumbersRise → (c : Setting) (before later : List TunnelItem) (t : TunnelItem) (s : SessionId) (x : ℕ) (ports : Ports)
    → TunnelLegal c (before ++ t ∷ later) → enters x t.event t.answer ≡ true → Each (λ (u : SetUp). same_id u.session s ≡ false) (set_ups c (inners before))
    → Channelled (set_ups c (inners (before ++ t ∷ later))) s x ports
    → Begins (inside (ports.rtp - 1) (lane (before ++ t ∷ later) x)) (bytes_for c (inners (before ++ t ∷ later)) s)
lane_begins goes rise c before later t s x ports legal gives none has =
    let us = set_ups c (inners (before ++ t ∷ later)) in
    let start : State = opening c in
    let now : State = after_from c.config start (inners before) in
    let split : inners (before ++ t ∷ later) ≡ inners before ++ inners later =
    inners-append before (t ∷ later) ∙ ap (λ mid. inners before ++ (mid ++ inners later)) (no_inner x t.caller t.event t.answer t.out gives) in
    let whole : Legal c (inners before ++ inners later) = subst (Legal c) split legal.inner in
    let all_sent : Each (GoesToOne us) (sent_from c.config start (inners before) ++ sent_from c.config now (inners later)) =
    subst (Each (GoesToOne us)) (ap (sent_from c.config start) split ∙ sent_from-append c.config start (inners before) (inners later))
    (goes c (inners (before ++ t ∷ later)) legal.inner) in
    let none_yet : bytes_from (is_rtp_of s) c.config start (inners before) ≡ [] =
    none_from (is_rtp_of s) c.config (inners before) start
    (each_follows (GoesToOne (set_ups c (inners before))) (λ (d : Sent). is_rtp_of s d ≡ false) (no_rtp (set_ups c (inners before)) s none)
    (sent_from c.config start (inners before))
    (goes c (inners before) (legal_before c (inners before) (inners later) whole))) in
    let bytes : bytes_for c (inners (before ++ t ∷ later)) s ≡ bytes_from (is_rtp_of s) c.config now (inners later) =
    ap (bytes_from (is_rtp_of s) c.config start) split
    ∙ bytes_from-append (is_rtp_of s) c.config start (inners before) (inners later)
    ∙ ap (λ front. front ++ bytes_from (is_rtp_of s) c.config now (inners later)) none_yet in
    let frames : lane (before ++ t ∷ later) x ≡ frames_until later x =
    lane_from x before later t (none_enters x before later t (rise c (before ++ t ∷ later) legal) gives) gives in
    subst (λ (fs : List (List ℕ)). Begins (inside (ports.rtp - 1) fs) (bytes_for c (inners (before ++ t ∷ later)) s)) (sym frames)
    (subst (λ (bs : List (List ℕ)). Begins (inside (ports.rtp - 1) (frames_until later x)) bs) (sym bytes)
    (until_begins us s x ports has c.config later now (moved (lanes_from no_lanes before) t)
    (lanes_behind no_lanes before (t ∷ later) legal.lanes).1
    (legal_behind c.config start (inners before) (inners later) whole.entries)
    (Each-append_right (GoesToOne us) (sent_from c.config start (inners before)) (sent_from c.config now (inners later)) all_sent)))

channel_begins : DatagramsGoToOne → LaneNumbersRise → (c : Setting) (h : List TunnelItem) (s : SessionId) (x : ℕ) (ports : Ports) → TunnelLegal c h
    → HasChannels c h s x ports
    → Begins (inside (ports.rtp - 1) (lane h x)) (bytes_for c (inners h) s)
channel_begins goes rise c h s x ports legal has =
    let here : Channelled (set_ups c (inners h)) s x ports = record { its_own = has.its_own; others = has.others; channel = has.channel; two = has.two } in
    subst (λ (k : List TunnelItem). Begins (inside (ports.rtp - 1) (lane k x)) (bytes_for c (inners k) s)) (sym has.whole)
    (lane_begins goes rise c has.before has.later has.entered s x ports (subst (TunnelLegal c) has.whole legal) has.gives has.none_before
    (subst (λ (k : List TunnelItem). Channelled (set_ups c (inners k)) s x ports) has.whole here))

pub channels_carry_payload : DatagramsGoToOne → LaneNumbersRise → PayloadIsSelected → ChannelsCarryPayload
channels_carry_payload goes rise law c h m x ports frames legal made rtsp has first =
    let held = law c (inners h) m legal.inner made rtsp in
    let datagrams : Begins (inside (ports.rtp - 1) frames) (bytes_for c (inners h) m.id) =
    begins_all (inside (ports.rtp - 1) frames) (inside (ports.rtp - 1) (lane h x)) (bytes_for c (inners h) m.id)
    (begins_inside (ports.rtp - 1) frames (lane h x) first) (channel_begins goes rise c h m.id x ports legal has) in
    let packets : Begins (packets_on (ports.rtp - 1) frames) (payload_in_bytes c (inners h) m.id) =
    begins_packets (inside (ports.rtp - 1) frames) (bytes_for c (inners h) m.id) datagrams in
    record {
      payload = subst (λ (ps : List (List ℕ)). Begins (packets_on (ports.rtp - 1) frames) ps) held.meant packets;
      selected = begins_all (packets_on (ports.rtp - 1) frames) (payload_in_bytes c (inners h) m.id) ((readings c (inners h)).selected m.id) packets
          (record { rest = held.rest; whole = sym held.whole });
    }
