-- A load, packet by packet.
use Rattle.std.proofs.Common.{◌≡◌, ℕ, Bool, true, false, ◌&&◌, List, [], ◌∷◌, ◌++◌, flat_map, Some, not, refl, sym, ap, ◌∙◌, append_assoc, append-nil}
use Rattle.std.proofs.lemmas.List.Concat.{flat_map-append}
use Rattle.std.proofs.lemmas.Bool.{and_parts}
use Rattle.satip_base.specs.Output.{Datagram, Output}
use Rattle.satip_base.specs.declared.entry.Taken.{Taken}
use Rattle.satip_base.specs.History.{taken}
use Rattle.satip_plain.specs.declared.answers.Answer.{Answer}
use Rattle.satip_plain.specs.declared.answers.Work.{Work}
use Rattle.satip_plain.specs.declared.events.Event.{Event}
use Rattle.satip_plain.specs.declared.events.Event.TheVariants.{Packet}
use Rattle.satip_base.specs.Bundles.{Bundle}
use Rattle.satip_pump.specs.Bundles.{has_room}
use Rattle.satip_pump.specs.Loads.{Loaded, datagrams_left, is_of, may_give, given_event, Gives, Took}
use Rattle.satip_plain.specs.Pumping.{work_told}
use Rattle.satip_plain.specs.Pumping.{rest_of}

-- what an event that was given tells
pub record IsGiven (may : Bool) (front tune : ℕ) (packets : List (List ℕ)) (e : Event) : Type 0 where
  pub packet : List ℕ
  pub packets_are : packets ≡ packet ∷ rest_of packets
  pub event : e ≡ Packet front tune packet
  pub allowed : may ≡ true

pub given_tells : (flag may : Bool) (front tune : ℕ) (packets : List (List ℕ)) (e : Event) → given_event flag may front tune packets ≡ Some e
    → IsGiven may front tune packets e
given_tells true true front tune (p ∷ ps) e is = record { packet = p; packets_are = refl; event = cc; allowed = refl }
given_tells true true front tune [] e is = absurd (cc is)
given_tells true false front tune packets e is = absurd (cc is)
given_tells false may front tune packets e is = absurd (cc is)

-- one packet more
gives_more : (front tune : ℕ) (packets : List (List ℕ)) (work : Work) (ts : List (Taken Event Answer Output)) (left : List (List ℕ)) (last : Work)
    (t : Taken Event Answer Output) (packet : List ℕ) (rest : List (List ℕ)) → Gives front tune packets work ts left last
    → left ≡ packet ∷ rest → t.event ≡ Packet front tune packet → is_of tune last ≡ true
    → Gives front tune packets work (ts ++ t ∷ []) rest (work_told t.answer)
gives_more front tune packets work [] left last t packet rest gives is event goes_on =
    (packet, rest, sym gives.0 ∙ is, event, ap (is_of tune) (sym gives.1) ∙ goes_on, (refl, refl))
gives_more front tune packets work (x ∷ xs) left last t packet rest gives is event goes_on =
    (gives.0, gives.1, gives.2, gives.3, gives.4, gives_more front tune gives.1 (work_told x.answer) xs left last t packet rest gives.5 is event goes_on)

sent_more : (ts : List (Taken Event Answer Output)) (t : Taken Event Answer Output)
    → flat_map (λ (x : Taken Event Answer Output). x.out.datagrams) (ts ++ t ∷ [])
    ≡ flat_map (λ (x : Taken Event Answer Output). x.out.datagrams) ts ++ t.out.datagrams
sent_more ts t =
    flat_map-append (λ (x : Taken Event Answer Output). x.out.datagrams) ts (t ∷ [])
    ∙ ap (λ (ds : List Datagram). flat_map (λ (x : Taken Event Answer Output). x.out.datagrams) ts ++ ds) (append-nil t.out.datagrams)

-- a load after one packet more
pub record Passed (b c : Loaded) (answer : Answer) (out : Output) : Type 0 where
  pub front : c.front ≡ b.front
  pub tune : c.tune ≡ b.tune
  pub rest : c.buffered.rest ≡ b.buffered.rest
  pub room : c.buffered.room ≡ b.buffered.room
  pub work : c.work ≡ work_told answer
  pub packets : c.buffered.packets ≡ rest_of b.buffered.packets
  pub datagrams : c.datagrams ≡ b.datagrams ++ out.datagrams

pub took_more : (a b c : Loaded) (flag none_left : Bool) (bundle : Bundle) (ts : List (Taken Event Answer Output)) (e : Event) (answer : Answer) (out : Output)
    → given_event flag (may_give b.tune b.work bundle none_left) b.front b.tune b.buffered.packets ≡ Some e → Took a b ts → Passed b c answer out
    → Took a c (ts ++ taken e answer out ∷ [])
took_more a b c flag none_left bundle ts e answer out given took passed =
    let told = given_tells flag (may_give b.tune b.work bundle none_left) b.front b.tune b.buffered.packets e given in
    let both = and_parts (is_of b.tune b.work) (has_room bundle && none_left) told.allowed in
    let event : e ≡ Packet a.front a.tune told.packet =
    told.event ∙ ap (λ (n : ℕ). Packet n b.tune told.packet) took.front ∙ ap (λ (n : ℕ). Packet a.front n told.packet) took.tune in
    let more = gives_more a.front a.tune a.buffered.packets a.work ts b.buffered.packets b.work (taken e answer out) told.packet (rest_of b.buffered.packets)
    took.gives told.packets_are event (ap (λ (n : ℕ). is_of n b.work) (sym took.tune) ∙ both.0) in
    record {
      front = passed.front ∙ took.front;
      tune = passed.tune ∙ took.tune;
      rest = passed.rest ∙ took.rest;
      room = passed.room ∙ took.room;
      gives = rw (passed.packets, passed.work) more;
      datagrams = passed.datagrams ∙ ap (λ (ds : List Datagram). ds ++ out.datagrams) took.datagrams
          ∙ append_assoc a.datagrams (flat_map (λ (x : Taken Event Answer Output). x.out.datagrams) ts) out.datagrams
          ∙ ap (λ (ds : List Datagram). a.datagrams ++ ds) (sym (sent_more ts (taken e answer out)));
    }

-- the datagrams of an output went into the batch, and none stayed in one
pub appended_more : (ds es fs : List Datagram) (left now : Bool) (last out : Output) → left ≡ false → now ≡ false → fs ≡ ds ++ es
    → fs ++ datagrams_left now out ≡ (ds ++ datagrams_left left last) ++ es
appended_more ds es fs false false last out before none is = append-nil fs ∙ is ∙ ap (λ (x : List Datagram). x ++ es) (sym (append-nil ds))
appended_more ds es fs true now last out before none is = absurd (cc before)
appended_more ds es fs false true last out before none is = absurd (cc none)

-- or they stayed there
pub left_more : (ds : List Datagram) (left now : Bool) (last out new : Output) → left ≡ false → now ≡ true → new ≡ out
    → ds ++ datagrams_left now new ≡ (ds ++ datagrams_left left last) ++ out.datagrams
left_more ds false true last out new before some is =
    ap (λ (o : Output). ds ++ o.datagrams) is ∙ ap (λ (x : List Datagram). x ++ out.datagrams) (sym (append-nil ds))
left_more ds true now last out new before some is = absurd (cc before)
left_more ds false false last out new before some is = absurd (cc some)

pub not_left : (left : Bool) → not left ≡ true → left ≡ false
not_left false is = refl
not_left true is = absurd (cc is)

-- while an event is given, no datagrams are left in an output
pub given_left : (flag : Bool) (front tune : ℕ) (work : Work) (bundle : Bundle) (left : Bool) (packets : List (List ℕ)) (e : Event)
    → given_event flag (may_give tune work bundle (not left)) front tune packets ≡ Some e → left ≡ false
given_left flag front tune work bundle left packets e given =
    let may = may_give tune work bundle (not left) in
    let both = and_parts (is_of tune work) (has_room bundle && not left) (given_tells flag may front tune packets e given).allowed in
    not_left left (and_parts (has_room bundle) (not left) both.1).1
