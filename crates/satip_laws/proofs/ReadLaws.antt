-- The laws on packets, numbers and SSRCs in the words of what is read of a history.
use Rattle.std.proofs.Common.{◌≡◌, ◌⊎◌, inl, inr, ℕ, ◌==◌, ◌&&◌, not, Bool, true, false, cond, List, [], ◌∷◌, ◌++◌, filter, Option, Some, None, is_some, refl, ap, sym, subst, ◌∙◌}
use Rattle.std.specs.List.{list_any}
use Rattle.std.specs.Option.{option_map_or}
use Rattle.std.proofs.lemmas.Bool.{and_parts, and_from, eq-eqb, not-true}
use Rattle.satip_plain.proofs.SameIds.{same_id_is}
use Rattle.satip_base.specs.Lists.{Has}
use Rattle.satip_plain.specs.declared.setting.Setting.{Setting}
use Rattle.satip_plain.specs.Types.{SessionId, Config}
use Rattle.satip_plain.specs.State.{Session, State, same_id, held}
use Rattle.satip_plain.specs.Streams.{to_set}
use Rattle.satip_plain.specs.Steps.{is_session, step}
use Rattle.satip_plain.specs.Histories.{Item, Legal, LegalFrom, Fits, opening, after, after_from}
use Rattle.satip_plain.specs.Packets.{payload}
use Rattle.satip_plain.specs.Numbering.{numbers_for}
use Rattle.satip_plain.specs.Readings
use Rattle.satip_plain.specs.Readings.{Made, Readings, asking, readings, read_from, read_one, nothing_read, pulled_by, packets_of}
use Rattle.satip_laws.proofs.Agree.{Same, Agrees, alike_has}
use Rattle.satip_laws.proofs.Finding.{find_has}
use Rattle.satip_laws.proofs.Law.{agrees_after, selected_is_given}
use Rattle.satip_laws.specs.Makings.{made, made_as, living}
use Rattle.satip_laws.specs.Payload.{held_of, PayloadAndHeld}
use Rattle.satip_laws.specs.Flushes.{RetuningFlushes}
use Rattle.satip_laws.proofs.Retuning.{retunes, sets_tuning, tuning_of}
use Rattle.satip_laws.specs.InBytes.{payload_in_bytes}
use Rattle.satip_laws.specs.Numbers.{sent_in, CountFrom, is_rtp_of, carries, shares_ssrc}
use Rattle.satip_laws.specs.OverReadings.{gives_tuning, PayloadIsSelected, NumbersFromDraw, SsrcOfDrawTells}
use Rattle.satip_laws.proofs.Ids.{look}
use Rattle.satip_laws.proofs.Flushing.{tick_flushes, retuned_hold_nothing}
use Rattle.satip_laws.proofs.PayloadLaws.{payload_is_given, numbers_from_first, ssrc_tells}
use Rattle.satip_laws.proofs.ReadRecording.{legal_before}
use Rattle.satip_laws.proofs.Making.{IsMaking, Makings, makings, made_of, one_made}
use Rattle.satip_laws.proofs.InBytes.{payload_carried}
use Rattle.satip_laws.proofs.Asked.{IsAsked, entry_asked}

-- a history and one entry more

read_more : (c : Config) (h : List Item) (e : Item) (g : Readings) → read_from c g (h ++ e ∷ []) ≡ read_one c (read_from c g h) e
read_more c [] e g = refl
read_more c (x ∷ h) e g = read_more c h e (read_one c g x)

entries_but : (c : Config) (h : List Item) (e : Item) (st : State) → LegalFrom c st (h ++ e ∷ [])
    → LegalFrom c st h × Fits (step c (after_from c st h) e.event) e
entries_but c [] e st legal = (tt, legal.0)
entries_but c (x ∷ h) e st legal = let rest = entries_but c h e (step c st x.event).state legal.1 in ((legal.0, rest.0), rest.1)

-- whom one finds lives, and was made

found_has : (s : SessionId) (xs : List Session) (y : Session) → look s xs ≡ Some y → Has y xs × (y.id ≡ s)
found_has s xs y e = let there = find_has (is_session s) xs y e in (there.0, same_id_is y.id s there.1)

-- the readings of a session that lives
record IsRead (g : Readings) (s : SessionId) (y : Session) : Type 0 where
  m : Made
  lives : Has m (Readings.living g)
  id : m.id ≡ s
  same : Same g m y

is_read : (c : Setting) (h : List Item) (s : SessionId) (y : Session) → Legal c h → living (after c h) s ≡ Some y → IsRead (readings c h) s y
is_read c h s y legal e =
    let there = found_has s (after c h).sessions y e in
    let m = alike_has (readings c h) y (Readings.living (readings c h)) (after c h).sessions (agrees_after c h legal).loosely.sessions there.0 in
    record { m = m.0; lives = m.1; id = sym m.2.id ∙ there.1; same = m.2 }

has_passed : (p : Made → Bool) (ms : List Made) (m : Made) → Has m (filter p ms) → Has m ms × (p m ≡ true)
has_passed p [] m has = absurd has
has_passed p (k ∷ ms) m has = by (p k) refl has (λ f. has_passed p ms m f)
  where
    by : (b : Bool) → p k ≡ b → Has m (cond b (k ∷ filter p ms) (filter p ms)) → (Has m (filter p ms) → Has m ms × (p m ≡ true))
        → ((m ≡ k) ⊎ Has m ms) × (p m ≡ true)
    by true e (inl same) rest = (inl same, ap p same ∙ e)
    by true e (inr later) rest = let r = rest later in (inr r.0, r.1)
    by false e later rest = let r = rest later in (inr r.0, r.1)

living_made : (g : Readings) (m : Made) → Has m (Readings.living g) → Has m g.made × (g.over m.id ≡ false)
living_made g m lives = let r = has_passed (λ k. not (g.over k.id)) g.made m lives in (r.0, not-true (g.over m.id) r.1)

-- who is over doesn't live
over_gone : (c : Setting) (h : List Item) (m : Made) → Legal c h → (readings c h).over m.id ≡ true → living (after c h) m.id ≡ None
over_gone c h m legal over = by (living (after c h) m.id) refl
  where
    by : (o : Option Session) → living (after c h) m.id ≡ o → o ≡ None
    by None e = refl
    by (Some y) e =
        let r : IsRead (readings c h) m.id y = is_read c h m.id y legal e in
        let alive : (readings c h).over r.m.id ≡ false = (living_made (readings c h) r.m r.lives).1 in
        let same : (readings c h).over r.m.id ≡ (readings c h).over m.id = ap (readings c h).over r.id in
        cc

-- the payload law

pub payload_is_selected : PayloadIsSelected
payload_is_selected c h m legal has rtsp = record {
  rest = held_of (after c h) m.id;
  whole = ap (λ packets. packets ++ held_of (after c h) m.id) carried ∙ all;
  meant = carried;
  few = law.few;
  over = λ over. rw (over_gone c h m legal over) refl;
  ticked = λ g e now is tick. empty (λ y found. tick_flushes c g e now m.id y tick (rw (← is) found) (kind y found));
  retuned = λ g e is anew. empty (λ y found. retuned_hold_nothing c g e m.id y (rw (← is) found) (kind y found) (retunes_it g e is anew y found));
}
  where
    x : (x : Session) × (made_as c h m.id ≡ Some x) × IsMaking x m
    x = made_of c h m legal has

    law : PayloadAndHeld c h m.id
    law = payload_is_given c h m.id x.0 x.1 (x.2.http ∙ rtsp)

    all : payload c h m.id ++ held_of (after c h) m.id ≡ (readings c h).selected m.id
    all = law.whole ∙ sym (selected_is_given c h m.id legal)

    carried : payload_in_bytes c h m.id ≡ payload c h m.id
    carried = payload_carried c h m.id (held_of (after c h) m.id) legal all

    kind : (y : Session) → living (after c h) m.id ≡ Some y → y.http ≡ false
    kind y found =
        let r : IsRead (readings c h) m.id y = is_read c h m.id y legal found in
        let one : r.m ≡ m = one_made c h r.m m legal (living_made (readings c h) r.m r.lives).0 has r.id in
        r.same.http ∙ ap (λ k. k.http) one ∙ rtsp

    empty : ((y : Session) → living (after c h) m.id ≡ Some y → held y ≡ []) → held_of (after c h) m.id ≡ []
    empty none = by (living (after c h) m.id) refl
      where
        by : (o : Option Session) → living (after c h) m.id ≡ o → option_map_or held o [] ≡ []
        by None e = refl
        by (Some y) e = none y e

    retunes_it : (g : List Item) (e : Item) → h ≡ g ++ e ∷ [] → gives_tuning (readings c g) e m.home ≡ true → (y : Session) → living (after c h) m.id ≡ Some y
        → retunes c.config (after c g) e.event y.stream ≡ true
    retunes_it g e is anew y found = at (asking (readings c g) e) refl anew
      where
        before : Legal c (g ++ e ∷ [])
        before = subst (Legal c) is legal

        agrees : Agrees c.config (after c g) (readings c g)
        agrees = agrees_after c g (legal_before c g (e ∷ []) before)

        answered : e.answer ≡ (step c.config (after c g) e.event).answer
        answered = (entries_but c.config g e (opening c) before.entries).1.answer

        r : IsRead (readings c h) m.id y
        r = is_read c h m.id y legal found

        one : r.m ≡ m
        one = one_made c h r.m m legal (living_made (readings c h) r.m r.lives).0 has r.id

        stream : y.stream ≡ (read_one c.config (readings c g) e).number m.home
        stream = r.same.stream ∙ ap (λ k. (readings c h).number k.home) one
            ∙ ap (λ k. (readings c k).number m.home) is ∙ ap (λ k. k.number m.home) (read_more c.config g e (nothing_read c))

        at : (o : Option Readings.Asking) → asking (readings c g) e ≡ o
            → option_map_or (λ a. same_id a.home m.home && is_some (to_set ((readings c g).tuned m.home) a.query.change)) o false ≡ true
            → retunes c.config (after c g) e.event y.stream ≡ true
        at None f k = cc
        at (Some a) f k =
            let parts = and_parts (same_id a.home m.home) (is_some (to_set ((readings c g).tuned m.home) a.query.change)) k in
            let home : a.home ≡ m.home = same_id_is a.home m.home parts.0 in
            let asked : IsAsked c.config (after c g) (readings c g) e a = entry_asked c.config (after c g) (readings c g) agrees e a answered f in
            let number : asked.number ≡ y.stream = asked.read ∙ ap (read_one c.config (readings c g) e).number home ∙ sym stream in
            let tuning : tuning_of (after c g) y.stream ≡ (readings c g).tuned m.home =
            ap (tuning_of (after c g)) (sym number) ∙ asked.tuning ∙ ap (readings c g).tuned home in
            let set : is_some (to_set (tuning_of (after c g) y.stream) a.query.change) ≡ true = ap (λ t. is_some (to_set t a.query.change)) tuning ∙ parts.1 in
            ap (λ o. option_map_or (sets_tuning (after c g) y.stream) o false) asked.asked ∙ and_from _ _ (eq-eqb asked.number y.stream number) set

-- the packets that are held are the list of the payload law
pub retuning_flushes : RetuningFlushes
unfolding payload_is_selected
retuning_flushes c h e m y legal has rtsp anew found =
    let none : held_of (after c (h ++ e ∷ [])) m.id ≡ [] = (payload_is_selected c (h ++ e ∷ []) m legal has rtsp).retuned h e refl anew in
    rw found at none

-- the numbering law and the SSRC law

pub numbers_from_draw : NumbersFromDraw
numbers_from_draw c h m legal has =
    let x = made_of c h m legal has in
    subst (λ (n : ℕ). CountFrom n (numbers_for m.id (sent_in c h))) x.2.first (numbers_from_first c h m.id x.0 x.1)

shared_same : (s : SessionId) (k : ℕ) (xs : List Session) (ms : List Made) → Makings xs ms
    → list_any (λ y. not (is_session s y) && y.ssrc == k) xs ≡ list_any (λ n. not (same_id n.id s) && n.draw.ssrc == k) ms
shared_same s k [] [] makings = refl
shared_same s k [] (m ∷ ms) makings = absurd makings
shared_same s k (x ∷ xs) [] makings = absurd makings
shared_same s k (x ∷ xs) (m ∷ ms) makings = rw (makings.0.id, makings.0.ssrc, shared_same s k xs ms makings.1) refl

pub ssrc_of_draw_tells : SsrcOfDrawTells
ssrc_of_draw_tells c h m legal has alone =
    let x = made_of c h m legal has in
    let alone1 : shares_ssrc c h m.id m.draw.ssrc ≡ false = shared_same m.id m.draw.ssrc (made c h) (readings c h).made (makings c h legal) ∙ alone in
    subst (λ (n : ℕ). filter (is_rtp_of m.id) (sent_in c h) ≡ filter (carries n) (sent_in c h)) x.2.ssrc
    (ssrc_tells c h m.id x.0 x.1 (ap (shares_ssrc c h m.id) x.2.ssrc ∙ alone1))
