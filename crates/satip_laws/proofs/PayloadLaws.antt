-- The laws on what is given, held, sent and numbered, from what becomes of each session over a history.
use Rattle.std.proofs.Common.{arith, ◌≡◌, ℕ, ◌+◌, ◌≤◌, ◌==◌, ◌&&◌, ◌||◌, not, Bool, true, false, cond, List, [], ◌∷◌, ◌++◌, length, filter, sum, take, drop, Option, Some, None, refl, ap, sym, ◌∙◌, if◌then◌else◌, take-append-drop}
use Rattle.std.specs.List.{list_any}
use Rattle.std.proofs.lemmas.List.{append_cancel_right}
use Rattle.std.proofs.lemmas.Bool.{eq-eqb}
use Rattle.satip_plain.proofs.SameIds.{same_id_is}
use Rattle.satip_base.specs.Lists.{Each}
use Rattle.satip_plain.specs.declared.setting.Setting.{Setting}
use Rattle.satip_plain.specs.Types.{SessionId}
use Rattle.satip_plain.specs.State.{Session, same_id, held}
use Rattle.satip_plain.specs.Sending.{Sent, Rtp, Report}
use Rattle.satip_plain.specs.Steps.{is_session}
use Rattle.satip_plain.specs.Histories.{Item, opening, after}
use Rattle.satip_plain.specs.Packets.{payload}
use Rattle.satip_laws.specs.Given.{given}
use Rattle.satip_laws.specs.Makings.{made, made_as, living, LivingAreMade}
use Rattle.satip_laws.specs.Pulls.{taken}
use Rattle.satip_laws.specs.Payload.{PayloadAndHeld, PayloadIsGiven, LivingPicked, TakenAndQueued, TakenIsGiven}
use Rattle.satip_laws.specs.Numbers.{sent_in, CountFrom, NumbersCountFromFirst, is_rtp_of, carries, SsrcTells}
use Rattle.satip_laws.proofs.Ids.{look, id_same}
use Rattle.satip_laws.proofs.Told.{Told, told, told_before, told_of, all_of, packets_in, numbers_in, packets_told, numbers_told, packets_in-told_of, numbers_in-told_of}
use Rattle.satip_laws.proofs.Evolving.{Becomes, Follows, Evolves, Runs, told_by, most_of}
use Rattle.satip_laws.proofs.Over.{over, opening_sound, IsFresh, fresh_fine, fresh_made}

-- from its making to the end of the history
whole : (c : Setting) (h : List Item) (s : SessionId) → Runs (made_as c h s) (told s (sent_in c h)) (given c h s) (taken c h s) (living (after c h) s)
whole c h s = over c.config h s (opening c) (opening_sound c)

whole_of : (c : Setting) (h : List Item) (s : SessionId) (x : Session) → made_as c h s ≡ Some x
    → Evolves x (told s (sent_in c h)) (given c h s) (taken c h s) (living (after c h) s)
whole_of c h s x e = rw e at (whole c h s)

fresh : (c : Setting) (h : List Item) (s : SessionId) (x : Session) → made_as c h s ≡ Some x → IsFresh x
fresh c h s x e = fresh_made c.config h s (opening c) x e

-- a living session is one that was made
made_living : (c : Setting) (h : List Item) (s : SessionId) (y : Session) → living (after c h) s ≡ Some y
    → (x : Session) × (made_as c h s ≡ Some x) × Evolves x (told s (sent_in c h)) (given c h s) (taken c h s) (Some y)
made_living c h s y e = by (made_as c h s) refl (rw e at (whole c h s))
  where
    by : (o : Option Session) → made_as c h s ≡ o → Runs o (told s (sent_in c h)) (given c h s) (taken c h s) (Some y)
        → (x : Session) × (made_as c h s ≡ Some x) × Evolves x (told s (sent_in c h)) (given c h s) (taken c h s) (Some y)
    by None f run = cc
    by (Some x) f run = (x, f, run)

pub living_are_made : LivingAreMade
living_are_made c h s y e = let m = made_living c h s y e in (m.0, m.1, m.2.follows.kept)

-- what is held of a fresh session
held_fresh : (x : Session) → IsFresh x → held x ≡ []
held_fresh x f = rw (f.sizes, f.picked) refl

given_whole : (x : Session) (got gone rest : List (List ℕ)) → IsFresh x → held x ++ got ≡ gone ++ rest → gone ++ rest ≡ got
given_whole x got gone rest f e = sym e ∙ (rw (held_fresh x f) refl)

told_packets : (x : Session) (ts : List Told) (groups : List (List (List ℕ))) → x.http ≡ false → ts ≡ told_by x groups → packets_in ts ≡ all_of groups
told_packets x ts groups rtsp e = rw (e, rtsp) (packets_in-told_of x.first x.ssrc (length x.sizes) groups)

payload_is : (c : Setting) (h : List Item) (s : SessionId) (x : Session) (groups : List (List (List ℕ))) → x.http ≡ false
    → told s (sent_in c h) ≡ told_by x groups → payload c h s ≡ all_of groups
payload_is c h s x groups rtsp e = packets_told s (sent_in c h) ∙ told_packets x (told s (sent_in c h)) groups rtsp e

pub payload_is_given : PayloadIsGiven
payload_is_given c h s x e rtsp = by (living (after c h) s) refl run.follows
  where
    run : Evolves x (told s (sent_in c h)) (given c h s) (taken c h s) (living (after c h) s)
    run = whole_of c h s x e

    new : IsFresh x
    new = fresh c h s x e

    sent : payload c h s ≡ all_of run.groups
    sent = payload_is c h s x run.groups rtsp run.tells

    by : (o : Option Session) → living (after c h) s ≡ o → Follows x (given c h s) run.groups o → PayloadAndHeld c h s
    by None f ends = record {
      whole = rw (f, sent) (let all = given_whole x (given c h s) (all_of run.groups) ends.rest new (ends.whole (fresh_fine x new)) in
          rw (ends.none rtsp) at all);
      few = rw f (omega arith);
    }
    by (Some y) f becomes = record {
      whole = rw (f, sent) (given_whole x (given c h s) (all_of run.groups) (held y) new (becomes.whole (fresh_fine x new)));
      few = rw f (let few : length (held y) ≤ most_of y.http = (becomes.fine (fresh_fine x new)).few in rw (becomes.kept.http ∙ rtsp) at few);
    }

-- what left is the beginning of what was picked
beginning : (gone picked : List (List ℕ)) (n : ℕ) → gone ++ drop n picked ≡ picked → gone ≡ take n picked
beginning gone picked n e = append_cancel_right gone (take n picked) (drop n picked) (e ∙ sym (take-append-drop n picked))

pub living_picked : LivingPicked
living_picked c h s y e =
    let m = made_living c h s y e in
    let x : Session = m.0 in
    let run : Evolves x (told s (sent_in c h)) (given c h s) (taken c h s) (Some y) = m.2 in
    let new : IsFresh x = fresh c h s x m.1 in
    let becomes : Becomes x (given c h s) run.groups y = run.follows in
    let picked : y.picked ≡ given c h s = becomes.picked ∙ ap (λ l. l ++ given c h s) new.picked in
    let begins : all_of run.groups ≡ take (sum y.sizes) y.picked =
    beginning (all_of run.groups) y.picked (sum y.sizes)
    (given_whole x (given c h s) (all_of run.groups) (held y) new (becomes.whole (fresh_fine x new)) ∙ sym picked) in
    record {
      picked = picked;
      sent = λ rtsp. payload_is c h s x run.groups (sym becomes.kept.http ∙ rtsp) run.tells ∙ begins;
      pulled = λ http. run.takes (sym becomes.kept.http ∙ http) ∙ begins;
    }

pub taken_is_given : TakenIsGiven
taken_is_given c h s x e http = by (living (after c h) s) refl run.follows
  where
    run : Evolves x (told s (sent_in c h)) (given c h s) (taken c h s) (living (after c h) s)
    run = whole_of c h s x e

    new : IsFresh x
    new = fresh c h s x e

    by : (o : Option Session) → living (after c h) s ≡ o → Follows x (given c h s) run.groups o → TakenAndQueued c h s
    by None f ends = record {
      rest = ends.rest;
      whole = rw (run.takes http) (given_whole x (given c h s) (all_of run.groups) ends.rest new (ends.whole (fresh_fine x new)));
      queue = λ y g. cc;
      few = λ y g. cc;
    }
    by (Some y) f becomes = record {
      rest = held y;
      whole = rw (run.takes http) (given_whole x (given c h s) (all_of run.groups) (held y) new (becomes.whole (fresh_fine x new)));
      queue = λ z g. let same : y ≡ z = cc in ap held same;
      few = λ z g. let few : length (held y) ≤ most_of y.http = (becomes.fine (fresh_fine x new)).few in rw (becomes.kept.http ∙ http) at few;
    }

-- numbers
told_numbers : (x : Session) (groups : List (List (List ℕ))) → IsFresh x → (b : Bool)
    → CountFrom x.first (numbers_in (if b then [] else told_of x.first x.ssrc (length x.sizes) groups))
told_numbers x groups new true = record { many = 0; are = refl }
told_numbers x groups new false = record { many = length groups; are = rw new.sizes (numbers_in-told_of x.first x.ssrc 0 groups) }

pub numbers_from_first : NumbersCountFromFirst
numbers_from_first c h s x e =
    let run : Evolves x (told s (sent_in c h)) (given c h s) (taken c h s) (living (after c h) s) = whole_of c h s x e in
    rw (numbers_told s (sent_in c h), run.tells) (told_numbers x run.groups (fresh c h s x e) x.http)

-- SSRCs: what is told of a session has the SSRC that it was made with
abbrev HasSsrc : Option Session → List Told → Type 0
HasSsrc None ts = ts ≡ []
HasSsrc (Some x) ts = Each (λ t. t.ssrc ≡ x.ssrc) ts

ssrc_told : (first ssrc n : ℕ) (groups : List (List (List ℕ))) → Each (λ t. t.ssrc ≡ ssrc) (told_of first ssrc n groups)
ssrc_told first ssrc n [] = tt
ssrc_told first ssrc n (g ∷ gs) = (refl, ssrc_told first ssrc (n + 1) gs)

has_ssrc : (c : Setting) (h : List Item) (s : SessionId) → HasSsrc (made_as c h s) (told s (sent_in c h))
has_ssrc c h s = by (made_as c h s) (whole c h s)
  where
    kind : (x : Session) (groups : List (List (List ℕ))) (b : Bool)
        → Each (λ t. t.ssrc ≡ x.ssrc) (if b then [] else told_of x.first x.ssrc (length x.sizes) groups)
    kind x groups true = tt
    kind x groups false = ssrc_told x.first x.ssrc (length x.sizes) groups

    by : (o : Option Session) → Runs o (told s (sent_in c h)) (given c h s) (taken c h s) (living (after c h) s) → HasSsrc o (told s (sent_in c h))
    by None run = run.0
    by (Some x) run = rw run.tells (kind x run.groups x.http)

-- one datagram less, at every id
has_ssrc_rest : (s : SessionId) (o : Option Session) (d : Sent) (ts : List Told) → HasSsrc o (told_before s d ts) → HasSsrc o ts
has_ssrc_rest s o (Rtp id to number clock ssrc packets) ts has = by (same_id id s) o has
  where
    by : (b : Bool) (o : Option Session) → HasSsrc o (if b then record { number = number; ssrc = ssrc; packets = packets } ∷ ts else ts) → HasSsrc o ts
    by true None has = cc
    by true (Some x) has = has.1
    by false o has = has
has_ssrc_rest s o (Report id view sender) ts has = has

-- a datagram is the session's where it carries its SSRC
others_differ : (s : SessionId) (n : ℕ) (xs : List Session) (id : SessionId) (y : Session) → list_any (λ z. not (is_session s z) && z.ssrc == n) xs ≡ false
    → look id xs ≡ Some y → same_id id s ≡ false → (y.ssrc == n) ≡ false
others_differ s n [] id y none e other = cc
others_differ s n (z ∷ zs) id y none e other = by (same_id z.id id) refl e none (λ f g. others_differ s n zs id y f g other)
  where
    last : (b : Bool) → (z.ssrc == n) ≡ b → ((not (same_id z.id s) && z.ssrc == n) || list_any (λ z. not (is_session s z) && z.ssrc == n) zs) ≡ false
        → same_id z.id s ≡ false → (z.ssrc == n) ≡ false
    last true f g k = let no : (true || list_any (λ z. not (is_session s z) && z.ssrc == n) zs) ≡ false = rw (k, f) at g in cc
    last false f g k = f

    more : (b : Bool) → (b || list_any (λ z. not (is_session s z) && z.ssrc == n) zs) ≡ false → list_any (λ z. not (is_session s z) && z.ssrc == n) zs ≡ false
    more true f = cc
    more false f = f

    by : (b : Bool) → same_id z.id id ≡ b → (if b then Some z else look id zs) ≡ Some y
        → ((not (same_id z.id s) && z.ssrc == n) || list_any (λ z. not (is_session s z) && z.ssrc == n) zs) ≡ false
        → (list_any (λ z. not (is_session s z) && z.ssrc == n) zs ≡ false → look id zs ≡ Some y → (y.ssrc == n) ≡ false) → (y.ssrc == n) ≡ false
    by true f g none rest =
        let same : z ≡ y = cc in
        let not_s : same_id z.id s ≡ false = ap (λ i. same_id i s) (same_id_is z.id id f) ∙ other in
        ap (λ w. w.ssrc == n) (sym same) ∙ last (z.ssrc == n) refl none not_s
    by false f g none rest = rest (more (not (same_id z.id s) && z.ssrc == n) none) g

one_mark : (s : SessionId) (x : Session) (xs : List Session) → look s xs ≡ Some x → list_any (λ y. not (is_session s y) && y.ssrc == x.ssrc) xs ≡ false
    → (d : Sent) (ts : SessionId → List Told) → ((id : SessionId) → HasSsrc (look id xs) (told_before id d (ts id))) → is_rtp_of s d ≡ carries x.ssrc d
one_mark s x xs e alone (Report id view sender) ts has = refl
one_mark s x xs e alone (Rtp id to number clock ssrc packets) ts has = by (same_id id s) refl
  where
    t : Told
    t = record { number = number; ssrc = ssrc; packets = packets }

    here : HasSsrc (look id xs) (t ∷ ts id)
    here = rw (id_same id) at (has id)

    made_with : (o : Option Session) → look id xs ≡ o → HasSsrc o (t ∷ ts id) → (y : Session) × (look id xs ≡ Some y) × (ssrc ≡ y.ssrc)
    made_with None f has = cc
    made_with (Some y) f has = (y, f, has.0)

    m : (y : Session) × (look id xs ≡ Some y) × (ssrc ≡ y.ssrc)
    m = made_with (look id xs) refl here

    other : (y : Session) → look id xs ≡ Some y → ssrc ≡ y.ssrc → same_id id s ≡ false → false ≡ (ssrc == x.ssrc)
    other y f g differs = rw g (sym (others_differ s x.ssrc xs id y alone f differs))

    own : (y : Session) → look s xs ≡ Some y → ssrc ≡ y.ssrc → true ≡ (ssrc == x.ssrc)
    own y f g = let same : y ≡ x = cc in rw (g, same) (sym (eq-eqb x.ssrc x.ssrc refl))

    by : (b : Bool) → same_id id s ≡ b → b ≡ (ssrc == x.ssrc)
    by true f = let same : id ≡ s = same_id_is id s f in own m.0 (rw (← same) m.1) m.2
    by false f = other m.0 m.1 m.2 f

marks_tell : (s : SessionId) (x : Session) (xs : List Session) → look s xs ≡ Some x → list_any (λ y. not (is_session s y) && y.ssrc == x.ssrc) xs ≡ false
    → (sent : List Sent) → ((id : SessionId) → HasSsrc (look id xs) (told id sent)) → filter (is_rtp_of s) sent ≡ filter (carries x.ssrc) sent
marks_tell s x xs e alone [] has = refl
marks_tell s x xs e alone (d ∷ sent) has =
    let rest : filter (is_rtp_of s) sent ≡ filter (carries x.ssrc) sent =
    marks_tell s x xs e alone sent (λ id. has_ssrc_rest id (look id xs) d (told id sent) (has id)) in
    ap (λ b. cond b (d ∷ filter (is_rtp_of s) sent) (filter (is_rtp_of s) sent)) (one_mark s x xs e alone d (λ id. told id sent) has)
    ∙ ap (λ l. cond (carries x.ssrc d) (d ∷ l) l) rest

pub ssrc_tells : SsrcTells
ssrc_tells c h s x e alone = marks_tell s x (made c h) e alone (sent_in c h) (λ id. has_ssrc c h id)
