-- One more entry at the end of a legal history.
use Rattle.std.proofs.Common.{◌≡◌, ◌⊎◌, inl, inr, ◌+◌, ◌&&◌, ◌||◌, not, Bool, true, false, cond, List, [], ◌∷◌, ◌++◌, length, unwrap_or, Option, Some, None, refl, ap, sym, ◌∙◌}
use Rattle.std.specs.Option.{option_and_then, option_to_list}
use Rattle.std.proofs.lemmas.Bool.{not-true}
use Rattle.satip_base.specs.Lists.{Has, Each}
use Rattle.satip_plain.specs.declared.setting.Setting.{Setting}
use Rattle.satip_plain.specs.declared.events.Event.{Event}
use Rattle.satip_plain.specs.declared.events.Event.TheVariants.{Request as Asked, Get as Got, Tick, Packet, Ended, Ask, Pull, Close, Stop}
use Rattle.satip_rtsp.specs.Methods.{is_setup, names_none}
use Rattle.satip_plain.specs.Types.{Config}
use Rattle.satip_plain.specs.State.{State}
use Rattle.satip_plain.specs.Steps.{step}
use Rattle.satip_plain.specs.Values.{IsEvent}
use Rattle.satip_plain.specs.Histories.{Item, Legal, LegalFrom, Fits, opening, after, after_from}
use Rattle.satip_plain.specs.Readings.{Made, Readings, living, living_session, home_of_number, next_made, is_accepted, made_by, any_where, makes, ends, nothing_read, read_one, read_from, readings}
use Rattle.satip_laws.proofs.Finding.{filter_has, has_filter, has_left, has_parts}
use Rattle.satip_laws.proofs.Agree.{IsTold, Agrees, living_found}
use Rattle.satip_laws.proofs.Law.{agrees_after}

pub read_more : (c : Config) (h : List Item) (e : Item) (g : Readings) → read_from c g (h ++ e ∷ []) ≡ read_one c (read_from c g h) e
read_more c [] e g = refl
read_more c (x ∷ h) e g = read_more c h e (read_one c g x)

pub after_more : (c : Config) (h : List Item) (e : Item) (st : State) → after_from c st (h ++ e ∷ []) ≡ (step c (after_from c st h) e.event).state
after_more c [] e st = refl
after_more c (x ∷ h) e st = after_more c h e (step c st x.event).state

entries_parts : (c : Config) (h : List Item) (e : Item) (st : State) → LegalFrom c st (h ++ e ∷ [])
    → LegalFrom c st h × Fits (step c (after_from c st h) e.event) e
entries_parts c [] e st legal = (tt, legal.0)
entries_parts c (x ∷ h) e st legal = let r = entries_parts c h e (step c st x.event).state legal.1 in ((legal.0, r.0), r.1)

events_parts : (h : List Item) (e : Item) → Each (λ x. IsEvent x.event) (h ++ e ∷ []) → Each (λ x. IsEvent x.event) h × IsEvent e.event
events_parts [] e each = (tt, each.0)
events_parts (x ∷ h) e each = let r = events_parts h e each.1 in ((each.0, r.0), r.1)

-- the history before the entry is legal, and the entry is what its event does there
pub record IsLatest (c : Setting) (h : List Item) (e : Item) : Type 0 where
  pub before : Legal c h
  pub event : IsEvent e.event
  pub fits : Fits (step c.config (after c h) e.event) e
  pub agrees : Agrees c.config (after c h) (readings c h)
  pub state : after c (h ++ e ∷ []) ≡ (step c.config (after c h) e.event).state
  pub read : readings c (h ++ e ∷ []) ≡ read_one c.config (readings c h) e

pub latest : (c : Setting) (h : List Item) (e : Item) → Legal c (h ++ e ∷ []) → IsLatest c h e
latest c h e legal =
    let entries = entries_parts c.config h e (opening c) legal.entries in
    let events = events_parts h e legal.events in
    let before : Legal c h = record { servable = legal.servable; setting = legal.setting; events = events.0; entries = entries.0 } in
    record {
      before = before;
      event = events.1;
      fits = entries.1;
      agrees = agrees_after c h before;
      state = after_more c.config h e (opening c);
      read = read_more c.config h e (nothing_read c);
    }

-- who lives after one more entry

ended_here : (c : Config) (g : Readings) (e : Item) → IsTold g → (m : Made) → Has m (living g) → any_where (ends c g e) (living_session g m.id) ≡ ends c g e m
ended_here c g e told m h = ap (any_where (ends c g e)) (living_found g told m h)

pub lives_on : (c : Config) (g : Readings) (e : Item) → IsTold g → (m : Made) → Has m (living g) → ends c g e m ≡ false → Has m (living (read_one c g e))
lives_on c g e told m h stays =
    let there = filter_has (λ n. not (g.over n.id)) g.made m h in
    has_filter (λ n. not (g.over n.id || any_where (ends c g e) (living_session g n.id))) (g.made ++ option_to_list (makes g e)) m
    (has_left m g.made (option_to_list (makes g e)) there.0)
    (by (g.over m.id) (not-true (g.over m.id) there.1) (ended_here c g e told m h ∙ stays))
  where
    by : (b : Bool) → b ≡ false → any_where (ends c g e) (living_session g m.id) ≡ false → not (b || any_where (ends c g e) (living_session g m.id)) ≡ true
    by b f k = rw (f, k) refl

pub lived_before : (c : Config) (g : Readings) (e : Item) → IsTold g → (m : Made) → Has m (living (read_one c g e))
    → (Has m (living g) × (ends c g e m ≡ false)) ⊎ (makes g e ≡ Some m)
lived_before c g e told m h = by (has_parts m g.made (option_to_list (makes g e)) there.0)
  where
    there : Has m (g.made ++ option_to_list (makes g e)) × (not (g.over m.id || any_where (ends c g e) (living_session g m.id)) ≡ true)
    there = filter_has (λ n. not (g.over n.id || any_where (ends c g e) (living_session g n.id))) (g.made ++ option_to_list (makes g e)) m h

    parts : (a b : Bool) → not (a || b) ≡ true → (not a ≡ true) × (b ≡ false)
    parts true b k = cc
    parts false true k = cc
    parts false false k = (refl, refl)

    made : (o : Option Made) → Has m (option_to_list o) → o ≡ Some m
    made None k = absurd k
    made (Some n) (inl same) = ap Some (sym same)
    made (Some n) (inr k) = absurd k

    by : Has m g.made ⊎ Has m (option_to_list (makes g e)) → (Has m (living g) × (ends c g e m ≡ false)) ⊎ (makes g e ≡ Some m)
    by (inl k) =
        let p = parts (g.over m.id) (any_where (ends c g e) (living_session g m.id)) there.1 in
        let lives : Has m (living g) = has_filter (λ n. not (g.over n.id)) g.made m k p.0 in
        inl (lives, sym (ended_here c g e told m lives) ∙ p.1)
    by (inr k) = inr (made (makes g e) k)

-- a session that an entry makes is new
pub makes_new : (g : Readings) (e : Item) (m : Made) → makes g e ≡ Some m → m.id.count ≡ length g.made + 1
makes_new g e m is = by e.event (is_accepted e.answer) is
  where
    asked : (b : Bool) (x : Made) → cond b (Some x) None ≡ Some m → x.id.count ≡ length g.made + 1 → m.id.count ≡ length g.made + 1
    asked true x k f = let same : x ≡ m = cc in ap (λ y. y.id.count) (sym same) ∙ f
    asked false x k f = cc

    none : (b : Bool) → cond {A = Option Made} b None None ≡ Some m → m.id.count ≡ length g.made + 1
    none true k = cc
    none false k = cc

    twice : (a b : Bool) (x : Made) → cond a (cond b (Some x) None) None ≡ Some m → x.id.count ≡ length g.made + 1 → m.id.count ≡ length g.made + 1
    twice true b x k f = asked b x k f
    twice false b x k f = cc

    by : (event : Event) (b : Bool) → cond b (made_by g event) None ≡ Some m → m.id.count ≡ length g.made + 1
    by (Asked peer draw r) b k = twice b (is_setup r.method && names_none r.session)
        (record {
          id = next_made g draw.word;
          http = false;
          home = unwrap_or (option_and_then (home_of_number g) r.stream) (next_made g draw.word);
          draw = draw;
        }) k refl
    by (Got peer draw r) b k = asked b (record { id = next_made g draw.word; http = true; home = next_made g draw.word; draw = draw }) k refl
    by (Tick now) b k = none b k
    by (Packet front tune packet) b k = none b k
    by (Ended front tune) b k = none b k
    by (Ask front) b k = none b k
    by (Pull id) b k = none b k
    by (Close id) b k = none b k
    by Stop b k = none b k
