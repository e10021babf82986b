-- The ending law.
use Rattle.std.proofs.Common.{arith, ◌≡◌, ◌⊎◌, inl, inr, not, true, false, Some, ap, sym, ◌∙◌}
use Rattle.std.specs.List.{list_any}
use Rattle.std.proofs.lemmas.Bool.{not-true}
use Rattle.satip_plain.proofs.SameIds.{same_id_is}
use Rattle.satip_base.specs.Lists.{Has}
use Rattle.satip_plain.specs.Types.{SessionId, Config}
use Rattle.satip_plain.specs.State.{State, same_id}
use Rattle.satip_plain.specs.Steps.{step}
use Rattle.satip_plain.specs.Histories.{Item, Fits}
use Rattle.satip_plain.specs.Values.{IsEvent}
use Rattle.satip_plain.specs.Readings.{Made, Readings, living, living_session, any_where, makes, ends, read_one, readings}
use Rattle.satip_laws.specs.Ending.{lives_in, is_ended_by, EndsByItsCauses}
use Rattle.satip_laws.proofs.SameTests.{same_bool}
use Rattle.satip_laws.proofs.Finding.{any_has, has_any}
use Rattle.satip_laws.proofs.Agree.{Agrees, alike_any, living_found}
use Rattle.satip_laws.proofs.Steps.{agrees_step}
use Rattle.satip_laws.proofs.Latest.{latest, lives_on, lived_before, makes_new}

lives_read : (c : Config) (st : State) (g : Readings) (s : SessionId) → Agrees c st g → list_any (λ m. same_id m.id s) (living g) ≡ lives_in st s
lives_read c st g s a = alike_any g (λ m. same_id m.id s) (λ x. same_id x.id s) (living g) st.sessions (λ m x h e. ap (λ i. same_id i s) (sym e.id))
    a.loosely.sessions

ends_here : (c : Config) (st : State) (g : Readings) (e : Item) (s : SessionId) → IsEvent e.event → Fits (step c st e.event) e → Agrees c st g
    → lives_in st s ≡ true
    → lives_in (step c st e.event).state s ≡ not (is_ended_by c g e s)
ends_here c st g e s is fits a lives = sym (lives_read c (step c st e.event).state (read_one c g e) s (agrees_step c st g e is fits a))
    ∙ same_bool (list_any (λ m. same_id m.id s) (living (read_one c g e))) (not (is_ended_by c g e s)) there back
  where
    one : (m : Made) × Has m (living g) × (same_id m.id s ≡ true)
    one = any_has (λ m. same_id m.id s) (living g) (lives_read c st g s a ∙ lives)

    found : (m : Made) → Has m (living g) → m.id ≡ s → is_ended_by c g e s ≡ ends c g e m
    found m h e_id = ap (any_where (ends c g e)) (ap (living_session g) (sym e_id) ∙ living_found g a.loosely.told m h)

    stays : (m : Made) → m.id ≡ s → (Has m (living g) × (ends c g e m ≡ false)) ⊎ (makes g e ≡ Some m) → not (is_ended_by c g e s) ≡ true
    stays m i (inl p) = ap not (found m p.0 i ∙ p.1)
    stays m i (inr made) =
        let few = a.loosely.told.few one.0 one.1 in
        let new = makes_new g e m made in
        let same : m.id.count ≡ one.0.id.count = ap (λ x. x.count) (i ∙ sym (same_id_is one.0.id s one.2)) in absurd (omega (arith, few, new, same))

    there : list_any (λ m. same_id m.id s) (living (read_one c g e)) ≡ true → not (is_ended_by c g e s) ≡ true
    there t = let r = any_has (λ m. same_id m.id s) (living (read_one c g e)) t in
        stays r.0 (same_id_is r.0.id s r.2) (lived_before c g e a.loosely.told r.0 r.1)

    back : not (is_ended_by c g e s) ≡ true → list_any (λ m. same_id m.id s) (living (read_one c g e)) ≡ true
    back t = has_any (λ m. same_id m.id s) (living (read_one c g e)) one.0
        (lives_on c g e a.loosely.told one.0 one.1 (sym (found one.0 one.1 (same_id_is one.0.id s one.2)) ∙ not-true (is_ended_by c g e s) t)) one.2

pub ends_by_its_causes : EndsByItsCauses
ends_by_its_causes c h e s legal lives =
    let l = latest c h e legal in
    ap (λ st. lives_in st s) l.state ∙ ends_here c.config _ (readings c h) e s l.event l.fits l.agrees lives
