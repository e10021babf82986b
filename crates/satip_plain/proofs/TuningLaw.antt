-- That the comparison of tunings is equality.
use Rattle.std.proofs.Common.{◌≡◌, ℕ, ◌&&◌, nat_eq, Bool, List, Option, Some, None, refl, ap, sym, ◌∙◌}
use Rattle.std.specs.Bool.{Decides}
use Rattle.std.specs.Option.{option_eq}
use Rattle.std.proofs.lemmas.Bool.{and_parts, and_from}
use Rattle.std.proofs.lemmas.Bool.Decides.{Decides-eqb}
use Rattle.std.proofs.lemmas.Slice.Eq.{bytes_eq-Decides}
use Rattle.std.proofs.lemmas.Option.{same_Some}
use Rattle.satip_tune.specs.declared.signal.Pol.{Pol}
use Rattle.satip_tune.specs.declared.signal.System.{System}
use Rattle.satip_tune.specs.declared.signal.Modulation.{Modulation}
use Rattle.satip_tune.specs.declared.signal.RollOff.{RollOff}
use Rattle.satip_tune.specs.declared.signal.Fec.{Fec}
use Rattle.satip_tune.specs.Words.{pol_text, system_text, modulation_text, roll_off_text, fec_text, pilots_text_of, pol_named, system_named, modulation_named, roll_off_named, fec_named, pilots_named_of}
use Rattle.satip_tune.proofs.WordLaws.{pol_printed, system_printed, modulation_printed, roll_off_printed, fec_printed, pilots_printed}
use Rattle.satip_plain.specs.Types.{Tuning}
use Rattle.satip_plain.specs.SameTuning.{same_by}
use Rattle.satip_plain.specs.Laws.{TuningEqIsEquality}

decides_and : {P Q : Type 0} (r s : Bool) → Decides r P → Decides s Q → Decides (r && s) (P × Q)
decides_and r s p q = ((λ e. (p.0 (and_parts r s e).0, q.0 (and_parts r s e).1)), (λ f. and_from r s (p.1 f.0) (q.1 f.1)))

-- what is given is the same where the options are
-- words that are read back as their values are the same where their texts are
same_by-decides : {X : Type 0} (text : X → List ℕ) (named : List ℕ → Option X) → ((x : X) → named (text x) ≡ Some x) → (x y : X)
    → Decides (same_by text x y) (x ≡ y)
same_by-decides text named printed x y = (
  (λ e. same_Some x y (sym (printed x) ∙ ap named ((bytes_eq-Decides (text x) (text y)).0 e) ∙ printed y)),
  (λ e. (bytes_eq-Decides (text x) (text y)).1 (ap text e)),
)

option_eq-decides : {X : Type 0} (E : X → X → Bool) → ((x y : X) → Decides (E x y) (x ≡ y)) → (a b : Option X) → Decides (option_eq E a b) (a ≡ b)
option_eq-decides E d None None = ((λ e. refl), (λ e. refl))
option_eq-decides E d None (Some y) = ((λ e. cc), (λ e. cc))
option_eq-decides E d (Some x) None = ((λ e. cc), (λ e. cc))
option_eq-decides E d (Some x) (Some y) = ((λ e. ap Some ((d x y).0 e)), (λ e. (d x y).1 (same_Some x y e)))

-- tunings with the same fields are the same
same_fields : (a b : Tuning)
    → ((((((((((a.fe ≡ b.fe) × (a.src ≡ b.src)) × (a.freq ≡ b.freq)) × (a.pol ≡ b.pol)) × (a.ro ≡ b.ro)) × (a.msys ≡ b.msys)) × (a.mtype ≡ b.mtype))
    × (a.plts ≡ b.plts)) × (a.sr ≡ b.sr)) × (a.fec ≡ b.fec)) → a ≡ b
same_fields a b same =
    let with_fe : Option ℕ → Tuning =
    λ x. record { fe = x; src = a.src; freq = a.freq; pol = a.pol; ro = a.ro; msys = a.msys; mtype = a.mtype; plts = a.plts; sr = a.sr; fec = a.fec } in
    let with_src : ℕ → Tuning =
    λ x. record { fe = b.fe; src = x; freq = a.freq; pol = a.pol; ro = a.ro; msys = a.msys; mtype = a.mtype; plts = a.plts; sr = a.sr; fec = a.fec } in
    let with_freq : ℕ → Tuning =
    λ x. record { fe = b.fe; src = b.src; freq = x; pol = a.pol; ro = a.ro; msys = a.msys; mtype = a.mtype; plts = a.plts; sr = a.sr; fec = a.fec } in
    let with_pol : Pol → Tuning =
    λ x. record { fe = b.fe; src = b.src; freq = b.freq; pol = x; ro = a.ro; msys = a.msys; mtype = a.mtype; plts = a.plts; sr = a.sr; fec = a.fec } in
    let with_ro : Option RollOff → Tuning =
    λ x. record { fe = b.fe; src = b.src; freq = b.freq; pol = b.pol; ro = x; msys = a.msys; mtype = a.mtype; plts = a.plts; sr = a.sr; fec = a.fec } in
    let with_msys : System → Tuning =
    λ x. record { fe = b.fe; src = b.src; freq = b.freq; pol = b.pol; ro = b.ro; msys = x; mtype = a.mtype; plts = a.plts; sr = a.sr; fec = a.fec } in
    let with_mtype : Option Modulation → Tuning =
    λ x. record { fe = b.fe; src = b.src; freq = b.freq; pol = b.pol; ro = b.ro; msys = b.msys; mtype = x; plts = a.plts; sr = a.sr; fec = a.fec } in
    let with_plts : Option Bool → Tuning =
    λ x. record { fe = b.fe; src = b.src; freq = b.freq; pol = b.pol; ro = b.ro; msys = b.msys; mtype = b.mtype; plts = x; sr = a.sr; fec = a.fec } in
    let with_sr : ℕ → Tuning =
    λ x. record { fe = b.fe; src = b.src; freq = b.freq; pol = b.pol; ro = b.ro; msys = b.msys; mtype = b.mtype; plts = b.plts; sr = x; fec = a.fec } in
    let with_fec : Option Fec → Tuning =
    λ x. record { fe = b.fe; src = b.src; freq = b.freq; pol = b.pol; ro = b.ro; msys = b.msys; mtype = b.mtype; plts = b.plts; sr = b.sr; fec = x } in
    ap with_fe same.0.0.0.0.0.0.0.0.0 ∙ ap with_src same.0.0.0.0.0.0.0.0.1 ∙ ap with_freq same.0.0.0.0.0.0.0.1 ∙ ap with_pol same.0.0.0.0.0.0.1
    ∙ ap with_ro same.0.0.0.0.0.1 ∙ ap with_msys same.0.0.0.0.1 ∙ ap with_mtype same.0.0.0.1 ∙ ap with_plts same.0.0.1 ∙ ap with_sr same.0.1
    ∙ ap with_fec same.1

fields_same : (a b : Tuning) → a ≡ b
    → ((((((((((a.fe ≡ b.fe) × (a.src ≡ b.src)) × (a.freq ≡ b.freq)) × (a.pol ≡ b.pol)) × (a.ro ≡ b.ro)) × (a.msys ≡ b.msys)) × (a.mtype ≡ b.mtype))
    × (a.plts ≡ b.plts)) × (a.sr ≡ b.sr)) × (a.fec ≡ b.fec))
fields_same a b e =
    let fe_of : Tuning → Option ℕ = λ t. t.fe in
    let src_of : Tuning → ℕ = λ t. t.src in
    let freq_of : Tuning → ℕ = λ t. t.freq in
    let pol_of : Tuning → Pol = λ t. t.pol in
    let ro_of : Tuning → Option RollOff = λ t. t.ro in
    let msys_of : Tuning → System = λ t. t.msys in
    let mtype_of : Tuning → Option Modulation = λ t. t.mtype in
    let plts_of : Tuning → Option Bool = λ t. t.plts in
    let sr_of : Tuning → ℕ = λ t. t.sr in
    let fec_of : Tuning → Option Fec = λ t. t.fec in
    (((((((((ap fe_of e, ap src_of e), ap freq_of e), ap pol_of e), ap ro_of e), ap msys_of e), ap mtype_of e), ap plts_of e), ap sr_of e), ap fec_of e)

pub tuning_eq_decides : TuningEqIsEquality
tuning_eq_decides a b =
    let fe = option_eq-decides nat_eq (λ x y. Decides-eqb x y) a.fe b.fe in
    let src = decides_and _ _ fe (Decides-eqb a.src b.src) in
    let freq = decides_and _ _ src (Decides-eqb a.freq b.freq) in
    let pol = decides_and _ _ freq (same_by-decides pol_text pol_named pol_printed a.pol b.pol) in
    let roll_offs = same_by-decides roll_off_text roll_off_named roll_off_printed in
    let ro = decides_and _ _ pol (option_eq-decides (same_by roll_off_text) roll_offs a.ro b.ro) in
    let msys = decides_and _ _ ro (same_by-decides system_text system_named system_printed a.msys b.msys) in
    let modulations = same_by-decides modulation_text modulation_named modulation_printed in
    let mtype = decides_and _ _ msys (option_eq-decides (same_by modulation_text) modulations a.mtype b.mtype) in
    let pilots = same_by-decides pilots_text_of pilots_named_of pilots_printed in
    let plts = decides_and _ _ mtype (option_eq-decides (same_by pilots_text_of) pilots a.plts b.plts) in
    let sr = decides_and _ _ plts (Decides-eqb a.sr b.sr) in
    let fecs = same_by-decides fec_text fec_named fec_printed in
    let each = decides_and _ _ sr (option_eq-decides (same_by fec_text) fecs a.fec b.fec) in
    ((λ e. same_fields a b (each.0 e)), (λ e. each.1 (fields_same a b e)))
