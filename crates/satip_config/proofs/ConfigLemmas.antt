-- What a configuration that is read gives, and one that is too long.
use Rattle.std.proofs.Common.{◌≡◌, ℕ, ◌+◌, ◌<◌, List, [], ◌∷◌, length, map, Err, refl, ap, subst, arith, inr, length-append}
use Rattle.std.specs.List.{range_with_len}
use Rattle.std.proofs.lemmas.Bool.Decides.{nat_tests}
use Rattle.satip_base.specs.Streams.{Feed}
use Rattle.satip_tune.specs.declared.frontends.Front.{Front}
use Rattle.satip_fronts.specs.FrontEnds.{IsNumbered}
use Rattle.satip_config.specs.declared.fault.ConfigFault.TheVariants.{Long}
use Rattle.satip_config.specs.Config.{config}
use Rattle.satip_config.specs.declared.whole.ReadFault.{ReadFault}
use Rattle.satip_config.specs.declared.whole.ReadFault.TheVariants.{TooLong}
use Rattle.satip_config.specs.Reading.{EndsTooLong, ReadFails}
use Rattle.satip_config.specs.Configurations.{configuration_limit}
use Rattle.satip_config.specs.Configurations.{Refused}

-- front ends whose numbers are a range are numbered in order
pub numbered_from : (from : ℕ) (fronts : List Front) → map (λ (f : Front). f.number) fronts ≡ range_with_len from (length fronts) → IsNumbered from fronts
numbered_from from [] is = tt
numbered_from from (front ∷ fronts) is = (cc, numbered_from (from + 1) fronts (cc))

-- a text above the limit is too long
long_text : (text : List ℕ) → 1048576 < length text → config text ≡ Err Long
unfolding config
long_text text long = grind (arith, nat_tests)

refused_long : (tells : Type 0) (a b : Feed) → EndsTooLong tells a b configuration_limit → Refused tells a b Long
refused_long tells a b ends = record {
  text = ends.text;
  read = ends.read;
  refused = long_text ends.text (omega (arith, ends.long));
  whole = λ told. long_text a.left (omega (arith, ends.long, ap (λ (t : List ℕ). length t) (ends.read.content told), length-append ends.text b.left));
  known = λ is. cc;
  ending = inr refl;
  faults = ends.faults;
}

pub too_long : (tells : Type 0) (a b : Feed) (fault : ReadFault) → fault ≡ TooLong → ReadFails tells a b configuration_limit fault → Refused tells a b Long
too_long tells a b fault is ends =
    refused_long tells a b (subst (λ (f : ReadFault). ReadFails tells a b configuration_limit f) is ends)
