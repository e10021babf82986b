-- The proofs of the laws.
use Rattle.std.proofs.Common.{List, [], ◌∷◌, ◌++◌, refl}
use Rattle.satip_base.specs.Lists.{Each}
use Rattle.satip_plain.specs.Laws.{RefusedChangesNothing, RefusedGetChangesNothing, StaleChangesNothing, GoneChangesNothing, EmptyOnlyHears, PrefixIsLegal}
use Rattle.satip_plain.specs.Types.{Config}
use Rattle.satip_plain.specs.State.{State}
use Rattle.satip_plain.specs.Steps.{step}
use Rattle.satip_plain.specs.Values.{IsEvent}
use Rattle.satip_plain.specs.Histories.{Item, LegalFrom}

pub refused_same : RefusedChangesNothing
refused_same c st peer draw r refused e = rw e (record { state = refl; sent = refl })

pub refused_get_same : RefusedGetChangesNothing
refused_get_same c st peer draw r refused e = rw e (record { state = refl; sent = refl })

pub stale_same : StaleChangesNothing
stale_same c st front tune packet e = rw e (record { state = refl; sent = refl })

pub gone_same : GoneChangesNothing
gone_same c st id e = rw e (record { state = refl; sent = refl }, record { state = refl; sent = refl })

pub empty_heard : EmptyOnlyHears
empty_heard c st id s e none = rw (e, none) (record { state = refl; sent = refl })

entries_prefix : (c : Config) (h k : List Item) (st : State) → LegalFrom c st (h ++ k) → LegalFrom c st h
entries_prefix c [] k st legal = tt
entries_prefix c (e ∷ h) k st legal = (legal.0, entries_prefix c h k (step c st e.event).state legal.1)

events_prefix : (h k : List Item) → Each (λ e. IsEvent e.event) (h ++ k) → Each (λ e. IsEvent e.event) h
events_prefix [] k each = tt
events_prefix (e ∷ h) k each = (each.0, events_prefix h k each.1)

pub prefix_legal : PrefixIsLegal
prefix_legal c h k legal = record {
  servable = legal.servable;
  setting = legal.setting;
  events = events_prefix h k legal.events;
  entries = entries_prefix c.config h k _ legal.entries;
}
