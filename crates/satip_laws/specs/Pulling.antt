-- The packets that HTTP sessions were handed.
use Rattle.std.specs.Prelude.{◌≡◌, ◌≤◌, ◌+◌, true, List, length}
use Rattle.satip_base.specs.Lists.{Has, Begins}
use Rattle.satip_plain.specs.declared.setting.Setting.{Setting}
use Rattle.satip_plain.specs.Steps.{most_queued}
use Rattle.satip_plain.specs.Histories.{Item, Legal}
use Rattle.satip_plain.specs.Readings.{Made, Readings, living, readings}

-- the pulls of a session took a prefix of what was selected for it, at most 4096 packets shorter while it lives
pub record IsPulledInOrder (g : Readings) (m : Made) : Type 0 where
  pub begins : Begins (g.pulled m.id) (g.selected m.id)
  pub near : Has m (living g) → length (g.selected m.id) ≤ length (g.pulled m.id) + most_queued

-- the pull law: this holds of each HTTP session that was created
abbrev pub PullsInOrder : Type 0
PullsInOrder = (c : Setting) (h : List Item) (m : Made) → Legal c h → Has m (readings c h).made → m.http ≡ true → IsPulledInOrder (readings c h) m
