-- The server, as contracts see it.
use Rattle.satip_plain.specs.declared.setting.Setting.{Setting}
use Rattle.satip_state.specs.Kept.{Kept}

-- its setting, and the contents of its parts
pub record Held : Type 0 where
  pub setting : Setting
  pub kept : Kept
