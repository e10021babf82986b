-- The answer to a pull for which a flow moved `moved` packets and wrote `bytes` bytes.
use Rattle.std.specs.Prelude.{ℕ, ◌==◌, Option, None, Some, if◌then◌else◌}
use Rattle.satip_plain.specs.declared.answers.Pulled.{Pulled}
use Rattle.satip_plain.specs.declared.answers.Pulled.TheVariants.{Bytes, Empty, Gone}

abbrev pub pulled_is : Option ℕ → ℕ → Pulled
pulled_is None bytes = Gone
pulled_is (Some moved) bytes = if moved == 0 then Empty else Bytes bytes
