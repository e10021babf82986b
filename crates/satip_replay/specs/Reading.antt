-- Reading a source to its end.
pub use Rattle.satip_config.specs.Reading.{Read, GetsAtMost}
