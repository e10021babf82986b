-- The view of a service of one thread.
use Rattle.satip_solo.specs.declared.solo.Solo.{Solo}
use Rattle.satip_solo.specs.Log.{Log}

-- the log of a service
abbrev pub log_of : Solo → Log
log_of s = s.history
