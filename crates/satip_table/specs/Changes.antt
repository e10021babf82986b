-- Changes of a living session.
use Rattle.satip_table.specs.declared.session.Session.{Session}
use Rattle.satip_table.specs.declared.session.Change.{Change}
use Rattle.satip_table.specs.declared.session.Change.TheVariants.{Heard, Playing, Address, Reported}
use Rattle.satip_table.specs.Sessions.{heard_at, moved_to, played, reported_at}

-- the session after this change
abbrev pub changed_by : Change → Session → Session
changed_by (Heard now) = heard_at now
changed_by Playing = played
changed_by (Address peer ports) = moved_to peer ports
changed_by (Reported now) = reported_at now
