-- The datagrams that an outlet over memory keeps.
use Rattle.satip_base.specs.Output.{Datagram}
use Rattle.satip_memory.specs.declared.outlet.Mail.{Mail}

-- a datagram that an outlet keeps
abbrev pub datagram_of : Mail → Datagram
datagram_of mail = record { to = mail.to; bytes = mail.bytes.items }
