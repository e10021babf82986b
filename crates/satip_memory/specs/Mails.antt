-- The datagrams that an inlet over memory keeps.
use Rattle.std.specs.Prelude.{ℕ, List}
use Rattle.satip_memory.specs.declared.inlet.Mail.{Mail}

-- the bytes of a datagram
abbrev pub bytes_of : Mail → List ℕ
bytes_of mail = mail.bytes.items
