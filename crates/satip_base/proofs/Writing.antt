-- Texts that are written piece by piece.
use Rattle.std.proofs.Common.{◌≡◌, ℕ, ◌+◌, ◌*◌, ◌^◌, ◌<◌, ◌≤◌, ◌/◌, ◌%◌, List, [], ◌∷◌, ◌++◌, append-nil, length, length-append, append_assoc, arith, refl, sym, ◌∙◌, ap}
use Rattle.satip_base.specs.declared.network.Address.{Address}
use Rattle.satip_base.specs.Output.{Output, Datagram, Wrote, Sends, Extended, extended}
use Rattle.satip_base.specs.Printed.{Printed}

-- one text after another is written to a reply
infixl 20 ◌then◌
pub ◌then◌ : {o m n : Output} {a b : List ℕ} → Wrote o a m → Wrote m b n → Wrote o (a ++ b) n
◌then◌ {o = o} {a = a} {b = b} first second = record {
  reply = rw (second.reply, first.reply) (append_assoc o.reply a b);
  reply_spare = omega (arith, length-append {A = ℕ}, first.reply_spare, second.reply_spare);
  datagrams = second.datagrams ∙ first.datagrams;
  datagram_spare = second.datagram_spare ∙ first.datagram_spare;
  count_spare = second.count_spare ∙ first.count_spare;
}

-- writing nothing changes nothing
pub nothing_wrote : (o : Output) → Wrote o [] o
nothing_wrote o = record {
  reply = sym (append-nil o.reply);
  reply_spare = omega arith;
  datagrams = refl;
  datagram_spare = refl;
  count_spare = refl;
}

-- bytes appended to the last datagram, where it is the one behind others
extended_pushed : (ds : List Datagram) (to : Address) (a b : List ℕ)
    → extended (ds ++ record { to = to; bytes = a } ∷ []) b ≡ ds ++ record { to = to; bytes = a ++ b } ∷ []
extended_pushed [] to a b = refl
extended_pushed (d ∷ []) to a b = refl
extended_pushed (d ∷ e ∷ ds) to a b = ap (λ (rest : List Datagram). d ∷ rest) (extended_pushed (e ∷ ds) to a b)

-- bytes appended twice
extended_twice : (ds : List Datagram) (a b : List ℕ) → extended (extended ds a) b ≡ extended ds (a ++ b)
extended_twice [] a b = refl
extended_twice (d ∷ []) a b = rw append_assoc refl
extended_twice (d ∷ e ∷ []) a b = rw append_assoc refl
extended_twice (d ∷ e ∷ f ∷ ds) a b = ap (λ (rest : List Datagram). d ∷ rest) (extended_twice (e ∷ f ∷ ds) a b)

-- a datagram is begun, and bytes are appended to it
infixl 20 ◌then_extended◌
pub ◌then_extended◌ : {o m n : Output} {to : Address} {a b : List ℕ} → Sends o to a m → Extended m b n → Sends o to (a ++ b) n
first then_extended second = record {
  datagrams = second.datagrams ∙ (rw first.datagrams (extended_pushed _ _ _ _));
  datagram_spare = omega (arith, length-append {A = ℕ}, first.datagram_spare, second.datagram_spare);
  count_spare = omega (arith, first.count_spare, second.count_spare);
  reply = second.reply ∙ first.reply;
  reply_spare = second.reply_spare ∙ first.reply_spare;
}

-- bytes are appended to the last datagram, and then further ones
infixl 20 ◌and_extended◌
pub ◌and_extended◌ : {o m n : Output} {a b : List ℕ} → Extended o a m → Extended m b n → Extended o (a ++ b) n
first and_extended second = record {
  datagrams = second.datagrams ∙ (rw first.datagrams (extended_twice _ _ _));
  count = second.count ∙ first.count;
  datagram_spare = omega (arith, length-append {A = ℕ}, first.datagram_spare, second.datagram_spare);
  count_spare = second.count_spare ∙ first.count_spare;
  reply = second.reply ∙ first.reply;
  reply_spare = second.reply_spare ∙ first.reply_spare;
}

-- one text after another is printed onto a strip
infixl 20 ◌then_printed◌
pub ◌then_printed◌ : {o m n : List ℕ} {a b : List ℕ} → Printed o a m → Printed m b n → Printed o (a ++ b) n
◌then_printed◌ {o = o} {a = a} {b = b} first second = record {
  bytes = rw (second.bytes, first.bytes) (append_assoc o a b);
  count = omega (arith, length-append {A = ℕ}, first.count, second.count);
}

-- printing nothing changes nothing
pub nothing_printed : (o : List ℕ) → Printed o [] o
nothing_printed o = record { bytes = sym (append-nil o); count = omega arith }

-- what the pieces of an address need
pub ruleset address_steps = (length-append)
