-- Bytes and datagrams that are read into an output one after another.
use Rattle.std.proofs.Common.{◌≡◌, ℕ, zero, suc, ◌+◌, ◌-◌, ◌≤◌, ◌<◌, List, [], ◌∷◌, ◌++◌, append-nil, append_assoc, length, length-append, flat_map, take, drop, add-one, Bool, true, false, nat_le, if◌then◌else◌, Option, Some, None, arith, refl, sym, ◌∙◌, ap, subst}
use Rattle.std.proofs.lemmas.Grind.{flat_map-append}
use Rattle.std.proofs.lemmas.List.{length-drop, length-take-le, take-append-drop}
use Rattle.satip_base.specs.declared.network.Address.{Address}
use Rattle.satip_base.specs.Output.{Datagram, Output, Sends, Wrote, Extended}
use Rattle.satip_base.proofs.Writing.{◌then◌, ◌then_extended◌, nothing_wrote}
use Rattle.satip_entry_writer.specs.Fields.{u8_text, u16_text, u32_text}
use Rattle.satip_entry_reader.specs.Reading.{u8_read, u16_read, u32_read, then_read}
use Rattle.satip_entry_reader.specs.ReadingAnswers.{answer_read}
use Rattle.satip_plain.specs.declared.events.Event.{Event}
use Rattle.satip_plain.specs.declared.answers.Answer.{Answer}
use Rattle.satip_base.specs.declared.limits.TheConstants.{REPLY_BYTES, EVENT_BYTES, EVENT_DATAGRAMS}
use Rattle.std.specs.Bool.{MatchBool}
use Rattle.std.proofs.lemmas.Option.{same_Some}
use Rattle.std.proofs.lemmas.Bool.Decides.{nat_tests}
use Rattle.satip_entry_writer.specs.Records.{datagram_text}
use Rattle.satip_entry_reader.specs.ReadingLists.{read_bytes}
use Rattle.satip_entry_reader.specs.ReadingEvents.{event_read}
use Rattle.satip_entry_reader.specs.ReadingEntries.{Entry, read_address, read_counted, datagram_read, read_datagram_list, datagrams_read, entry_read}
use Rattle.satip_entry_reader.specs.Taking.{TakesDatagram, TakesDatagrams, TakesPayload, TakesReply}
use Rattle.satip_entry_reader.proofs.Loops.{behind_none, behind_one, too_few, whole}
use Rattle.satip_entry_reader.proofs.ListsAgain.{within}

taken_by : (b : Bool) (count : ℕ) (o t n : List ℕ) → nat_le count (length o) ≡ b
    → ◌≡◌ {A = Option (List ℕ × List ℕ)} (Some (t, n)) (if b then Some (take count o, drop count o) else None)
    → (count ≤ length o) × (t ≡ take count o) × (n ≡ drop count o)
taken_by true count o t n le e =
    let pair : (t, n) ≡ (take count o, drop count o) = same_Some _ _ e in
    (grind (arith, nat_tests, le), ap (λ (x : List ℕ × List ℕ). x.0) pair, ap (λ (x : List ℕ × List ℕ). x.1) pair)
taken_by false count o t n le e = absurd (cc e)

-- bytes that are read are the first
taken_is : (count : ℕ) (o t n : List ℕ) → Some (t, n) ≡ read_bytes count o → (count ≤ length o) × (t ≡ take count o) × (n ≡ drop count o)
unfolding read_bytes
taken_is count o t n e = taken_by (nat_le count (length o)) count o t n refl e

none_by : (b : Bool) (count : ℕ) (o : List ℕ) → nat_le count (length o) ≡ b
    → ◌≡◌ {A = Option (List ℕ × List ℕ)} None (if b then Some (take count o, drop count o) else None)
    → length o < count
none_by true count o le e = absurd (cc e)
none_by false count o le e = grind (arith, nat_tests, le)

-- where so many bytes aren't read, there are fewer
pub few_bytes : (count : ℕ) (o : List ℕ) → None ≡ read_bytes count o → length o < count
unfolding read_bytes
few_bytes count o e = none_by (nat_le count (length o)) count o refl e

pub reply_taken : {p q : Output} (count : ℕ) (o t n : List ℕ) → Some (t, n) ≡ read_bytes count o → Wrote p t q → TakesReply count o n p q
reply_taken {p = p} {q = q} count o t n e wrote =
    let is = taken_is count o t n e in
    record { fits = is.0; rest = is.2; wrote = subst (λ x. Wrote p x q) is.1 wrote }

pub payload_taken : {p q : Output} (to : Address) (count : ℕ) (o t n : List ℕ) → Some (t, n) ≡ read_bytes count o → Sends p to t q
    → TakesPayload to count o n p q
payload_taken {p = p} {q = q} to count o t n e sent =
    let is = taken_is count o t n e in
    record { fits = is.0; rest = is.2; sent = subst (λ x. Sends p to x q) is.1 sent }

-- of so many datagrams those before a place are taken
pub record SomeTaken (count place : ℕ) (o n : List ℕ) (p q : Output) : Type 0 where
  pub more : then_read (datagrams_read (count - place) q.datagram_spare n) (λ ds rest. Some (q.datagrams ++ ds, rest)) ≡ datagrams_read count p.datagram_spare o
  pub front : o ≡ flat_map datagram_text q.datagrams ++ n
  pub length_is : length q.datagrams ≡ place
  pub left : q.count_spare + place ≡ p.count_spare
  pub reply : q.reply ≡ p.reply

pub none_taken : (count : ℕ) (o : List ℕ) (p : Output) → p.datagrams ≡ [] → SomeTaken count 0 o o p p
none_taken count o p none = record {
  more = rw none (ap (λ (c : ℕ). then_read (datagrams_read c p.datagram_spare o) (λ ds rest. Some ([] ++ ds, rest))) (whole count)
      ∙ behind_none (datagrams_read count p.datagram_spare o));
  front = rw none refl;
  length_is = rw none refl;
  left = omega arith;
  reply = refl;
}

step : (k room spare : ℕ) (done : List Datagram) (d : Datagram) (m n : List ℕ) → datagram_read room m ≡ Some (d, n) → spare ≡ room - length d.bytes
    → then_read (datagrams_read k spare n) (λ ds rest. Some ((done ++ d ∷ []) ++ ds, rest))
    ≡ then_read (datagrams_read (suc k) room m) (λ ds rest. Some (done ++ ds, rest))
unfolding datagrams_read
step k room spare done d m n here same = rw (here, same) (behind_one done d (datagrams_read k (room - length d.bytes) n))

fails : (k room : ℕ) (done : List Datagram) (m : List ℕ) → datagram_read room m ≡ None
    → then_read (datagrams_read (suc k) room m) (λ ds rest. Some (done ++ ds, rest)) ≡ None
unfolding datagrams_read
fails k room done m here = rw here refl

ends : (room : ℕ) (done : List Datagram) (n : List ℕ) → then_read (datagrams_read 0 room n) (λ ds rest. Some (done ++ ds, rest)) ≡ Some (done, n)
unfolding datagrams_read
ends room done n = ap (λ zs. Some (zs, n)) (append-nil done)

pub one_taken : {p q r : Output} (count place : ℕ) (o m n : List ℕ) → place < count → TakesDatagram m n q r → SomeTaken count place o m p q
    → SomeTaken count (place + 1) o n p r
one_taken {p = p} {q = q} {r = r} count place o m n inside took before =
    let d : Datagram = took.added in
    let k : ℕ = count - (place + 1) in
    let left : count - place ≡ suc (count - (place + 1)) = omega (arith, inside) in
    let spare : r.datagram_spare ≡ q.datagram_spare - length d.bytes = omega (arith, took.sent.datagram_spare) in
    let behind : r.datagrams ≡ q.datagrams ++ d ∷ [] = took.sent.datagrams in
    record {
      more =
          ap (λ (done : List Datagram). then_read (datagrams_read k r.datagram_spare n) (λ ds rest. Some (done ++ ds, rest))) behind
          ∙ step k q.datagram_spare r.datagram_spare q.datagrams d m n took.read spare
          ∙ ap (λ (c : ℕ). then_read (datagrams_read c q.datagram_spare m) (λ ds rest. Some (q.datagrams ++ ds, rest))) (sym left)
          ∙ before.more;
      front =
          before.front ∙ ap (λ t. flat_map datagram_text q.datagrams ++ t) took.front
          ∙ sym (append_assoc (flat_map datagram_text q.datagrams) (datagram_text d) n)
          ∙ ap (λ t. t ++ n) (sym (flat_map-append datagram_text q.datagrams (d ∷ [])
          ∙ ap (λ t. flat_map datagram_text q.datagrams ++ t) (append-nil (datagram_text d))))
          ∙ ap (λ (ds : List Datagram). flat_map datagram_text ds ++ n) (sym behind);
      length_is = ap length behind ∙ omega (arith, length-append q.datagrams (d ∷ []), before.length_is);
      left = omega (arith, before.left, took.sent.count_spare);
      reply = took.sent.reply ∙ before.reply;
    }

pub taking_fails : {p q : Output} (count place : ℕ) (o m : List ℕ) → place < count → None ≡ datagram_read q.datagram_spare m
    → SomeTaken count place o m p q → None ≡ datagrams_read count p.datagram_spare o
taking_fails {q = q} count place o m inside none before =
    let left : count - place ≡ suc (count - (place + 1)) = omega (arith, inside) in
    sym (fails (count - (place + 1)) q.datagram_spare q.datagrams m (sym none))
    ∙ ap (λ (c : ℕ). then_read (datagrams_read c q.datagram_spare m) (λ ds rest. Some (q.datagrams ++ ds, rest))) (sym left) ∙ before.more

pub all_taken : {p q : Output} (count place : ℕ) (o n : List ℕ) → place ≡ count → SomeTaken count place o n p q → TakesDatagrams count o n p q
all_taken {q = q} count place o n same before =
    let left : count - place ≡ 0 = omega (arith, same) in
    record {
      read = sym (sym (ends q.datagram_spare q.datagrams n)
          ∙ ap (λ (c : ℕ). then_read (datagrams_read c q.datagram_spare n) (λ ds rest. Some (q.datagrams ++ ds, rest))) (sym left) ∙ before.more);
      front = before.front;
      length_is = before.length_is ∙ same;
      reply = before.reply;
    }

-- a count within the room, and the bytes behind it
pub counted_some : (room count : ℕ) (a m n : List ℕ) → Some (count, m) ≡ u32_read a → count ≤ room → count ≤ length m → n ≡ drop count m
    → read_counted room a ≡ Some (take count m, n)
unfolding read_counted read_bytes
counted_some room count a m n here small fits rest =
    rw (sym here, within count room small, within count (length m) fits, rest) refl

pub counted_none : (room count : ℕ) (a m : List ℕ) → Some (count, m) ≡ u32_read a → count ≤ room → length m < count → read_counted room a ≡ None
unfolding read_counted
counted_none room count a m here small few = rw (sym here, within count room small, sym (too_few count m few)) refl

-- an address, a count and what follows make a datagram, or none
pub datagram_by : (b : Bool) (ip port count : ℕ) (o a1 a2 m n : List ℕ) (p q : Output)
    → Some (ip, a1) ≡ u32_read o → o ≡ u32_text ip ++ a1 → Some (port, a2) ≡ u16_read a1 → a1 ≡ u16_text port ++ a2
    → Some (count, m) ≡ u32_read a2 → a2 ≡ u32_text count ++ m → count ≤ p.datagram_spare
    → MatchBool b (TakesPayload (record { ip = ip; port = port }) count m n p q) (length m < count)
    → MatchBool b (TakesDatagram o n p q) (None ≡ datagram_read p.datagram_spare o)
unfolding datagram_read read_address
datagram_by true ip port count o a1 a2 m n p q r1 f1 r2 f2 r3 f3 small took =
    record {
      added = record { to = record { ip = ip; port = port }; bytes = take count m };
      read = rw (sym r1, sym r2, counted_some p.datagram_spare count a2 m n r3 small took.fits took.rest) refl;
      front =
          let t : List ℕ = take count m in
          let size : length t ≡ count = length-take-le count m took.fits in
          let all : t ++ n ≡ m = ap (λ r. t ++ r) took.rest ∙ take-append-drop count m in
          sym (
          append_assoc (u32_text ip ++ u16_text port) (u32_text (length t) ++ t) n
          ∙ append_assoc (u32_text ip) (u16_text port) ((u32_text (length t) ++ t) ++ n)
          ∙ ap (λ r. u32_text ip ++ (u16_text port ++ r))
          (append_assoc (u32_text (length t)) t n ∙ ap (λ k. u32_text k ++ (t ++ n)) size ∙ ap (λ r. u32_text count ++ r) all ∙ sym f3)
          ∙ ap (λ r. u32_text ip ++ r) (sym f2) ∙ sym f1
          );
      sent = took.sent;
    }
datagram_by false ip port count o a1 a2 m n p q r1 f1 r2 f2 r3 f3 small few =
    rw (sym r1, sym r2, counted_none p.datagram_spare count a2 m r3 small few) refl

-- what is left to read of an entry behind its event and its answer
pub entry_end : Event → Answer → List ℕ → Option (Entry × List ℕ)
entry_end event answer bytes =
    then_read (read_counted REPLY_BYTES bytes) (λ reply after_reply.
    then_read (read_datagram_list after_reply) (λ datagrams more. Some (record { event = event; answer = answer; reply = reply; datagrams = datagrams }, more)))

pub begins : (event : Event) (answer : Answer) (o a1 a2 : List ℕ) → Some (event, a1) ≡ event_read o → Some (answer, a2) ≡ answer_read a1
    → entry_end event answer a2 ≡ entry_read o
unfolding entry_read entry_end
begins event answer o a1 a2 r1 r2 = rw (sym r1, sym r2) refl

pub no_reply : (event : Event) (answer : Answer) (count : ℕ) (a m : List ℕ) → Some (count, m) ≡ u32_read a → count ≤ REPLY_BYTES → length m < count
    → None ≡ entry_end event answer a
unfolding entry_end
no_reply event answer count a m here small few = rw (counted_none REPLY_BYTES count a m here small few) refl

pub behind_reply : {p q : Output} (event : Event) (answer : Answer) (count : ℕ) (a m n : List ℕ) (found : Option (List Datagram × List ℕ))
    → Some (count, m) ≡ u32_read a → count ≤ REPLY_BYTES → TakesReply count m n p q → p.reply ≡ [] → read_datagram_list n ≡ found
    → then_read found (λ datagrams more. Some (record { event = event; answer = answer; reply = q.reply; datagrams = datagrams }, more))
    ≡ entry_end event answer a
unfolding entry_end
behind_reply event answer count a m n found here small took none list =
    let reply = took.wrote.reply ∙ ap (λ (t : List ℕ). t ++ take count m) none in
    rw (counted_some REPLY_BYTES count a m n here small took.fits took.rest, list, reply) refl

pub no_count : (a : List ℕ) → None ≡ u16_read a → read_datagram_list a ≡ None
unfolding read_datagram_list
no_count a here = rw (sym here) refl

pub large_count : (count : ℕ) (a m : List ℕ) → Some (count, m) ≡ u16_read a → EVENT_DATAGRAMS < count → read_datagram_list a ≡ None
unfolding read_datagram_list
large_count count a m here large = let no : nat_le count EVENT_DATAGRAMS ≡ false = grind (arith, nat_tests, large) in rw (sym here, no) refl

pub counted_list : (count : ℕ) (a m : List ℕ) → Some (count, m) ≡ u16_read a → count ≤ EVENT_DATAGRAMS
    → read_datagram_list a ≡ datagrams_read count EVENT_BYTES m
unfolding read_datagram_list
counted_list count a m here small = rw (sym here, within count EVENT_DATAGRAMS small) refl
