-- A journal goes on: a claim from one moment to a second, and from there to a third, holds from the first to the third.
use Rattle.std.proofs.Common.{◌≡◌, ◌∙◌, ℕ, ◌+◌, Bool, true, false, ◌==◌, List, [], ◌∷◌, ◌++◌, length, refl, sym, ap, subst, arith, append_assoc, append-nil, length-append}
use Rattle.std.proofs.lemmas.Grind.{flat_map-append}
use Rattle.satip_base.specs.Streams.{Drain, Rose, FailedToPut}
use Rattle.satip_base.specs.History.{kept_if, own_of}
use Rattle.satip_base.specs.Lists.{Each}
use Rattle.satip_base.proofs.Elements.{Each-append}
use Rattle.satip_base.proofs.Owned.{own_of-append}
use Rattle.satip_plain.specs.Histories.{Item}
use Rattle.satip_shared.specs.Calling.{same_caller, same_caller_then}
use Rattle.satip_journal.specs.Places.{Placed, placed, own_at, line_of, lines_of}
use Rattle.satip_entry_writer.specs.Entries.{IsTyped}
use Rattle.satip_journal.specs.Logs.{Logs}
use Rattle.satip_journal.specs.Keeping.{Kept, SameJournal}

kept_if-append : {T : Type 0} (b : Bool) (x : T) (xs ys : List T) → kept_if b x (xs ++ ys) ≡ kept_if b x xs ++ ys
kept_if-append true x xs ys = refl
kept_if-append false x xs ys = refl

pub own_at-append : (place n : ℕ) (h k : List Item) → own_at place n (h ++ k) ≡ own_at place n h ++ own_at (place + length h) n k
own_at-append place n [] k = let none : place ≡ place + 0 = omega arith in ap (λ p. own_at p n k) none
own_at-append place n (e ∷ es) k =
    let later : (place + 1) + length es ≡ place + length (e ∷ es) = omega arith in
    ap (λ ps. kept_if (e.caller == n) (placed place e) ps) (own_at-append (place + 1) n es k)
    ∙ kept_if-append (e.caller == n) (placed place e) (own_at (place + 1) n es) (own_at ((place + 1) + length es) n k)
    ∙ ap (λ p. own_at place n (e ∷ es) ++ own_at p n k) later

-- the lines of entries and of those after them
pub lines_then : {job later_job later_place n later_n : ℕ} (place : ℕ) (h k : List Item) → later_job ≡ job → later_place ≡ place + length h → later_n ≡ n
    → lines_of job (own_at place n h) ++ lines_of later_job (own_at later_place later_n k) ≡ lines_of job (own_at place n (h ++ k))
lines_then {job} {later_job} {later_place} {n} {later_n} place h k same_job behind same_n =
    let moved : lines_of later_job (own_at later_place later_n k) ≡ lines_of job (own_at (place + length h) n k) = λ i. lines_of (same_job i) (own_at (behind i) (same_n i) k) in
    ap (λ (t : List ℕ). lines_of job (own_at place n h) ++ t) moved
    ∙ sym (ap (λ (ps : List Placed). lines_of job ps) (own_at-append place n h k) ∙ flat_map-append (line_of job) (own_at place n h) (own_at (place + length h) n k))

-- no text was to be sent
pub logs_none : (tells : Type 0) (o : Drain) (failed : Bool) → Logs tells o o failed failed []
logs_none tells o false = record { faults = refl; content = λ told. sym (append-nil o.sent) }
logs_none tells o true = refl

-- a sink at a moment: its drain, and whether a put had failed
pub record SinkState : Type 0 where
  pub drain : Drain
  pub failed : Bool

abbrev pub sink_state : Drain → Bool → SinkState
sink_state drain failed = record { drain = drain; failed = failed }

-- a text and one after it
pub logs_then : (tells : Type 0) (o m n : SinkState) (s t : List ℕ) → Logs tells o.drain m.drain o.failed m.failed s
    → Logs tells m.drain n.drain m.failed n.failed t → Logs tells o.drain n.drain o.failed n.failed (s ++ t)
logs_then tells o m n s t first second = then o.failed m.failed n.failed first second
  where
    then : (a b c : Bool) → Logs tells o.drain m.drain a b s → Logs tells m.drain n.drain b c t → Logs tells o.drain n.drain a c (s ++ t)
    then false false false x y = record {
      faults = y.faults ∙ x.faults;
      content = λ told. y.content told ∙ ap (λ (u : List ℕ). u ++ t) (x.content told) ∙ append_assoc o.drain.sent s t;
    }
    then false false true x y =
        let R : ℕ → Type 0 = λ f. Rose f n.drain.faults in
        record {
          faults = subst R x.faults y.faults;
          content = λ told.
              let began = y.content told in
              record {
                part = s ++ began.part;
                rest = began.rest;
                whole = ap (λ (u : List ℕ). s ++ u) began.whole ∙ sym (append_assoc s began.part began.rest);
                sent = began.sent ∙ ap (λ (u : List ℕ). u ++ began.part) (x.content told) ∙ append_assoc o.drain.sent s began.part;
              };
        }
    then false true true x y =
        let P : Drain → Type 0 = λ d. FailedToPut tells o.drain d (s ++ t) in
        subst P (sym y) (record {
          faults = x.faults;
          content = λ told.
              let began = x.content told in
              record {
                part = began.part;
                rest = began.rest ++ t;
                whole = ap (λ (u : List ℕ). u ++ t) began.whole ∙ append_assoc began.part began.rest t;
                sent = began.sent;
              };
        })
    then true true true x y = y ∙ x
    then false true false x y = absurd y
    then true true false x y = absurd y
    then true false c x y = absurd x

typed_then : (n later_n : ℕ) (h k : List Item) → later_n ≡ n → Each IsTyped (own_of n h) → Each IsTyped (own_of later_n k) → Each IsTyped (own_of n (h ++ k))
typed_then n later_n h k same x y =
    let later : Each IsTyped (own_of n k) = subst (λ (m : ℕ). Each IsTyped (own_of m k)) same y in
    subst (λ (es : List Item). Each IsTyped es) (sym (own_of-append n h k)) (Each-append IsTyped (own_of n h) (own_of n k) x later)

pub same_journal : (tells : Type 0) (k : Kept) → SameJournal tells k k
same_journal tells k = record {
  caller = same_caller k.server k.pass;
  number = refl;
  job = refl;
  more = [];
  seen = sym (append-nil k.pass.seen);
  logs = logs_none tells k.drain k.failed;
  typed = tt;
}

pub same_journal_then : (tells : Type 0) (k l m : Kept) → SameJournal tells k l → SameJournal tells l m → SameJournal tells k m
same_journal_then tells k l m a b =
    let P : List ℕ → Type 0 = λ text. Logs tells k.drain m.drain k.failed m.failed text in
    let first = lines_of k.number (own_at (length k.pass.seen) k.pass.number a.more) in
    let second = lines_of l.number (own_at (length l.pass.seen) l.pass.number b.more) in
    let behind : length l.pass.seen ≡ length k.pass.seen + length a.more = ap length a.seen ∙ length-append k.pass.seen a.more in
    record {
      caller = same_caller_then k.server k.pass l.server l.pass m.server m.pass a.caller b.caller;
      number = b.number ∙ a.number;
      job = b.job ∙ a.job;
      more = a.more ++ b.more;
      seen = b.seen ∙ ap (λ (h : List Item). h ++ b.more) a.seen ∙ append_assoc k.pass.seen a.more b.more;
      logs = subst P
          (lines_then (length k.pass.seen) a.more b.more a.number behind a.caller.pass.number)
          (logs_then tells (sink_state k.drain k.failed) (sink_state l.drain l.failed) (sink_state m.drain m.failed) first second a.logs b.logs);
      typed = typed_then k.pass.number l.pass.number a.more b.more a.caller.pass.number a.typed b.typed;
    }
