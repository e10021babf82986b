-- A journal keeps to what it says, call by call.
use Rattle.std.proofs.Common.{◌≡◌, ◌∙◌, ℕ, ◌+◌, ◌-◌, List, [], ◌∷◌, ◌++◌, length, refl, sym, ap, subst, append_assoc, append-nil, length-append, arith}
use Rattle.satip_base.specs.Output.{Output}
use Rattle.satip_base.specs.declared.entry.Taken.{Taken}
use Rattle.satip_base.specs.History.{entry, entries, own_of}
use Rattle.satip_base.specs.Lists.{Each}
use Rattle.satip_base.proofs.Owned.{own_of-append, own_of-cons_same}
use Rattle.satip_plain.specs.declared.answers.Answer.{Answer}
use Rattle.satip_plain.specs.declared.events.Event.{Event}
use Rattle.satip_plain.specs.Histories.{Item}
use Rattle.satip_entry_writer.specs.Lines.{entry_line}
use Rattle.satip_plain.specs.Known.{Known, Adds, AddsNone, AddsAll}
use Rattle.satip_plain.proofs.Bursting.{UnderWay}
use Rattle.satip_plain.proofs.Growing.{adds_then, adds_no_more}
use Rattle.satip_turn.specs.Shown.{Turned, Looked}
use Rattle.satip_shared.specs.Calling.{ServerPass, SameCaller, known_by}
use Rattle.satip_journal.specs.Places.{placed, own_at, line_of, lines_of}
use Rattle.satip_entry_writer.specs.Entries.{IsTyped}
use Rattle.satip_journal.specs.Logs.{Logs}
use Rattle.satip_journal.specs.Owning.{KnowsOwn}
use Rattle.satip_journal.specs.Keeping.{Kept, SameJournal}
use Rattle.satip_journal.proofs.PlaceLemmas.{lines_of_one, own_at_none, between_others}

-- the number of the entries of the pass that come with one more own entry
pub turned_between : (p q : ServerPass) (e : Item) → e.caller ≡ p.number → KnowsOwn p → own_of p.number q.seen ≡ q.own → (turned : Turned p q (e ∷ []))
    → own_of p.number turned.between ≡ []
turned_between p q e is before after turned =
    let n = p.number in
    let seen : q.seen ≡ (p.seen ++ turned.between) ++ e ∷ [] = turned.seen ∙ ap (λ (h : List Item). h ++ e ∷ []) turned.looked in
    between_others n p.seen turned.between (e ∷ []) p.own before (ap (λ (h : List Item). own_of n h) (sym seen) ∙ after ∙ turned.own)
    (own_of-cons_same n e [] is)

pub looked_between : (p q : ServerPass) → KnowsOwn p → own_of p.number q.seen ≡ q.own → (looked : Looked p q) → own_of p.number looked.between ≡ []
looked_between p q before after looked =
    let n = p.number in
    let seen : q.seen ≡ p.seen ++ looked.between = looked.seen ∙ looked.looked in
    between_others n p.seen looked.between [] p.own before
    (ap (λ (h : List Item). own_of n h) (append-nil (p.seen ++ looked.between) ∙ sym seen) ∙ after ∙ looked.own ∙ sym (append-nil p.own)) refl

typed_one : (n : ℕ) (others : List Item) (e : Item) → e.caller ≡ n → own_of n others ≡ [] → IsTyped e → Each IsTyped (own_of n (others ++ e ∷ []))
typed_one n others e is none typed =
    let one : own_of n (others ++ e ∷ []) ≡ e ∷ [] =
    own_of-append n others (e ∷ []) ∙ ap (λ (es : List Item). es ++ own_of n (e ∷ [])) none ∙ own_of-cons_same n e [] is in
    subst (λ (es : List Item). Each IsTyped es) (sym one) (typed, tt)

-- an own entry was made, and its line was put unless a put had failed
pub entered : (tells : Type 0) (k l : Kept) (place : ℕ) (event : Event) (answer : Answer) (out : Output) → SameCaller k.server k.pass l.server l.pass
    → l.number ≡ k.number → l.job ≡ k.job
    → KnowsOwn k.pass → KnowsOwn l.pass → Turned k.pass l.pass (entry k.pass.number event answer out ∷ []) → place ≡ length l.pass.seen - 1
    → Logs tells k.drain l.drain k.failed l.failed (entry_line place k.number event answer out.reply out.datagrams)
    → IsTyped (entry k.pass.number event answer out) → SameJournal tells k l
entered tells k l place event answer out same same_number same_job before after turned at logs typed =
    let p = k.pass in let q = l.pass in
    let e : Item = entry p.number event answer out in
    let now : own_of p.number q.seen ≡ q.own = ap (λ (n : ℕ). own_of n q.seen) (sym same.pass.number) ∙ after in
    let others = turned_between p q e refl before now turned in
    let seen : q.seen ≡ (p.seen ++ turned.between) ++ e ∷ [] = turned.seen ∙ ap (λ (h : List Item). h ++ e ∷ []) turned.looked in
    let long : length q.seen ≡ length ((p.seen ++ turned.between) ++ e ∷ []) = ap length seen in
    let here : place ≡ length p.seen + length turned.between =
    omega (arith, at, long, length-append (p.seen ++ turned.between) (e ∷ []), length-append p.seen turned.between) in
    let P : List ℕ → Type 0 = λ text. Logs tells k.drain l.drain k.failed l.failed text in
    let line : line_of k.number (placed place e) ≡ lines_of k.number (own_at (length p.seen) p.number (turned.between ++ e ∷ [])) =
    ap (λ (n : ℕ). line_of k.number (placed n e)) here ∙ sym (lines_of_one k.number (length p.seen) p.number turned.between e refl others) in
    record {
      caller = same;
      number = same_number;
      job = same_job;
      more = turned.between ++ e ∷ [];
      seen = seen ∙ append_assoc p.seen turned.between (e ∷ []);
      logs = subst P line logs;
      typed = typed_one p.number turned.between e refl others typed;
    }

-- no own entry was made, and nothing was put
pub not_entered : (tells : Type 0) (k l : Kept) → SameCaller k.server k.pass l.server l.pass → l.number ≡ k.number → l.job ≡ k.job
    → KnowsOwn k.pass → KnowsOwn l.pass → Looked k.pass l.pass
    → Logs tells k.drain l.drain k.failed l.failed [] → SameJournal tells k l
not_entered tells k l same same_number same_job before after looked logs =
    let p = k.pass in let q = l.pass in
    let now : own_of p.number q.seen ≡ q.own = ap (λ (n : ℕ). own_of n q.seen) (sym same.pass.number) ∙ after in
    let none = own_at_none (length p.seen) p.number looked.between (looked_between p q before now looked) in
    let P : List ℕ → Type 0 = λ text. Logs tells k.drain l.drain k.failed l.failed text in
    record {
      caller = same;
      number = same_number;
      job = same_job;
      more = looked.between;
      seen = looked.seen ∙ looked.looked;
      logs = subst P (sym (ap (λ ps. lines_of k.number ps) none)) logs;
      typed = subst (λ (es : List Item). Each IsTyped es) (sym (looked_between p q before now looked)) tt;
    }

-- what the caller knows grew by its entry
pub adds_turned : (p q : ServerPass) (caller : ℕ) (event : Event) (answer : Answer) (out : Output) → p.number ≡ caller
    → Turned p q (entry p.number event answer out ∷ [])
    → Adds (known_by p) (known_by q) (entry caller event answer out)
adds_turned p q caller event answer out is turned =
    let A : ℕ → Type 0 = λ n. Adds (known_by p) (known_by q) (entry n event answer out) in
    subst A is (record {
      between = turned.between;
      seen = turned.seen ∙ ap (λ (h : List Item). h ++ entry p.number event answer out ∷ []) turned.looked;
      own = turned.own;
    })

-- no further event was made
pub under_way_still : (caller : ℕ) (k l m : Known) (before after : List (Taken Event Answer Output) → Type 0) (made : ℕ) → UnderWay caller k l before made
    → AddsNone l m
    → ((ts : List (Taken Event Answer Output)) → before ts → after ts) → UnderWay caller k m after made
under_way_still caller k l m before after made way none takes =
    let P : List Item → Type 0 = λ es. AddsAll k m es in
    let new = entries caller way.taken_are in
    record {
      taken_are = way.taken_are;
      has = takes way.taken_are way.has;
      count = way.count;
      suit = way.suit;
      adds = subst P (append-nil new) (adds_then k l m new [] way.adds (adds_no_more l m none));
    }
