-- The rows are computed, and the verdict follows by the law.
use Rattle.std.proofs.Common.{◌≡◌, ℕ, List, [], ◌∷◌, ◌++◌, codes, decimal, refl, sym, subst, arith, inl, inr, ⊎_elim}
use Rattle.std.specs.List.Sorted.{IsPermutation}
use Rattle.std.proofs.lemmas.List.Elements.{All-nil}
use Rattle.std.proofs.lemmas.List.Sorted.{IsPermutation-append_comm}
use Rattle.hex.specs.Hex.{encode_lower, encode_with}
use Rattle.satip_base.specs.Output.{empty}
use Rattle.std.proofs.lemmas.Fmt.{decimal_digit}
use Rattle.satip_base.specs.History.{entry}
use Rattle.satip_base.specs.Lists.{Has}
use Rattle.satip_plain.specs.declared.answers.Answer.TheVariants.{Beat}
use Rattle.satip_plain.specs.declared.answers.Beat.TheVariants.{Stopping}
use Rattle.satip_plain.specs.declared.events.Event.TheVariants.{Stop}
use Rattle.satip_plain.specs.Histories.{Legal}
use Rattle.satip_entry_writer.specs.Fields.{u8_text, u16_text, u32_text, u64_text}
use Rattle.satip_entry_writer.specs.Records.{record_text, event_text, answer_text}
use Rattle.satip_entry_writer.specs.Lines.{entry_line, start_line}
use Rattle.satip_journal_serve.specs.Journals.{journals}
use Rattle.satip_entry_writer.specs.Entries.{IsTyped}
use Rattle.satip_journal_serve.specs.Journals.{AreCallersOf}
use Rattle.satip_journal_serve.specs.JournalRows.{first_journal, second_journal, two_stops}
use Rattle.satip_journal_serve.proofs.OneHistory.{one_history}
use Rattle.satip_journal_serve.proofs.journal_examples.worked_journals.Goals as goal

-- the line of a stop, whose two numbers have these digits
stop_line : (place job : ℕ) (p j : List ℕ) → decimal place ≡ p → decimal job ≡ j → entry_line place job Stop (Beat Stopping) [] []
    ≡ codes "entry " ++ (p ++ (codes " " ++ (j ++ (codes " " ++ (encode_lower (record_text Stop (Beat Stopping) [] []) ++ codes "\n")))))
unfolding entry_line
stop_line place job p j is_p is_j = rw (is_p, is_j) refl

begin_line : (now : ℕ) (digits : List ℕ) → decimal now ≡ digits → start_line now ≡ codes "start " ++ (digits ++ codes "\n")
unfolding start_line
begin_line now digits is = rw is refl

two_journals : journals 7 0 (5 ∷ []) two_stops ≡ first_journal ∷ second_journal ∷ []
unfolding record_text event_text answer_text u8_text u16_text u32_text u64_text encode_with
two_journals =
    let start = begin_line 7 (55 ∷ []) (decimal_digit 7 (omega arith)) in
    let first = stop_line 1 0 (49 ∷ []) (48 ∷ []) (decimal_digit 1 (omega arith)) (decimal_digit 0 (omega arith)) in
    let second = stop_line 0 1 (48 ∷ []) (49 ∷ []) (decimal_digit 0 (omega arith)) (decimal_digit 1 (omega arith)) in
    λ i. (start i ++ (first i ++ [])) ∷ (second i ++ []) ∷ []

typed_stop : (caller : ℕ) → IsTyped (entry caller Stop (Beat Stopping) empty)
typed_stop caller = record {
  entry = record { event = tt; answer = tt; reply = omega arith; targets = tt; count = omega arith; bytes = omega arith };
  reply = All-nil _;
  datagrams = tt;
}

callers : AreCallersOf (0 ∷ 5 ∷ []) two_stops
callers = record {
  apart = (λ has. ⊎_elim (λ (same : ◌≡◌ {A = ℕ} 0 5). omega (arith, same)) (λ (none : Has {T = ℕ} 0 []). none) has, (λ none. none, tt));
  all = (inr (inl refl), (inl refl, tt));
  few = omega arith;
  short = omega arith;
}

pub returns-clause-journals : goal.returns-clause-journals
returns-clause-journals c = two_journals

pub returns-clause-other_order : goal.returns-clause-other_order
returns-clause-other_order c = λ s servable setting start.
    let legal : Legal s two_stops = record {
      servable = servable;
      setting = setting;
      events = (tt, (tt, tt));
      entries = (record { answer = refl; reply = refl; datagrams = refl }, (record { answer = refl; reply = refl; datagrams = refl }, tt));
    } in
    let P : List (List ℕ) → Type 0 = λ texts. IsPermutation texts (second_journal ∷ first_journal ∷ []) in
    let moved : P (journals s.start 0 (5 ∷ []) two_stops) =
    subst (λ (n : ℕ). P (journals n 0 (5 ∷ []) two_stops)) (sym start)
    (subst P (sym two_journals) (IsPermutation-append_comm (first_journal ∷ []) (second_journal ∷ []))) in
    one_history s two_stops 0 (5 ∷ []) (second_journal ∷ first_journal ∷ []) legal (typed_stop 5, (typed_stop 0, tt)) callers moved
