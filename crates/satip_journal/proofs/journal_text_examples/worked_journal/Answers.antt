use Rattle.std.proofs.Common.{◌≡◌, ℕ, List, [], ◌∷◌, ◌++◌, decimal, codes, refl, arith}
use Rattle.std.proofs.lemmas.Fmt.{decimal_digit}
use Rattle.hex.specs.Hex.{encode_lower, encode_with}
use Rattle.satip_plain.specs.declared.answers.Answer.{Answer}
use Rattle.satip_plain.specs.declared.events.Event.{Event}
use Rattle.satip_plain.specs.declared.answers.Answer.TheVariants.{Beat}
use Rattle.satip_plain.specs.declared.answers.Beat.TheVariants.{Going, Stopping}
use Rattle.satip_plain.specs.declared.events.Event.TheVariants.{Stop, Tick}
use Rattle.satip_entry_writer.specs.Fields.{u8_text, u16_text, u32_text, u64_text}
use Rattle.satip_entry_writer.specs.Records.{record_text, event_text, answer_text}
use Rattle.satip_entry_writer.specs.Lines.{entry_line}
use Rattle.satip_journal.proofs.journal_text_examples.worked_journal.Goals as goal

-- a line without a reply and datagrams, whose two numbers have these digits
line_by : (place job : ℕ) (p j : List ℕ) (event : Event) (answer : Answer) → decimal place ≡ p → decimal job ≡ j → entry_line place job event answer [] []
    ≡ codes "entry " ++ (p ++ (codes " " ++ (j ++ (codes " " ++ (encode_lower (record_text event answer [] []) ++ codes "\n")))))
unfolding entry_line
line_by place job p j event answer is_p is_j = rw (is_p, is_j) refl

pub returns-clause-lines : goal.returns-clause-lines
unfolding record_text event_text answer_text u8_text u16_text u32_text u64_text encode_with
returns-clause-lines c =
    let job = decimal_digit 2 (omega arith) in
    let first = line_by 5 2 (53 ∷ []) (50 ∷ []) (Tick 10) (Beat Going) (decimal_digit 5 (omega arith)) job in
    let second = line_by 7 2 (55 ∷ []) (50 ∷ []) Stop (Beat Stopping) (decimal_digit 7 (omega arith)) job in
    λ i. first i ++ (second i ++ [])
