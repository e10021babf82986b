use Rattle.std.proofs.Common.{◌≡◌, ℕ, List, [], ◌∷◌, ◌++◌, decimal, codes, refl, arith}
use Rattle.std.proofs.lemmas.Fmt.{decimal_digit}
use Rattle.hex.specs.Hex.{encode_lower, encode_with}
use Rattle.satip_base.specs.Output.{Datagram}
use Rattle.satip_plain.specs.declared.events.Event.{Event}
use Rattle.satip_plain.specs.declared.answers.Answer.{Answer}
use Rattle.satip_entry_writer.specs.Fields.{u8_text, u16_text, u32_text, u64_text}
use Rattle.satip_entry_writer.specs.Requests.{request_text, query_text, change_text, pids_text, refusal_text, name_text}
use Rattle.satip_entry_writer.specs.Records.{record_text, event_text, answer_text}
use Rattle.satip_entry_writer.specs.Lines.{entry_line, start_line}
use Rattle.satip_entry_writer.proofs.line_examples.worked_lines.Goals as goal

-- a line whose two numbers have these digits
line_by : (place caller : ℕ) (p c : List ℕ) (event : Event) (answer : Answer) (reply : List ℕ) (datagrams : List Datagram)
    → decimal place ≡ p → decimal caller ≡ c → entry_line place caller event answer reply datagrams
    ≡ codes "entry " ++ (p ++ (codes " " ++ (c ++ (codes " " ++ (encode_lower (record_text event answer reply datagrams) ++ codes "\n")))))
unfolding entry_line
line_by place caller p c event answer reply datagrams is_p is_c = rw (is_p, is_c) refl

start_by : (now : ℕ) (n : List ℕ) → decimal now ≡ n → start_line now ≡ codes "start " ++ (n ++ codes "\n")
unfolding start_line
start_by now n is_n = rw is_n refl

pub returns-clause-start : goal.returns-clause-start
returns-clause-start c = start_by 0 (48 ∷ []) (decimal_digit 0 (omega arith))

pub returns-clause-stop : goal.returns-clause-stop
unfolding record_text event_text answer_text request_text query_text change_text pids_text refusal_text name_text u8_text u16_text u32_text u64_text encode_with
returns-clause-stop c =
    line_by 0 0 (48 ∷ []) (48 ∷ []) _ _ _ _ (decimal_digit 0 (omega arith)) (decimal_digit 0 (omega arith))

pub returns-clause-tick : goal.returns-clause-tick
unfolding record_text event_text answer_text request_text query_text change_text pids_text refusal_text name_text u8_text u16_text u32_text u64_text encode_with
returns-clause-tick c =
    line_by 0 0 (48 ∷ []) (48 ∷ []) _ _ _ _ (decimal_digit 0 (omega arith)) (decimal_digit 0 (omega arith))

pub returns-clause-setup : goal.returns-clause-setup
unfolding record_text event_text answer_text request_text query_text change_text pids_text refusal_text name_text u8_text u16_text u32_text u64_text encode_with
returns-clause-setup c =
    line_by 7 3 (55 ∷ []) (51 ∷ []) _ _ _ _ (decimal_digit 7 (omega arith)) (decimal_digit 3 (omega arith))
