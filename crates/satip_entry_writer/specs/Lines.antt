-- The lines of journals.
use Rattle.std.specs.Prelude.{ℕ, List, ◌++◌, decimal, codes}
use Rattle.hex.specs.Hex.{encode_lower}
use Rattle.satip_base.specs.Output.{Datagram}
use Rattle.satip_plain.specs.declared.events.Event.{Event}
use Rattle.satip_plain.specs.declared.answers.Answer.{Answer}
use Rattle.satip_entry_writer.specs.Records.{record_text}

-- the line of an entry: its place in the history, its caller, and its record in lower-case digits
unfoldable pub entry_line : ℕ → ℕ → Event → Answer → List ℕ → List Datagram → List ℕ
entry_line place caller event answer reply datagrams =
    codes "entry " ++ (decimal place ++ (codes " " ++ (decimal caller ++ (codes " "
    ++ (encode_lower (record_text event answer reply datagrams) ++ codes "\n")))))

-- the line of the moment at which a history starts
unfoldable pub start_line : ℕ → List ℕ
start_line now = codes "start " ++ (decimal now ++ codes "\n")
