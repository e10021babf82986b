-- Lists are read again.
use Rattle.std.proofs.Common.{◌≡◌, ℕ, ◌<◌, ◌≤◌, true, List, [], ◌∷◌, ◌++◌, append_assoc, length, length-append, flat_map, nat_le, All, Option, Some, arith, refl}
use Rattle.std.proofs.Math.Seq.{drop-append_seam, take-append_seam}
use Rattle.std.proofs.lemmas.Bool.{le-leb}
use Rattle.std.proofs.lemmas.List.Elements.{All-head, All-tail}
use Rattle.satip_pids.specs.Pids.{IsPidList}
use Rattle.satip_plain.specs.Values.{IsKept}
use Rattle.satip_entry_writer.specs.Fields.{u16_text, pid_list_text}
use Rattle.satip_entry_writer.specs.Requests.{short_text}
use Rattle.satip_entry_reader.specs.Reading.{ReadsAgain}
use Rattle.satip_entry_reader.proofs.ValuesAgain.{u16_again}
use Rattle.satip_entry_reader.specs.ReadingLists.{read_bytes, read_each, pid_read, pid_list_read, short_read}

pub within : (a b : ℕ) → a ≤ b → nat_le a b ≡ true
within a b h = le-leb a b h

-- values that are read one by one are read again together
pub each_again : {T : Type 0} (Is : T → Type 0) (text : T → List ℕ) (read : List ℕ → Option (T × List ℕ)) → ReadsAgain Is text read
    → (xs : List T) (rest : List ℕ) → All Is xs → read_each read (length xs) (flat_map text xs ++ rest) ≡ Some (xs, rest)
unfolding read_each
each_again Is text read again [] rest h = refl
each_again Is text read again (x ∷ xs) rest h =
    rw (
      append_assoc (text x) (flat_map text xs) rest,
      again x (flat_map text xs ++ rest) (All-head Is x xs h),
      each_again Is text read again xs rest (All-tail Is x xs h),
    ) refl

pub bytes_again : (bytes rest : List ℕ) → read_bytes (length bytes) (bytes ++ rest) ≡ Some (bytes, rest)
unfolding read_bytes
bytes_again bytes rest =
    rw (
      within (length bytes) (length (bytes ++ rest)) (omega (arith, length-append bytes rest)),
      take-append_seam bytes rest,
      drop-append_seam bytes rest,
    ) refl

pub pid_again : ReadsAgain (λ pid. pid < 8192) u16_text pid_read
unfolding pid_read
pid_again pid rest h = rw (u16_again pid rest (omega (arith, h)), within pid 8191 (omega (arith, h))) refl

pub pid_list_again : ReadsAgain IsPidList pid_list_text pid_list_read
unfolding pid_list_read
pid_list_again pids rest h =
    rw (
      append_assoc (u16_text (length pids)) (flat_map u16_text pids) rest,
      u16_again (length pids) (flat_map u16_text pids ++ rest) (let few = h.few in omega (arith, few)),
      within (length pids) 512 h.few,
      each_again (λ pid. pid < 8192) u16_text pid_read pid_again pids rest h.below,
    ) refl

pub short_again : ReadsAgain IsKept short_text short_read
unfolding short_read
short_again kept rest h =
    rw (
      append_assoc (u16_text (length kept)) kept rest,
      u16_again (length kept) (kept ++ rest) (let few = h.few in omega (arith, few)),
      within (length kept) 128 h.few,
      bytes_again kept rest,
    ) refl
