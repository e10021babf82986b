-- What the words and the count of a set stand for.
use Rattle.std.proofs.Common.{◌≡◌, ℕ, ◌<◌, ◌≤◌, ◌||◌, ◌&&◌, not, inl, inr, cond, List, [], length, replicate, Ok, Err, refl, sym, ap, ◌∙◌, subst, codes, arith}
use Rattle.std.proofs.lemmas.Bool.{ne_eqb, eq-eqb, le-leb, lt-leb}
use Rattle.satip_pids.specs.declared.fault.PidFault.TheVariants.{TooMany}
use Rattle.satip_pids.specs.Rising.{has_number, put_all, without}
use Rattle.satip_pids.specs.Pids.{Pids, Every, Only, IsPidRow, IsPidSet, has_pid, listed, grown, limited, add_pids, remove_pids}
use Rattle.satip_pids.specs.Bits.{has_bit, members, pids_of, IsListed, IsWhole, IsBits}
use Rattle.satip_pids.specs.Texts.{listed_text, pids_text}
use Rattle.satip_pids.proofs.RisingLists.{has-put_all}
use Rattle.satip_pids.proofs.Sets.{has-filter}
use Rattle.satip_pids.proofs.BitSets.{rising-members, below-members, has-members, all_set, none_set, members_none}

pub every_view : (ws : List ℕ) (count : ℕ) → count ≡ 8192 → pids_of ws count ≡ Every
unfolding pids_of
every_view ws count e = ap (λ b. cond b Every (Only (members ws))) (eq-eqb count 8192 e)

pub listed_view : (ws : List ℕ) (count : ℕ) → IsListed ws count → pids_of ws count ≡ Only (members ws)
unfolding pids_of
listed_view ws count is = ap (λ b. cond b Every (Only (members ws))) (ne_eqb count 8192 (λ e. absurd (omega (arith, is.few))))

-- a set that doesn't count every PID lists them
pub listed_bits : (ws : List ℕ) (count : ℕ) → IsBits ws count → (count ≡ 8192 → ⊥) → IsListed ws count
listed_bits ws count is differs = elim is.kept [ inl listed ↦ listed | inr whole ↦ absurd (differs whole.counted) ]

pub row_listed : (ws : List ℕ) (count : ℕ) → IsListed ws count → IsPidRow (members ws)
row_listed ws count is = record {
  rising = rising-members ws;
  few = omega (arith, is.few, is.counted);
  below = below-members ws;
}

pub is_set_view : (ws : List ℕ) (count : ℕ) → IsBits ws count → IsPidSet (pids_of ws count)
is_set_view ws count is =
    elim is.kept [
      | inl listed ↦ subst IsPidSet (sym (listed_view ws count listed)) (row_listed ws count listed)
      | inr whole ↦ subst IsPidSet (sym (every_view ws count whole.counted)) tt
    ]

pub has_pid_view : (ws : List ℕ) (count pid : ℕ) → IsBits ws count → pid < 8192 → has_bit ws pid ≡ has_pid (pids_of ws count) pid
has_pid_view ws count pid is below =
    elim is.kept [
      | inl listed ↦ sym (has-members ws pid below) ∙ ap (λ set. has_pid set pid) (sym (listed_view ws count listed))
      | inr whole ↦ whole.full pid below ∙ ap (λ set. has_pid set pid) (sym (every_view ws count whole.counted))
    ]

-- the empty set and that of all
pub none_members : members (replicate 128 0) ≡ []
none_members = members_none (replicate 128 0) (record { clear = λ n le lt. none_set n lt })

pub none_listed : IsListed (replicate 128 0) 0
none_listed = record { few = omega arith; counted = ap length none_members }

pub all_whole : IsWhole (replicate 128 18446744073709551615) 8192
all_whole = record { counted = refl; full = all_set }

-- ---- what the changes of a set make

pub few_listed : (set : Pids) → IsPidSet set → listed set ≤ 256
few_listed Every is = omega arith
few_listed (Only pids) is = is.few

pub added_exact : (old new : Pids) (list : List ℕ) → new ≡ grown old list → IsPidSet new → add_pids old list ≡ Ok new
added_exact old new list made is =
    ap limited (sym made) ∙ ap (λ b. cond b (Ok new) (Err TooMany)) (le-leb (listed new) 256 (few_listed new is))

pub added_members : (old new : Pids) (list : List ℕ) → new ≡ grown old list → (pid : ℕ) → has_pid new pid ≡ (has_pid old pid || has_number list pid)
added_members Every new list made pid = ap (λ set. has_pid set pid) made
added_members (Only pids) new list made pid = ap (λ set. has_pid set pid) made ∙ has-put_all pid list pids

pub added_few : (old new : Pids) (list : List ℕ) → new ≡ grown old list → IsPidSet new → 256 < listed (grown old list) → ⊥
added_few old new list made is many = absurd (omega (arith, few_listed new is, ap listed made))

pub refused_exact : (old : Pids) (list : List ℕ) → 256 < listed (grown old list) → add_pids old list ≡ Err TooMany
refused_exact old list many = ap (λ b. cond b (Ok (grown old list)) (Err TooMany)) (lt-leb (listed (grown old list)) 256 many)

pub removed_exact : (old : Pids) (pids list : List ℕ) (new : Pids) → old ≡ Only pids → new ≡ Only (without pids list) → remove_pids old list ≡ Ok new
removed_exact old pids list new was made = ap (λ set. remove_pids set list) was ∙ ap Ok (sym made)

pub removed_members : (old : Pids) (pids list : List ℕ) (new : Pids) → old ≡ Only pids → new ≡ Only (without pids list) → (pid : ℕ)
    → has_pid new pid ≡ (has_pid old pid && not (has_number list pid))
removed_members old pids list new was made pid =
    ap (λ set. has_pid set pid) made ∙ has-filter (λ x. not (has_number list x)) pid pids ∙ ap (λ set. has_pid set pid && not (has_number list pid)) (sym was)

-- ---- a set before and after

pub was_listed : (set : Pids) (ws : List ℕ) (count : ℕ) → pids_of ws count ≡ set → IsBits ws count → (count ≡ 8192 → ⊥) → set ≡ Only (members ws)
was_listed set ws count view is differs = sym view ∙ listed_view ws count (listed_bits ws count is differs)

pub grown_view : (old : Pids) (ws us : List ℕ) (total : ℕ) (list : List ℕ) → old ≡ Only (members ws) → members us ≡ put_all (members ws) list
    → IsListed us total → pids_of us total ≡ grown old list
grown_view old ws us total list was same is = listed_view us total is ∙ ap Only same ∙ ap (λ set. grown set list) (sym was)

pub many_grown : (old : Pids) (ws list : List ℕ) → old ≡ Only (members ws) → 256 < length (put_all (members ws) list) → 256 < listed (grown old list)
many_grown old ws list was many = subst (λ set. 256 < listed (grown set list)) (sym was) many

pub left_view : (ws us : List ℕ) (total : ℕ) (list : List ℕ) → members us ≡ without (members ws) list → IsListed us total
    → pids_of us total ≡ Only (without (members ws) list)
left_view ws us total list same is = listed_view us total is ∙ ap Only same

pub set_listed : (ws : List ℕ) (count : ℕ) → IsListed ws count → IsPidSet (pids_of ws count)
set_listed ws count is = subst IsPidSet (sym (listed_view ws count is)) (row_listed ws count is)

-- ---- the set of all

pub every_added : (set : Pids) (list : List ℕ) → set ≡ Every → add_pids set list ≡ Ok set
every_added set list e = subst (λ s. add_pids s list ≡ Ok s) (sym e) refl

pub every_members : (set : Pids) (list : List ℕ) → set ≡ Every → (pid : ℕ) → has_pid set pid ≡ (has_pid set pid || has_number list pid)
every_members set list e pid = subst (λ s. has_pid s pid ≡ (has_pid s pid || has_number list pid)) (sym e) refl

pub every_few : (set : Pids) (list : List ℕ) → set ≡ Every → 256 < listed (grown set list) → ⊥
every_few set list e many = absurd (omega (arith, ap (λ s. listed (grown s list)) e))

-- ---- texts

pub every_text : (set : Pids) → set ≡ Every → pids_text set ≡ codes "all"
unfolding pids_text
every_text set e = ap pids_text e

pub only_text : (set : Pids) (pids : List ℕ) → set ≡ Only pids → pids_text set ≡ listed_text pids
unfolding pids_text
only_text set pids e = ap pids_text e
