-- Streams in rising number.
use Rattle.std.proofs.Common.{◌≡◌, ◌∙◌, ℕ, ◌+◌, ◌<◌, ◌≤◌, ◌==◌, ◌&&◌, ◌||◌, nat_lt, not, zero, suc, find, unwrap_or, Some, ◌-◌, Bool, true, false, cond, List}
use Rattle.std.proofs.Common.{[], ◌∷◌, ◌++◌, length, filter, take, drop, map, refl, ap, sym, subst, arith, inl, inr, ◌⊎◌}
use Rattle.std.specs.List.{insert, range_with_len}
use Rattle.std.proofs.lemmas.Bool.{cases_eq, cases_order, eqb-true, eqb-false, ne_eqb, eq-eqb, lt-ltb, le-ltb, ltb-true, ltb-false, or_left, or_right, or_from}
use Rattle.std.proofs.lemmas.List.Folds.{list_any-append}
use Rattle.satip_table.specs.declared.stream.Stream.{Stream}
use Rattle.satip_table.specs.Streams.{gap, has_number, is_live, least_number, put_stream}
use Rattle.satip_table.specs.Living.{NumbersRise}
use Rattle.satip_table.proofs.Listing.{any-cond}

abbrev lesser : ℕ → Stream → Bool
lesser number other = nat_lt other.number number

abbrev greater : ℕ → Stream → Bool
greater number other = nat_lt number other.number

-- all streams are numbered above this number
record AllGreater (number : ℕ) (streams : List Stream) : Type 0 where
  dead : is_live streams number ≡ false
  none : filter (lesser number) streams ≡ []
  all : filter (greater number) streams ≡ streams

all_greater : (above number : ℕ) (streams : List Stream) → NumbersRise above streams → number ≤ above → AllGreater number streams
all_greater above number [] rise least = record { dead = refl; none = refl; all = refl }
all_greater above number (stream ∷ streams) rise least =
    let more : number < stream.number = omega (arith, rise.0) in
    let rest = all_greater stream.number number streams rise.1 (omega arith) in
    record {
      dead = or_from _ _ (ne_eqb stream.number number (λ e. omega arith)) rest.dead;
      none = ap (λ b. cond b (stream ∷ filter (lesser number) streams) (filter (lesser number) streams)) (le-ltb stream.number number (omega arith))
          ∙ rest.none;
      all = ap (λ b. cond b (stream ∷ filter (greater number) streams) (filter (greater number) streams)) (lt-ltb number stream.number more)
          ∙ ap (λ ss. stream ∷ ss) rest.all;
    }

-- the number behind the streams that are numbered in order is the least that doesn't live
pub record IsGap (above number : ℕ) (streams : List Stream) : Type 0 where
  pub dead : is_live streams number ≡ false
  pub front : filter (lesser number) streams ≡ take (gap (above + 1) streams) streams
  pub back : filter (greater number) streams ≡ drop (gap (above + 1) streams) streams
  pub lively : (other : ℕ) → above < other → other < number → is_live streams other ≡ true
  pub within : gap (above + 1) streams ≤ length streams

-- a number that is at most as far as the streams are numbered in order
at_or_above : (above number : ℕ) (stream : Stream) (streams : List Stream) (other : ℕ) → above < other → other < number
    → ((m : ℕ) → stream.number < m → m < number → is_live streams m ≡ true) → stream.number ≡ above + 1 → is_live (stream ∷ streams) other ≡ true
at_or_above above number stream streams other low high lively here = cases (stream.number == other) refl
  where
    cases : (b : Bool) → (stream.number == other) ≡ b → is_live (stream ∷ streams) other ≡ true
    cases true same = or_left _ _ same
    cases false apart =
        let differs : stream.number ≡ other → ⊥ = eqb-false stream.number other apart in
        or_right _ _ (lively other (omega arith) high)

pub is_gap : (above number : ℕ) (streams : List Stream) → NumbersRise above streams → number ≡ above + 1 + gap (above + 1) streams → IsGap above number streams
is_gap above number [] rise at = record { dead = refl; front = refl; back = refl; lively = λ other low high. absurd (omega arith); within = omega arith }
is_gap above number (stream ∷ streams) rise at = each (stream.number == above + 1) refl at (λ here. is_gap stream.number number streams rise.1 here)
  where
    each : (b : Bool) → (stream.number == above + 1) ≡ b → number ≡ above + 1 + cond b (suc (gap (above + 1 + 1) streams)) 0
        → (number ≡ stream.number + 1 + gap (stream.number + 1) streams → IsGap stream.number number streams)
        → IsGap above number (stream ∷ streams)
    each true same there rest =
        let here : stream.number ≡ above + 1 = eqb-true stream.number (above + 1) same in
        let next : gap (above + 1 + 1) streams ≡ gap (stream.number + 1) streams = ap (λ n. gap (n + 1) streams) (sym here) in
        let found = rest (omega arith) in
        let less : stream.number < number = omega arith in
        let counted : gap (above + 1) (stream ∷ streams) ≡ suc (gap (stream.number + 1) streams) = ap (λ b. cond b (suc (gap (above + 1 + 1) streams)) 0) same
        ∙ ap suc next in
        record {
          dead = or_from _ _ (ne_eqb stream.number number (λ e. omega arith)) found.dead;
          front = ap (λ b. cond b (stream ∷ filter (lesser number) streams) (filter (lesser number) streams)) (lt-ltb stream.number number less)
              ∙ ap (λ ss. stream ∷ ss) found.front ∙ ap (λ n. take n (stream ∷ streams)) (sym counted);
          back = ap (λ b. cond b (stream ∷ filter (greater number) streams) (filter (greater number) streams)) (le-ltb number stream.number (omega arith))
              ∙ found.back ∙ ap (λ n. drop n (stream ∷ streams)) (sym counted);
          lively = λ other low high. at_or_above above number stream streams other low high found.lively here;
          within = let w : gap (stream.number + 1) streams ≤ length streams = found.within in omega arith;
        }
    each false other there rest =
        let apart : stream.number ≡ above + 1 → ⊥ = eqb-false stream.number (above + 1) other in
        let low : above < stream.number = rise.0 in
        let next : number < stream.number = omega arith in
        let above_all = all_greater number number (stream ∷ streams) (next, rise.1) (omega arith) in
        let counted : gap (above + 1) (stream ∷ streams) ≡ 0 = ap (λ b. cond b (suc (gap (above + 1 + 1) streams)) 0) other in
        record {
          dead = above_all.dead;
          front = above_all.none ∙ ap (λ n. take n (stream ∷ streams)) (sym counted);
          back = above_all.all ∙ ap (λ n. drop n (stream ∷ streams)) (sym counted);
          lively = λ m least high. absurd (omega arith);
          within = omega arith;
        }

-- the stream comes first, or takes the place of one of its number
put_first : (above : ℕ) (stream other : Stream) (streams : List Stream) → NumbersRise above (other ∷ streams) → above < stream.number
    → stream.number ≤ other.number → filter (greater stream.number) streams ≡ streams
    → (b : Bool) → nat_lt stream.number other.number ≡ b
    → NumbersRise above (stream ∷ cond b (other ∷ filter (greater stream.number) streams) (filter (greater stream.number) streams))
put_first above stream other streams rise more from all true less =
    (more, (ltb-true stream.number other.number less, subst (λ ss. NumbersRise other.number ss) (sym all) rise.1))
put_first above stream other streams rise more from all false least =
    let back : other.number ≤ stream.number = ltb-false stream.number other.number least in
    let same : stream.number ≡ other.number = omega arith in
    (more, subst (λ n. NumbersRise n (filter (greater stream.number) streams)) (sym same) (subst (λ ss. NumbersRise other.number ss) (sym all) rise.1))

-- the streams with one more go on to rise
pub numbers_put : (above : ℕ) (stream : Stream) (streams : List Stream) → NumbersRise above streams → above < stream.number
    → NumbersRise above (put_stream stream streams)
unfolding put_stream
numbers_put above stream [] rise more = (more, tt)
numbers_put above stream (other ∷ streams) rise more = each (nat_lt other.number stream.number) refl (numbers_put other.number stream streams rise.1)
  where
    each : (b : Bool) → nat_lt other.number stream.number ≡ b → (other.number < stream.number → NumbersRise other.number (put_stream stream streams))
        → NumbersRise above (cond b (other ∷ filter (lesser stream.number) streams) (filter (lesser stream.number) streams)
        ++ stream ∷ filter (greater stream.number) (other ∷ streams))
    each true less rest =
        let below : other.number < stream.number = ltb-true other.number stream.number less in
        subst (λ b. NumbersRise above (other ∷ (filter (lesser stream.number) streams
        ++ stream ∷ cond b (other ∷ filter (greater stream.number) streams) (filter (greater stream.number) streams))))
        (sym (le-ltb stream.number other.number (omega arith))) (rise.0, rest below)
    each false least rest =
        let from : stream.number ≤ other.number = ltb-false other.number stream.number least in
        let behind = all_greater other.number stream.number streams rise.1 from in
        subst (λ ss. NumbersRise above (ss ++ stream ∷ filter (greater stream.number) (other ∷ streams))) (sym behind.none)
        (put_first above stream other streams rise more from behind.all (nat_lt stream.number other.number) refl)

-- a test of numbers lets the streams of a number through or not
pub live-filter : (q : ℕ → Bool) (number : ℕ) (streams : List Stream)
    → is_live (filter (λ (stream : Stream). q stream.number) streams) number ≡ (is_live streams number && q number)
live-filter q number [] = refl
live-filter q number (stream ∷ streams) =
    any-cond (has_number number) (q stream.number) stream (filter (λ (s : Stream). q s.number) streams)
    ∙ each (q stream.number) (stream.number == number) (is_live (filter (λ (s : Stream). q s.number) streams) number) (is_live streams number) (q number)
    (λ same. ap q (eqb-true stream.number number same)) (live-filter q number streams)
  where
    each : (a b kept rest d : Bool) → (b ≡ true → a ≡ d) → kept ≡ (rest && d) → cond a (b || kept) kept ≡ ((b || rest) && d)
    each true true kept rest d same is = same refl
    each true false kept rest d same is = is
    each false true kept true d same is = is ∙ sym (same refl) ∙ same refl
    each false true kept false d same is = is ∙ same refl
    each false false kept rest d same is = is

-- a number that lived lives on, and that of the new stream lives
pub live-put : (stream : Stream) (streams : List Stream) (number : ℕ) → is_live streams number ≡ true → is_live (put_stream stream streams) number ≡ true
unfolding put_stream
live-put stream streams number lives =
    list_any-append (has_number number) (filter (lesser stream.number) streams) (stream ∷ filter (greater stream.number) streams)
    ∙ ap (λ b. b || (stream.number == number || is_live (filter (greater stream.number) streams) number))
    (live-filter (λ n. nat_lt n stream.number) number streams)
    ∙ ap (λ b. (is_live streams number && nat_lt number stream.number) || (stream.number == number || b))
    (live-filter (λ n. nat_lt stream.number n) number streams)
    ∙ ap (λ b. (b && nat_lt number stream.number) || (stream.number == number || (b && nat_lt stream.number number))) lives
    ∙ one_of (cases_order number stream.number)
  where
    one_of : (number ≡ stream.number) ⊎ ((number < stream.number) ⊎ (stream.number < number))
        → (nat_lt number stream.number || (stream.number == number || nat_lt stream.number number)) ≡ true
    one_of (inl same) = or_right _ _ (or_left _ _ (eq-eqb stream.number number (sym same)))
    one_of (inr (inl less)) = or_left _ _ (lt-ltb number stream.number less)
    one_of (inr (inr more)) = or_right _ _ (or_right _ _ (lt-ltb stream.number number more))

pub live-put_itself : (stream : Stream) (streams : List Stream) → is_live (put_stream stream streams) stream.number ≡ true
unfolding put_stream
live-put_itself stream streams =
    list_any-append (has_number stream.number) (filter (lesser stream.number) streams) (stream ∷ filter (greater stream.number) streams)
    ∙ or_right _ _ (or_left _ _ (eq-eqb stream.number stream.number refl))

-- the streams that pass, and streams that are changed but for their numbers
numbers_lower : (above below : ℕ) (streams : List Stream) → below ≤ above → NumbersRise above streams → NumbersRise below streams
numbers_lower above below [] less rise = tt
numbers_lower above below (stream ∷ streams) less rise = (omega (arith, rise.0), rise.1)

pub numbers_filter : (p : Stream → Bool) (above : ℕ) (streams : List Stream) → NumbersRise above streams → NumbersRise above (filter p streams)
numbers_filter p above [] rise = tt
numbers_filter p above (stream ∷ streams) rise = each (p stream) (numbers_filter p stream.number streams rise.1)
  where
    each : (b : Bool) → NumbersRise stream.number (filter p streams) → NumbersRise above (cond b (stream ∷ filter p streams) (filter p streams))
    each true rest = (rise.0, rest)
    each false rest = numbers_lower stream.number above (filter p streams) (omega (arith, rise.0)) rest

pub numbers_map : (h : Stream → Stream) → ((stream : Stream) → (h stream).number ≡ stream.number) → (above : ℕ) (streams : List Stream)
    → NumbersRise above streams → NumbersRise above (map h streams)
numbers_map h keeps above [] rise = tt
numbers_map h keeps above (stream ∷ streams) rise =
    (omega (arith, rise.0, keeps stream), subst (λ n. NumbersRise n (map h streams)) (sym (keeps stream)) (numbers_map h keeps stream.number streams rise.1))

pub live-map : (h : Stream → Stream) → ((stream : Stream) → (h stream).number ≡ stream.number) → (number : ℕ) (streams : List Stream)
    → is_live (map h streams) number ≡ is_live streams number
live-map h keeps number [] = refl
live-map h keeps number (stream ∷ streams) =
    ap (λ n. n == number || is_live (map h streams) number) (keeps stream) ∙ ap (λ b. stream.number == number || b) (live-map h keeps number streams)

-- the stream of the least free number is put in behind the streams that are numbered in order
pub put-gap : (stream : Stream) (streams : List Stream) → NumbersRise 0 streams → stream.number ≡ 0 + 1 + gap 1 streams
    → insert streams (stream.number - 1) stream ≡ put_stream stream streams
unfolding put_stream
put-gap stream streams rise at =
    let found = is_gap 0 stream.number streams rise at in
    let place : stream.number - 1 ≡ gap 1 streams = omega arith in
    ap (λ n. take n streams ++ stream ∷ drop n streams) place
    ∙ ap (λ front. front ++ stream ∷ drop (gap 1 streams) streams) (sym found.front)
    ∙ ap (λ back. filter (lesser stream.number) streams ++ stream ∷ back) (sym found.back)

-- and its number is the least from 1 to 64 that doesn't live
find_first : (lives : ℕ → Bool) (number from count : ℕ) → from ≤ number → number < from + count
    → ((other : ℕ) → from ≤ other → other < number → lives other ≡ true) → lives number ≡ false
    → find (λ n. not (lives n)) (range_with_len from count) ≡ Some number
find_first lives number from zero low high all dead = absurd (omega arith)
find_first lives number from (suc count) low high all dead =
    each (cases_eq from number) (λ next. find_first lives number (from + 1) count next (omega arith) (λ other least below. all other (omega arith) below) dead)
  where
    each : (from ≡ number) ⊎ (from ≡ number → ⊥) → (from + 1 ≤ number → find (λ n. not (lives n)) (range_with_len (from + 1) count) ≡ Some number)
        → cond (not (lives from)) (Some from) (find (λ n. not (lives n)) (range_with_len (from + 1) count)) ≡ Some number
    each (inl here) rest =
        ap (λ b. cond (not b) (Some from) (find (λ n. not (lives n)) (range_with_len (from + 1) count))) (ap lives here ∙ dead) ∙ ap Some here
    each (inr later) rest =
        let less : from < number = omega arith in
        ap (λ b. cond (not b) (Some from) (find (λ n. not (lives n)) (range_with_len (from + 1) count))) (all from (omega arith) less) ∙ rest (omega arith)

pub least-gap : (number : ℕ) (streams : List Stream) → NumbersRise 0 streams → number ≡ 0 + 1 + gap 1 streams → number ≤ 64
    → number ≡ least_number (is_live streams)
least-gap number streams rise at few =
    let found = is_gap 0 number streams rise at in
    sym (ap (λ o. unwrap_or o 65) (find_first (is_live streams) number 1 64 (omega arith) (omega arith)
    (λ other low high. found.lively other (omega arith) high) found.dead))
