-- Replies that are turned line by line.
use Rattle.std.proofs.Common.{ℕ, ◌≡◌, ◌==◌, ◌<◌, ◌≤◌, ◌+◌, ◌-◌, ◌*◌, ◌^◌, Bool, true, false, cond, if◌then◌else◌, List, [], ◌∷◌, ◌++◌, length, take, drop, Option, None, Some, IfSome, option_and_then, refl, sym, ap, subst, ◌∙◌, arith, length-append, append_assoc}
use Rattle.std.specs.List.{after_first, before_first, join_with_byte, slice_split}
use Rattle.std.specs.Option.{option_map_or}
use Rattle.std.proofs.lemmas.List.{length-take}
use Rattle.std.proofs.lemmas.Slice.Eq.{bytes_eq-Decides}
use Rattle.std.proofs.lemmas.List.Splits.{join_with_byte-slice_split, length-slice_split}
use Rattle.satip_base.specs.Numbers.{number_of}
use Rattle.satip_base.specs.declared.network.Ports.{Ports}
use Rattle.satip_base.proofs.NumberLemmas.{length-decimal_u16}
use Rattle.satip_tune.specs.Pieces.{is_byte}
use Rattle.satip_rtsp.specs.Targets.{is_begun_with}
use Rattle.satip_rtsp.specs.Transports.{both_ports, port_at_most}
use Rattle.satip_rtsp.proofs.CseqLemmas.{number_of-le}
use Rattle.satip_rtsp_interleaved.specs.Turned.{channel_line, is_empty_line, ports_beside, ports_name, told_ports, turned, turned_line, turned_lines, before_return}

-- as many pieces as before
same_count : (line : List ℕ) (parts turned_parts : List (List ℕ)) (b : Bool) → length turned_parts ≡ length parts
    → length (cond b (line ∷ parts) (turned_line line ∷ turned_parts)) ≡ length parts + 1
same_count line parts turned_parts true e = omega arith
same_count line parts turned_parts false e = omega (arith, e)

length-turned_lines : (parts : List (List ℕ)) → length (turned_lines parts) ≡ length parts
length-turned_lines [] = refl
length-turned_lines (last ∷ []) = refl
length-turned_lines (line ∷ next ∷ others) =
    same_count line (next ∷ others) (turned_lines (next ∷ others)) (is_empty_line line) (length-turned_lines (next ∷ others)) ∙ omega arith

-- a piece in front of others
join_front : (c : ℕ) (x : List ℕ) (parts : List (List ℕ)) → 0 < length parts → join_with_byte c (x ∷ parts) ≡ x ++ c ∷ join_with_byte c parts
join_front c x [] some = absurd (omega arith)
join_front c x (y ∷ parts) some = refl

turned_front : (line : List ℕ) (parts : List (List ℕ)) → 0 < length parts → is_empty_line line ≡ false
    → join_with_byte 10 (turned_lines (line ∷ parts)) ≡ turned_line line ++ 10 ∷ join_with_byte 10 (turned_lines parts)
turned_front line [] some is = absurd (omega arith)
turned_front line (next ∷ others) some is =
    ap (λ b. join_with_byte 10 (cond b (line ∷ next ∷ others) (turned_line line ∷ turned_lines (next ∷ others)))) is
    ∙ join_front 10 (turned_line line) (turned_lines (next ∷ others)) (omega (arith, length-turned_lines (next ∷ others)))

kept_front : (line : List ℕ) (parts : List (List ℕ)) → is_empty_line line ≡ true → turned_lines (line ∷ parts) ≡ line ∷ parts
kept_front line [] is = refl
kept_front line (next ∷ others) is = ap (λ b. cond b (line ∷ next ∷ others) (turned_line line ∷ turned_lines (next ∷ others))) is

-- a line of the head
pub turned_step : (left line rest : List ℕ) → slice_split (is_byte 10) left ≡ line ∷ slice_split (is_byte 10) rest → is_empty_line line ≡ false
    → turned left ≡ turned_line line ++ 10 ∷ turned rest
unfolding turned
turned_step left line rest split is =
    ap (λ parts. join_with_byte 10 (turned_lines parts)) split
    ∙ turned_front line (slice_split (is_byte 10) rest) (omega (arith, length-slice_split (is_byte 10) rest)) is

-- the empty line, and what stands behind it
pub turned_end : (left line rest : List ℕ) → slice_split (is_byte 10) left ≡ line ∷ slice_split (is_byte 10) rest → is_empty_line line ≡ true
    → turned left ≡ left
unfolding turned
turned_end left line rest split is =
    ap (λ parts. join_with_byte 10 (turned_lines parts)) split
    ∙ ap (join_with_byte 10) (kept_front line (slice_split (is_byte 10) rest) is ∙ sym split)
    ∙ join_with_byte-slice_split 10 left

-- what has no line feed
pub turned_last : (left line : List ℕ) → slice_split (is_byte 10) left ≡ line ∷ [] → turned left ≡ left
unfolding turned
turned_last left line split =
    ap (λ parts. join_with_byte 10 (turned_lines parts)) split
    ∙ ap (join_with_byte 10) (sym split)
    ∙ join_with_byte-slice_split 10 left

-- what can't be more than twice as long

-- ports of 16 bits
abbrev ArePorts : Ports → Type 0
ArePorts ports = (ports.rtp < 2 ^ 16) × (ports.rtcp < 2 ^ 16)

port_within : (text : List ℕ) → IfSome (port_at_most 65535 text) (λ n. n < 2 ^ 16)
port_within text = by (number_of 65535 text) refl
  where
    not_zero : (n : ℕ) (b : Bool) → n ≤ 65535 → IfSome (cond b None (Some n)) (λ m. m < 2 ^ 16)
    not_zero n true le = tt
    not_zero n false le = omega (arith, le)

    by : (read : Option ℕ) → number_of 65535 text ≡ read → IfSome (option_and_then (λ n. if n == 0 then None else Some n) read) (λ n. n < 2 ^ 16)
    by None e = tt
    by (Some n) e = not_zero n (n == 0) (number_of-le 65535 text n e)

both_within : (a b : Option ℕ) → IfSome a (λ n. n < 2 ^ 16) → IfSome b (λ n. n < 2 ^ 16) → IfSome (both_ports a b) ArePorts
both_within (Some a) (Some b) first second = (first, second)
both_within (Some a) None first second = tt
both_within None b first second = tt

between_within : (text : Option (List ℕ)) → IfSome (option_and_then ports_beside text) ArePorts
between_within None = tt
between_within (Some text) = both_within _ _ (port_within (before_first (is_byte 45) text)) (port_within (after_first (is_byte 45) text))

length-channel_line-le : (ports : Ports) → ArePorts ports → length (channel_line ports) ≤ 78
unfolding channel_line
length-channel_line-le ports (rtp, rtcp) =
    simp length-append (omega (arith, length-decimal_u16 (ports.rtp - 1) (omega arith), length-decimal_u16 (ports.rtcp - 1) (omega arith)))

-- a line that begins like one that tells ports is as long as that
named_long : (line : List ℕ) → is_begun_with ports_name line ≡ true → 39 ≤ length line
named_long line is =
    let same : take 39 line ≡ ports_name = (bytes_eq-Decides (take 39 line) ports_name).0 is in
    let size : length (take 39 line) ≡ 39 = ap length same in
    omega (arith, size, length-take 39 line)

length-turned_line-le : (line : List ℕ) → length (turned_line line) ≤ 2 * length line
unfolding told_ports
length-turned_line-le line = by (is_begun_with ports_name line) refl
  where
    of_ports : (told : Option Ports) → IfSome told ArePorts → 39 ≤ length line → length (option_map_or channel_line told line) ≤ 2 * length line
    of_ports None within long = omega arith
    of_ports (Some ports) within long = omega (arith, long, length-channel_line-le ports within)

    by : (b : Bool) → is_begun_with ports_name line ≡ b
        → length (option_map_or channel_line (option_and_then ports_beside (option_and_then before_return (cond b (Some (drop 39 line)) None))) line)
        ≤ 2 * length line
    by true is = of_ports _ (between_within (before_return (drop 39 line))) (named_long line is)
    by false is = omega arith

twice_front : (line : List ℕ) (parts turned_parts : List (List ℕ)) (b : Bool) → 0 < length parts → 0 < length turned_parts
    → length (join_with_byte 10 turned_parts) ≤ 2 * length (join_with_byte 10 parts)
    → length (join_with_byte 10 (cond b (line ∷ parts) (turned_line line ∷ turned_parts))) ≤ 2 * length (join_with_byte 10 (line ∷ parts))
twice_front line parts turned_parts true some turned_some rest = omega arith
twice_front line parts turned_parts false some turned_some rest =
    let new : length (join_with_byte 10 (turned_line line ∷ turned_parts)) ≡ length (turned_line line ++ 10 ∷ join_with_byte 10 turned_parts) =
    ap length (join_front 10 (turned_line line) turned_parts turned_some) in
    let old : length (join_with_byte 10 (line ∷ parts)) ≡ length (line ++ 10 ∷ join_with_byte 10 parts) = ap length (join_front 10 line parts some) in
    omega (
      arith,
      new,
      old,
      length-append (turned_line line) (10 ∷ join_with_byte 10 turned_parts),
      length-append line (10 ∷ join_with_byte 10 parts),
      length-turned_line-le line,
      rest,
    )

twice_lines : (parts : List (List ℕ)) → length (join_with_byte 10 (turned_lines parts)) ≤ 2 * length (join_with_byte 10 parts)
twice_lines [] = omega arith
twice_lines (last ∷ []) = omega arith
twice_lines (line ∷ next ∷ others) =
    twice_front line (next ∷ others) (turned_lines (next ∷ others)) (is_empty_line line) (omega arith) (omega (arith, length-turned_lines (next ∷ others)))
    (twice_lines (next ∷ others))

pub length-turned-le : (reply : List ℕ) → length (turned reply) ≤ 2 * length reply
unfolding turned
length-turned-le reply =
    let same : join_with_byte 10 (slice_split (is_byte 10) reply) ≡ reply = join_with_byte-slice_split 10 reply in
    subst (λ text. length (join_with_byte 10 (turned_lines (slice_split (is_byte 10) reply))) ≤ 2 * length text) same
    (twice_lines (slice_split (is_byte 10) reply))

-- there is room for what is to come
pub begun_room : (reply left items : List ℕ) (room : ℕ) → turned reply ≡ items ++ turned left → length reply ≤ 131072 → 262144 ≤ room
    → length items + length (turned left) ≤ room
begun_room reply left items room begun whole spare =
    omega (arith, ap length begun, length-append items (turned left), length-turned-le reply, whole, spare)

-- one more line
pub begun_more : (reply left line rest items with_line with_end : List ℕ) → turned reply ≡ items ++ turned left
    → turned left ≡ turned_line line ++ 10 ∷ turned rest → with_line ≡ items ++ turned_line line → with_end ≡ with_line ++ 10 ∷ []
    → turned reply ≡ with_end ++ turned rest
begun_more reply left line rest items with_line with_end begun is first second =
    begun ∙ ap (λ t. items ++ t) is ∙ sym (append_assoc items (turned_line line) (10 ∷ turned rest)) ∙ ap (λ t. t ++ 10 ∷ turned rest) (sym first)
    ∙ sym (append_assoc with_line (10 ∷ []) (turned rest)) ∙ ap (λ t. t ++ turned rest) (sym second)

-- the rest as it is
pub begun_whole : (reply left items all : List ℕ) → turned reply ≡ items ++ turned left → turned left ≡ left → all ≡ items ++ left → all ≡ turned reply
begun_whole reply left items all begun same is = is ∙ sym (begun ∙ ap (λ t. items ++ t) same)
