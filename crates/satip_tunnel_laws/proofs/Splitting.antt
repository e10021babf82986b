-- No piece begins another, so that bytes split in one way into pieces.
use Rattle.std.proofs.Common.{◌≡◌, ◌∙◌, ℕ, ◌/◌, ◌%◌, ◌<◌, ◌==◌, not, Bool, true, false, List, [], ◌∷◌, ◌++◌, length, append_assoc, arith, refl, sym, ap, subst, inl, inr}
use Rattle.std.specs.Prelude.{codes}
use Rattle.std.specs.List.{list_all, flat_map}
use Rattle.std.proofs.lemmas.Bool.{true≢false, and_parts}
use Rattle.std.proofs.lemmas.List.{append_cancel_left}
use Rattle.satip_base.specs.Lists.{Each}
use Rattle.satip_rtsp_interleaved.specs.Frames.{frame}
use Rattle.satip_tunnel_laws.specs.Pieces.{IsFrame, IsLine, IsPiece, IsReply, NoneBeginsAnother, SplitOneWay, is_plain, lined, told_size}

cons_is : (a b : ℕ) (xs bs : List ℕ) → a ∷ xs ≡ b ∷ bs → (a ≡ b) × (xs ≡ bs)
cons_is a b xs bs e = (cc e, cc e)

-- fronts of one length

same_front : (a b more others : List ℕ) → length a ≡ length b → a ++ more ≡ b ++ others → a ≡ b
same_front [] [] more others len e = refl
same_front [] (b ∷ bs) more others len e = absurd (omega (arith, len))
same_front (a ∷ xs) [] more others len e = absurd (omega (arith, len))
same_front (a ∷ xs) (b ∷ bs) more others len e =
    let parts = cons_is a b (xs ++ more) (bs ++ others) e in
    let rest : xs ≡ bs = same_front xs bs more others (omega (arith, len)) parts.1 in
    ap (λ x. x ∷ xs) parts.0 ∙ ap (λ xs. b ∷ xs) rest

-- plain bytes up to the first CR

plain_parts : (b : ℕ) (bs : List ℕ) → list_all is_plain (b ∷ bs) ≡ true → ((b == 13) ≡ false) × (list_all is_plain bs ≡ true)
plain_parts b bs plain =
    let both = and_parts (is_plain b) (list_all is_plain bs) plain in
    (not_true (b == 13) (and_parts (not (b == 13)) (not (b == 10)) both.0).0, both.1)
  where
    not_true : (t : Bool) → not t ≡ true → t ≡ false
    not_true true e = absurd (true≢false (sym e))
    not_true false e = refl

record SameLine (a b more others : List ℕ) : Type 0 where
  line : a ≡ b
  rest : more ≡ others

same_line : (a b more others : List ℕ) → list_all is_plain a ≡ true → list_all is_plain b ≡ true → a ++ 13 ∷ more ≡ b ++ 13 ∷ others → SameLine a b more others
same_line [] [] more others plain_a plain_b e = record { line = refl; rest = (cons_is 13 13 more others e).1 }
same_line [] (b ∷ bs) more others plain_a plain_b e =
    let parts = cons_is 13 b more (bs ++ 13 ∷ others) e in
    absurd (true≢false (ap (λ n. n == 13) parts.0 ∙ (plain_parts b bs plain_b).0))
same_line (a ∷ xs) [] more others plain_a plain_b e =
    let parts = cons_is a 13 (xs ++ 13 ∷ more) others e in
    absurd (true≢false (ap (λ n. n == 13) (sym parts.0) ∙ (plain_parts a xs plain_a).0))
same_line (a ∷ xs) (b ∷ bs) more others plain_a plain_b e =
    let parts = cons_is a b (xs ++ 13 ∷ more) (bs ++ 13 ∷ others) e in
    let r = same_line xs bs more others (plain_parts a xs plain_a).1 (plain_parts b bs plain_b).1 parts.1 in
    record { line = ap (λ x. x ∷ xs) parts.0 ∙ ap (λ xs. b ∷ xs) r.line; rest = r.rest }

-- heads

record SameHead (ls ks : List (List ℕ)) (more others : List ℕ) : Type 0 where
  lines : ls ≡ ks
  rest : more ≡ others

regrouped : (l more : List ℕ) (ls : List (List ℕ)) → lined (l ∷ ls) ++ 13 ∷ 10 ∷ more ≡ l ++ 13 ∷ 10 ∷ (lined ls ++ 13 ∷ 10 ∷ more)
regrouped l more ls = append_assoc l (13 ∷ 10 ∷ lined ls) (13 ∷ 10 ∷ more)

-- a line isn't empty
no_empty : (l more others : List ℕ) → IsLine l → 13 ∷ more ≡ l ++ 13 ∷ others → ⊥
no_empty [] more others is e = absurd (omega (arith, is.0))
no_empty (b ∷ bs) more others is e =
    true≢false (ap (λ n. n == 13) (cons_is 13 b more (bs ++ 13 ∷ others) e).0 ∙ (plain_parts b bs is.1).0)

same_head : (ls ks : List (List ℕ)) (more others : List ℕ) → Each IsLine ls → Each IsLine ks → lined ls ++ 13 ∷ 10 ∷ more ≡ lined ks ++ 13 ∷ 10 ∷ others
    → SameHead ls ks more others
same_head [] [] more others all_l all_k e =
    record { lines = refl; rest = (cons_is 10 10 more others (cons_is 13 13 (10 ∷ more) (10 ∷ others) e).1).1 }
same_head [] (k ∷ ks) more others all_l all_k e = absurd (no_empty k (10 ∷ more) (10 ∷ (lined ks ++ 13 ∷ 10 ∷ others)) all_k.0 (e ∙ regrouped k others ks))
same_head (l ∷ ls) [] more others all_l all_k e =
    absurd (no_empty l (10 ∷ others) (10 ∷ (lined ls ++ 13 ∷ 10 ∷ more)) all_l.0 (sym e ∙ regrouped l more ls))
same_head (l ∷ ls) (k ∷ ks) more others all_l all_k e =
    let first = same_line l k (10 ∷ (lined ls ++ 13 ∷ 10 ∷ more)) (10 ∷ (lined ks ++ 13 ∷ 10 ∷ others)) all_l.0.1 all_k.0.1
    (sym (regrouped l more ls) ∙ e ∙ regrouped k others ks) in
    let r = same_head ls ks more others all_l.1 all_k.1 (cons_is 10 10 (lined ls ++ 13 ∷ 10 ∷ more) (lined ks ++ 13 ∷ 10 ∷ others) first.rest).1 in
    record { lines = ap (λ x. x ∷ ls) first.line ∙ ap (λ xs. k ∷ xs) r.lines; rest = r.rest }

first_line : (status : List ℕ) → list_all is_plain status ≡ true → IsLine (codes "RTSP/1.0 " ++ status)
first_line status plain = (omega arith, plain)

-- two replies

head_first : (a more : List ℕ) (is : IsReply a)
    → a ++ more ≡ lined ((codes "RTSP/1.0 " ++ is.status) ∷ is.lines) ++ 13 ∷ 10 ∷ (is.body ++ more)
head_first a more is =
    ap (λ t. t ++ more) is.text_is ∙ append_assoc (lined ((codes "RTSP/1.0 " ++ is.status) ∷ is.lines)) (13 ∷ 10 ∷ is.body) more

line_rest : (l k : List ℕ) (ls ks : List (List ℕ)) → l ∷ ls ≡ k ∷ ks → ls ≡ ks
line_rest l k ls ks e = cc e

same_reply : (a b more others : List ℕ) → IsReply a → IsReply b → a ++ more ≡ b ++ others → a ≡ b
same_reply a b more others is_a is_b e =
    let ls = (codes "RTSP/1.0 " ++ is_a.status) ∷ is_a.lines in
    let ks = (codes "RTSP/1.0 " ++ is_b.status) ∷ is_b.lines in
    let same = same_head ls ks (is_a.body ++ more) (is_b.body ++ others) (first_line is_a.status is_a.plain, is_a.each)
    (first_line is_b.status is_b.plain, is_b.each)
    (sym (head_first a more is_a) ∙ e ∙ head_first b others is_b) in
    let sizes : length is_a.body ≡ length is_b.body =
    is_a.size ∙ ap told_size (line_rest (codes "RTSP/1.0 " ++ is_a.status) (codes "RTSP/1.0 " ++ is_b.status) is_a.lines is_b.lines same.lines)
    ∙ sym is_b.size in
    is_a.text_is
    ∙ ap (λ (xs : List (List ℕ)). lined xs ++ 13 ∷ 10 ∷ is_a.body) same.lines
    ∙ ap (λ body. lined ks ++ 13 ∷ 10 ∷ body) (same_front is_a.body is_b.body more others sizes same.rest)
    ∙ sym is_b.text_is

-- two frames

same_length : (n m : ℕ) → n / 256 ≡ m / 256 → n % 256 ≡ m % 256 → n ≡ m
same_length n m high low = omega (arith, high, low)

frame_is : (c d : ℕ) (xs bs more others : List ℕ) → frame c xs ++ more ≡ frame d bs ++ others → frame c xs ≡ frame d bs
frame_is c d xs bs more others e =
    let channels = cons_is c d _ _ (cons_is 36 36 _ _ e).1 in
    let highs = cons_is (length xs / 256) (length bs / 256) _ _ channels.1 in
    let lows = cons_is (length xs % 256) (length bs % 256) _ _ highs.1 in
    let size : length xs ≡ length bs = same_length (length xs) (length bs) highs.0 lows.0 in
    let content : xs ≡ bs = same_front xs bs more others size lows.1 in
    ap (λ ch. frame ch xs) channels.0 ∙ ap (frame d) content

same_frame : (a b more others : List ℕ) → IsFrame a → IsFrame b → a ++ more ≡ b ++ others → a ≡ b
same_frame a b more others is_a is_b e =
    is_a.text_is
    ∙ frame_is is_a.channel is_b.channel is_a.bytes is_b.bytes more others
    (ap (λ t. t ++ more) (sym is_a.text_is) ∙ e ∙ ap (λ t. t ++ others) is_b.text_is)
    ∙ sym is_b.text_is

-- a reply and a frame

not_frame : (a b more others : List ℕ) → IsReply a → IsFrame b → a ++ more ≡ b ++ others → ⊥
not_frame a b more others is_a is_b e =
    let firsts = cons_is 82 36 _ _ (sym (head_first a more is_a) ∙ e ∙ ap (λ t. t ++ others) is_b.text_is) in
    true≢false (sym (ap (λ n. n == 36) firsts.0))

pub none_begins_another : NoneBeginsAnother
none_begins_another a b more others (inl is_a) (inl is_b) e = same_reply a b more others is_a is_b e
none_begins_another a b more others (inl is_a) (inr is_b) e = absurd (not_frame a b more others is_a is_b e)
none_begins_another a b more others (inr is_a) (inl is_b) e = absurd (not_frame b a others more is_b is_a (sym e))
none_begins_another a b more others (inr is_a) (inr is_b) e = same_frame a b more others is_a is_b e

-- no piece is empty
some_bytes : (a : List ℕ) → IsPiece a → 0 < length a
some_bytes a (inl is) = subst (λ (t : List ℕ). 0 < length t) (sym is.text_is) (omega arith)
some_bytes a (inr is) = subst (λ (t : List ℕ). 0 < length t) (sym is.text_is) (omega arith)

not_nothing : (a rest : List ℕ) → 0 < length a → [] ≡ a ++ rest → ⊥
not_nothing [] rest some e = omega (arith, some)
not_nothing (b ∷ bs) rest some e = absurd (cc e)

pub split_one_way : SplitOneWay
split_one_way [] [] all_p all_q e = refl
split_one_way [] (q ∷ qs) all_p all_q e = absurd (not_nothing q (flat_map (λ r. r) qs) (some_bytes q all_q.0) e)
split_one_way (p ∷ ps) [] all_p all_q e = absurd (not_nothing p (flat_map (λ r. r) ps) (some_bytes p all_p.0) (sym e))
split_one_way (p ∷ ps) (q ∷ qs) all_p all_q e =
    let same : p ≡ q = none_begins_another p q (flat_map (λ r. r) ps) (flat_map (λ r. r) qs) all_p.0 all_q.0 e in
    let rest : flat_map (λ r. r) ps ≡ flat_map (λ r. r) qs =
    append_cancel_left q (flat_map (λ r. r) ps) (flat_map (λ r. r) qs) (ap (λ t. t ++ flat_map (λ r. r) ps) (sym same) ∙ e) in
    ap (λ x. x ∷ ps) same ∙ ap (λ (xs : List (List ℕ)). q ∷ xs) (split_one_way ps qs all_p.1 all_q.1 rest)
