-- A reply whose transport is told in channels is still one by its form.
use Rattle.std.proofs.Common.{◌≡◌, ◌∙◌, ℕ, ◌-◌, ◌<◌, ◌==◌, ◌&&◌, not, Bool, true, false, cond, List, [], ◌∷◌, ◌++◌, length, take, drop, map, All, Option, Some, None, option_and_then, append_assoc, arith, refl, sym, ap, subst, eqb-true}
use Rattle.std.specs.Prelude.{codes, decimal}
use Rattle.std.specs.List.{list_all, slice_split}
use Rattle.std.specs.Option.{option_map_or}
use Rattle.std.specs.Str.{bytes_eq}
use Rattle.std.specs.Str.Parse.{digits_value}
use Rattle.std.proofs.lemmas.Bool.{true≢false, and_parts}
use Rattle.std.proofs.lemmas.List.Elements.{All-nil, All-cons, All-append}
use Rattle.std.proofs.lemmas.List.Splits.{slice_split_at}
use Rattle.satip_base.specs.declared.network.Ports.{Ports}
use Rattle.satip_base.specs.Lists.{Each}
use Rattle.satip_tune.specs.Pieces.{is_byte}
use Rattle.satip_rtsp.specs.Targets.{is_begun_with}
use Rattle.satip_rtsp_interleaved.specs.Turned.{channel_line, is_empty_line, ports_beside, ports_name, told_ports, turned, turned_line, before_return}
use Rattle.satip_rtsp_interleaved.proofs.TurnedLemmas.{turned_end, turned_step}
use Rattle.satip_tunnel_laws.specs.Pieces.{IsLine, IsReply, is_plain, lined, size_name, told_size}
use Rattle.satip_tunnel_laws.proofs.Plain.{IsPlain, plain-append, plain_decimal}

-- a line, without its end, as it is told in channels
abbrev channels_text : Ports → List ℕ
channels_text ports = ((codes "Transport: RTP/AVP/TCP;unicast;interleaved=" ++ decimal (ports.rtp - 1)) ++ codes "-") ++ decimal (ports.rtcp - 1)

abbrev turned_text : List ℕ → List ℕ
turned_text l = option_map_or channels_text (told_ports (l ++ 13 ∷ [])) l

line_is : (l : List ℕ) → turned_line (l ++ 13 ∷ []) ≡ turned_text l ++ 13 ∷ []
unfolding channel_line
line_is l = by (told_ports (l ++ 13 ∷ []))
  where
    by : (o : Option Ports) → option_map_or channel_line o (l ++ 13 ∷ []) ≡ option_map_or channels_text o l ++ 13 ∷ []
    by None = refl
    by (Some ports) = refl

-- a line that tells ports begins as one

told_named : (line : List ℕ) (ports : Ports) → told_ports line ≡ Some ports → is_begun_with ports_name line ≡ true
unfolding told_ports
told_named line ports e = by (is_begun_with ports_name line) e
  where
    by : (b : Bool) → option_and_then ports_beside (option_and_then before_return (cond b (Some (drop 39 line)) None)) ≡ Some ports → b ≡ true
    by true f = refl
    by false f = absurd (cc f)

-- so it tells no size
named_first : (l : List ℕ) → 0 < length l → is_begun_with ports_name (l ++ 13 ∷ []) ≡ true → is_begun_with size_name l ≡ false
named_first [] some named = absurd (omega (arith, some))
named_first (b ∷ bs) some named = by (b == 84) refl (and_parts (b == 84) _ named).0
  where
    other : (n : ℕ) → (n == 84) ≡ true → (n == 67) ≡ false
    other n e = ap (λ m. m == 67) (eqb-true n 84 e)

    by : (t : Bool) → (b == 84) ≡ t → (b == 84) ≡ true → is_begun_with size_name (b ∷ bs) ≡ false
    by t f is = ap (λ u. u && bytes_eq (take 15 bs) (codes "ontent-Length: ")) (other b is)

-- what becomes of a line

record IsTurned (l : List ℕ) : Type 0 where
  line : IsLine (turned_text l)
  same : is_begun_with size_name (turned_text l) ≡ is_begun_with size_name l
  kept : is_begun_with size_name l ≡ true → turned_text l ≡ l

turned_is : (l : List ℕ) → IsLine l → IsTurned l
turned_is l is = by (told_ports (l ++ 13 ∷ [])) refl
  where
    plain : (ports : Ports) → IsPlain (channels_text ports)
    plain ports =
        let name : List ℕ = codes "Transport: RTP/AVP/TCP;unicast;interleaved=" in
        let a : List ℕ = name ++ decimal (ports.rtp - 1) in
        plain-append (a ++ codes "-") (decimal (ports.rtcp - 1))
        (plain-append a (codes "-") (plain-append name (decimal (ports.rtp - 1)) refl (plain_decimal (ports.rtp - 1))) refl)
        (plain_decimal (ports.rtcp - 1))

    by : (o : Option Ports) → told_ports (l ++ 13 ∷ []) ≡ o → IsTurned l
    by None e =
        let same : turned_text l ≡ l = ap (λ p. option_map_or channels_text p l) e in
        record { line = subst IsLine (sym same) is; same = ap (is_begun_with size_name) same; kept = λ sized. same }
    by (Some ports) e =
        let new : turned_text l ≡ channels_text ports = ap (λ p. option_map_or channels_text p l) e in
        let unsized : is_begun_with size_name l ≡ false = named_first l is.0 (told_named (l ++ 13 ∷ []) ports e) in
        record {
          line = subst IsLine (sym new) (omega arith, plain ports);
          same = ap (is_begun_with size_name) new ∙ sym unsized;
          kept = λ sized. absurd (true≢false (sym sized ∙ unsized));
        }

-- heads

turned_each : (ls : List (List ℕ)) → Each IsLine ls → Each IsLine (map turned_text ls)
turned_each [] each = tt
turned_each (l ∷ ls) each = ((turned_is l each.0).line, turned_each ls each.1)

turned_size : (ls : List (List ℕ)) → Each IsLine ls → told_size (map turned_text ls) ≡ told_size ls
turned_size [] each = refl
turned_size (l ∷ ls) each =
    let is = turned_is l each.0 in
    ap (λ b. cond b (digits_value 10 (drop 16 (turned_text l))) (told_size (map turned_text ls))) is.same
    ∙ by (is_begun_with size_name l) is.kept (turned_size ls each.1)
  where
    by : (b : Bool) → (b ≡ true → turned_text l ≡ l) → told_size (map turned_text ls) ≡ told_size ls
        → cond b (digits_value 10 (drop 16 (turned_text l))) (told_size (map turned_text ls)) ≡ cond b (digits_value 10 (drop 16 l)) (told_size ls)
    by true kept rest = ap (λ t. digits_value 10 (drop 16 t)) (kept refl)
    by false kept rest = rest

no_feed : (l : List ℕ) → IsPlain l → All (λ b. is_byte 10 b ≡ false) l
no_feed [] plain = All-nil (λ b. is_byte 10 b ≡ false)
no_feed (b ∷ bs) plain =
    let both = and_parts (is_plain b) (list_all is_plain bs) plain in
    All-cons (λ c. is_byte 10 c ≡ false) b bs (not_true (b == 10) (and_parts (not (b == 13)) (not (b == 10)) both.0).1) (no_feed bs both.1)
  where
    not_true : (t : Bool) → not t ≡ true → t ≡ false
    not_true true e = absurd (true≢false (sym e))
    not_true false e = refl

first_split : (l rest : List ℕ) → IsPlain l → slice_split (is_byte 10) (l ++ 13 ∷ 10 ∷ rest) ≡ (l ++ 13 ∷ []) ∷ slice_split (is_byte 10) rest
first_split l rest plain =
    ap (slice_split (is_byte 10)) (sym (append_assoc l (13 ∷ []) (10 ∷ rest)))
    ∙ slice_split_at (is_byte 10) (l ++ 13 ∷ []) 10 rest
    (All-append (λ b. is_byte 10 b ≡ false) l (13 ∷ []) (no_feed l plain)
    (All-cons (λ b. is_byte 10 b ≡ false) 13 [] refl (All-nil (λ b. is_byte 10 b ≡ false)))) refl

not_empty : (l : List ℕ) → IsLine l → is_empty_line (l ++ 13 ∷ []) ≡ false
not_empty [] is = absurd (omega (arith, is.0))
not_empty (b ∷ bs) is =
    ap (λ t. t && bytes_eq (bs ++ 13 ∷ []) [])
    (not_true (b == 13) (and_parts (not (b == 13)) (not (b == 10)) (and_parts (is_plain b) (list_all is_plain bs) is.1).0).0)
  where
    not_true : (t : Bool) → not t ≡ true → t ≡ false
    not_true true e = absurd (true≢false (sym e))
    not_true false e = refl

turned_head : (ls : List (List ℕ)) (body : List ℕ) → Each IsLine ls → turned (lined ls ++ 13 ∷ 10 ∷ body) ≡ lined (map turned_text ls) ++ 13 ∷ 10 ∷ body
turned_head [] body each = turned_end (13 ∷ 10 ∷ body) (13 ∷ []) body (first_split [] body refl) refl
turned_head (l ∷ ls) body each =
    let rest : List ℕ = lined ls ++ 13 ∷ 10 ∷ body in
    let grouped : lined (l ∷ ls) ++ 13 ∷ 10 ∷ body ≡ l ++ 13 ∷ 10 ∷ rest = append_assoc l (13 ∷ 10 ∷ lined ls) (13 ∷ 10 ∷ body) in
    ap turned grouped
    ∙ turned_step (l ++ 13 ∷ 10 ∷ rest) (l ++ 13 ∷ []) rest (first_split l rest each.0.1) (not_empty l each.0)
    ∙ ap (λ t. t ++ 10 ∷ turned rest) (line_is l)
    ∙ append_assoc (turned_text l) (13 ∷ []) (10 ∷ turned rest)
    ∙ ap (λ t. turned_text l ++ 13 ∷ 10 ∷ t) (turned_head ls body each.1)
    ∙ sym (append_assoc (turned_text l) (13 ∷ 10 ∷ lined (map turned_text ls)) (13 ∷ 10 ∷ body))

-- the first line tells no ports
first_kept : (status : List ℕ) → turned_text (codes "RTSP/1.0 " ++ status) ≡ codes "RTSP/1.0 " ++ status
unfolding told_ports
first_kept status = refl

pub turned_reply : (text : List ℕ) → IsReply text → IsReply (turned text)
turned_reply text is =
    let first : List ℕ = codes "RTSP/1.0 " ++ is.status in
    let each : Each IsLine (first ∷ is.lines) = ((omega arith, is.plain), is.each) in
    record {
      status = is.status;
      lines = map turned_text is.lines;
      body = is.body;
      text_is = ap turned is.text_is ∙ turned_head (first ∷ is.lines) is.body each
          ∙ ap (λ l. lined (l ∷ map turned_text is.lines) ++ 13 ∷ 10 ∷ is.body) (first_kept is.status);
      plain = is.plain;
      each = turned_each is.lines is.each;
      size = is.size ∙ sym (turned_size is.lines is.each);
    }
