-- Each reply of the server is one by its form.
use Rattle.std.proofs.Common.{◌≡◌, ◌∙◌, ℕ, ◌+◌, ◌<◌, ◌^◌, ◌==◌, Bool, true, false, cond, List, [], ◌∷◌, ◌++◌, length, drop, Option, Some, None, append_assoc, length-append, arith, refl, sym, ap, subst}
use Rattle.std.specs.Prelude.{codes, decimal}
use Rattle.std.specs.Str.Parse.{digits_value}
use Rattle.std.proofs.lemmas.Fmt.{decimal_is_IsNumeral}
use Rattle.satip_base.specs.Texts.{address_text, id_text}
use Rattle.satip_base.specs.declared.identity.SessionId.{SessionId}
use Rattle.satip_base.specs.declared.network.Ports.{Ports}
use Rattle.satip_frame.specs.declared.framing.Break.{Break}
use Rattle.satip_frame.specs.declared.framing.Break.TheVariants.{Bad, TooLong}
use Rattle.satip_base.specs.Lists.{Each}
use Rattle.satip_base.proofs.Elements.{Each-append}
use Rattle.satip_query.specs.Bodies.{body_text}
use Rattle.satip_query.specs.declared.bodies.RefusalBody.{RefusalBody}
use Rattle.satip_rtsp.specs.Replies.{base_line, closing_reply, cseq_line, describe_head, options_reply, plain_reply, play_reply, rtp_info_line, session_line, setup_reply, status_line, text_reply, unsupported_reply}
use Rattle.satip_query.specs.Bodies.{body_part, line_end, number_line}
use Rattle.satip_query.specs.Statuses.{phrase_of}
use Rattle.satip_rtsp.specs.Targets.{is_begun_with}
use Rattle.satip_query.proofs.BodyLengths.{length-body_text-le}
use Rattle.satip_tunnel_laws.specs.Pieces.{IsLine, IsReply, lined, size_name, told_size}
use Rattle.satip_tunnel_laws.proofs.Plain.{IsPlain, plain-append, plain_address, plain_decimal, plain_id}

-- lines of a head, none of which tells a size
pub record IsHead (text : List ℕ) (lines : List (List ℕ)) : Type 0 where
  pub text_is : text ≡ lined lines
  pub each : Each IsLine lines
  pub none : Each (λ (l : List ℕ). is_begun_with size_name l ≡ false) lines

-- a first line, and such lines behind it
pub record IsBegun (text status : List ℕ) (lines : List (List ℕ)) : Type 0 where
  pub text_is : text ≡ lined ((codes "RTSP/1.0 " ++ status) ∷ lines)
  pub plain : IsPlain status
  pub each : Each IsLine lines
  pub none : Each (λ (l : List ℕ). is_begun_with size_name l ≡ false) lines

lined-append : (a b : List (List ℕ)) → lined (a ++ b) ≡ lined a ++ lined b
lined-append [] b = refl
lined-append (l ∷ ls) b = ap (λ rest. l ++ 13 ∷ 10 ∷ rest) (lined-append ls b) ∙ sym (append_assoc l (13 ∷ 10 ∷ lined ls) (lined b))

no_lines : IsHead [] []
no_lines = record { text_is = refl; each = tt; none = tt }

one_line : (l : List ℕ) → IsPlain l → 0 < length l → is_begun_with size_name l ≡ false → IsHead (l ++ line_end) (l ∷ [])
one_line l plain some none = record { text_is = refl; each = ((some, plain), tt); none = (none, tt) }

begun_then : (a b status : List ℕ) (ls ks : List (List ℕ)) → IsBegun a status ls → IsHead b ks → IsBegun (a ++ b) status (ls ++ ks)
begun_then a b status ls ks first second = record {
  text_is = ap (λ t. t ++ b) first.text_is ∙ ap (λ t. lined ((codes "RTSP/1.0 " ++ status) ∷ ls) ++ t) second.text_is
      ∙ sym (lined-append ((codes "RTSP/1.0 " ++ status) ∷ ls) ks);
  plain = first.plain;
  each = Each-append IsLine ls ks first.each second.each;
  none = Each-append (λ (l : List ℕ). is_begun_with size_name l ≡ false) ls ks first.none second.none;
}

-- the size that a head tells

no_size : (ls : List (List ℕ)) → Each (λ (l : List ℕ). is_begun_with size_name l ≡ false) ls → told_size ls ≡ 0
no_size [] none = refl
no_size (l ∷ ls) none = ap (λ b. cond b (digits_value 10 (drop 16 l)) (told_size ls)) none.0 ∙ no_size ls none.1

then_size : (ls ks : List (List ℕ)) → Each (λ (l : List ℕ). is_begun_with size_name l ≡ false) ls → told_size (ls ++ ks) ≡ told_size ks
then_size [] ks none = refl
then_size (l ∷ ls) ks none = ap (λ b. cond b (digits_value 10 (drop 16 l)) (told_size (ls ++ ks))) none.0 ∙ then_size ls ks none.1

size_line : (n : ℕ) → n < 2 ^ 64 → told_size ((size_name ++ decimal n) ∷ []) ≡ n
size_line n small = (decimal_is_IsNumeral n small).1

-- whole replies

bare : (a status : List ℕ) (ls : List (List ℕ)) → IsBegun a status ls → IsReply (a ++ line_end)
bare a status ls begun = record {
  status = status;
  lines = ls;
  body = [];
  text_is = ap (λ t. t ++ line_end) begun.text_is;
  plain = begun.plain;
  each = begun.each;
  size = sym (no_size ls begun.none);
}

with_body : (a status body : List ℕ) (ls : List (List ℕ)) → IsBegun a status ls → length body < 2 ^ 64
    → IsReply (((a ++ number_line size_name (length body)) ++ line_end) ++ body)
with_body a status body ls begun small =
    let told : List ℕ = size_name ++ decimal (length body) in
    let first : List ℕ = codes "RTSP/1.0 " ++ status in
    record {
      status = status;
      lines = ls ++ told ∷ [];
      body = body;
      text_is = append_assoc (a ++ (told ++ line_end)) line_end body
          ∙ ap (λ t. (t ++ (told ++ line_end)) ++ 13 ∷ 10 ∷ body) begun.text_is
          ∙ ap (λ t. t ++ 13 ∷ 10 ∷ body) (sym (lined-append (first ∷ ls) (told ∷ [])));
      plain = begun.plain;
      each = Each-append IsLine ls (told ∷ []) begun.each
          ((omega arith, plain-append size_name (decimal (length body)) refl (plain_decimal (length body))), tt);
      size = sym (then_size ls (told ∷ []) begun.none ∙ size_line (length body) small);
    }

-- lines of the replies

status_plain : (b : ℕ) → IsPlain (phrase_of b)
status_plain b = by (b == 200) (b == 400) (b == 403) (b == 404) (b == 413) (b == 454) (b == 455) (b == 461) (b == 501) (b == 503) (b == 505)
  where
    by : (c d e f g h i j k l m : Bool) → IsPlain
        (cond c (codes "OK") (cond d (codes "Bad Request") (cond e (codes "Forbidden") (cond f (codes "Not Found") (cond g (codes "Request Entity Too Large")
        (cond h (codes "Session Not Found") (cond i (codes "Method Not Valid in This State") (cond j (codes "Unsupported Transport")
        (cond k (codes "Not Implemented") (cond l (codes "Service Unavailable")
        (cond m (codes "RTSP Version Not Supported") (codes "Option not supported"))))))))))))
    by true d e f g h i j k l m = refl
    by false true e f g h i j k l m = refl
    by false false true f g h i j k l m = refl
    by false false false true g h i j k l m = refl
    by false false false false true h i j k l m = refl
    by false false false false false true i j k l m = refl
    by false false false false false false true j k l m = refl
    by false false false false false false false true k l m = refl
    by false false false false false false false false true l m = refl
    by false false false false false false false false false true m = refl
    by false false false false false false false false false false true = refl
    by false false false false false false false false false false false = refl

abbrev status_of : ℕ → List ℕ
status_of n = (decimal n ++ codes " ") ++ phrase_of n

begun : (n : ℕ) → IsBegun (status_line n) (status_of n) []
unfolding status_line
begun n = record {
  text_is = refl;
  plain = plain-append (decimal n ++ codes " ") (phrase_of n) (plain-append (decimal n) (codes " ") (plain_decimal n) refl) (status_plain n);
  each = tt;
  none = tt;
}

abbrev cseq_lines : Option ℕ → List (List ℕ)
cseq_lines None = []
cseq_lines (Some n) = (codes "CSeq: " ++ decimal n) ∷ []

cseq_head : (cseq : Option ℕ) → IsHead (cseq_line cseq) (cseq_lines cseq)
cseq_head None = no_lines
cseq_head (Some n) = one_line (codes "CSeq: " ++ decimal n) (plain-append (codes "CSeq: ") (decimal n) refl (plain_decimal n)) (omega arith) refl

abbrev session_lines : Option SessionId → List (List ℕ)
session_lines None = []
session_lines (Some id) = (codes "Session: " ++ id_text id) ∷ []

session_head : (session : Option SessionId) → IsHead (session_line session) (session_lines session)
session_head None = no_lines
session_head (Some id) = one_line (codes "Session: " ++ id_text id) (plain-append (codes "Session: ") (id_text id) refl (plain_id id)) (omega arith) refl

numbered : (status : ℕ) (cseq : Option ℕ) → IsBegun (status_line status ++ cseq_line cseq) (status_of status) ([] ++ cseq_lines cseq)
numbered status cseq = begun_then (status_line status) (cseq_line cseq) (status_of status) [] (cseq_lines cseq) (begun status) (cseq_head cseq)

-- the replies

pub options_is : (cseq : Option ℕ) (session : Option SessionId) → IsReply (options_reply cseq session)
unfolding options_reply
options_is cseq session =
    let l : List ℕ = codes "Public: OPTIONS, DESCRIBE, SETUP, PLAY, TEARDOWN" in
    let a = numbered 200 cseq in
    let b = begun_then (status_line 200 ++ cseq_line cseq) (l ++ line_end) (status_of 200) ([] ++ cseq_lines cseq) (l ∷ []) a
    (one_line l refl (omega arith) refl) in
    let c = begun_then ((status_line 200 ++ cseq_line cseq) ++ (l ++ line_end)) (session_line session) (status_of 200)
    (([] ++ cseq_lines cseq) ++ l ∷ []) (session_lines session) b
    (session_head session) in
    bare (((status_line 200 ++ cseq_line cseq) ++ (l ++ line_end)) ++ session_line session) (status_of 200)
    ((([] ++ cseq_lines cseq) ++ l ∷ []) ++ session_lines session) c

closed : (n : ℕ) → IsReply (status_line n ++ ((codes "Connection: close" ++ line_end) ++ line_end))
closed n =
    let l : List ℕ = codes "Connection: close" in
    let a = begun_then (status_line n) (l ++ line_end) (status_of n) [] (l ∷ []) (begun n) (one_line l refl (omega arith) refl) in
    subst IsReply (append_assoc (status_line n) (l ++ line_end) line_end) (bare (status_line n ++ (l ++ line_end)) (status_of n) ([] ++ l ∷ []) a)

pub closing_is : (cause : Break) → IsReply (closing_reply cause)
unfolding closing_reply
closing_is Bad = closed 400
closing_is TooLong = closed 413

pub plain_is : (cseq : Option ℕ) (status : ℕ) → IsReply (plain_reply cseq status)
unfolding plain_reply
plain_is cseq status = bare (status_line status ++ cseq_line cseq) (status_of status) ([] ++ cseq_lines cseq) (numbered status cseq)

pub described_is : (cseq : Option ℕ) (address : ℕ) (body : List ℕ) → length body < 2 ^ 64 → IsReply (describe_head cseq address (length body) ++ body)
unfolding describe_head
described_is cseq address body small =
    let l : List ℕ = codes "Content-Type: application/sdp" in
    let k : List ℕ = (codes "Content-Base: rtsp://" ++ address_text address) ++ codes "/" in
    let s : List ℕ = status_line 200 ++ cseq_line cseq in
    let base : IsHead (base_line address) (k ∷ []) =
    subst (λ t. IsHead t (k ∷ [])) (append_assoc (codes "Content-Base: rtsp://" ++ address_text address) (codes "/") line_end)
    (one_line k (plain-append (codes "Content-Base: rtsp://" ++ address_text address) (codes "/")
    (plain-append (codes "Content-Base: rtsp://") (address_text address) refl (plain_address address)) refl) (omega arith) refl) in
    let a = numbered 200 cseq in
    let b = begun_then s (l ++ line_end) (status_of 200) ([] ++ cseq_lines cseq) (l ∷ []) a (one_line l refl (omega arith) refl) in
    let c = begun_then (s ++ (l ++ line_end)) (base_line address) (status_of 200) (([] ++ cseq_lines cseq) ++ l ∷ []) (k ∷ []) b base in
    with_body ((s ++ (l ++ line_end)) ++ base_line address) (status_of 200) body ((([] ++ cseq_lines cseq) ++ l ∷ []) ++ k ∷ []) c small

pub set_up_is : (cseq : Option ℕ) (id : SessionId) (seconds : ℕ) (ports : Ports) (stream : ℕ)
    → IsReply (setup_reply cseq id seconds ports stream)
unfolding setup_reply
set_up_is cseq id seconds ports stream =
    let i : List ℕ = codes "Session: " ++ id_text id in
    let j : List ℕ = i ++ codes ";timeout=" in
    let l : List ℕ = j ++ decimal seconds in
    let t : List ℕ = codes "Transport: RTP/AVP;unicast;client_port=" ++ decimal ports.rtp in
    let u : List ℕ = t ++ codes "-" in
    let k : List ℕ = u ++ decimal ports.rtcp in
    let m : List ℕ = codes "com.ses.streamID: " ++ decimal stream in
    let s : List ℕ = status_line 200 ++ cseq_line cseq in
    let plain_l : IsPlain l =
    plain-append j (decimal seconds) (plain-append i (codes ";timeout=")
    (plain-append (codes "Session: ") (id_text id) refl (plain_id id)) refl) (plain_decimal seconds) in
    let plain_k : IsPlain k =
    plain-append u (decimal ports.rtcp)
    (plain-append t (codes "-") (plain-append (codes "Transport: RTP/AVP;unicast;client_port=") (decimal ports.rtp) refl
    (plain_decimal ports.rtp)) refl) (plain_decimal ports.rtcp) in
    let a = numbered 200 cseq in
    let b = begun_then s (l ++ line_end) (status_of 200) ([] ++ cseq_lines cseq) (l ∷ []) a (one_line l plain_l (omega arith) refl) in
    let c = begun_then (s ++ (l ++ line_end)) (k ++ line_end) (status_of 200) (([] ++ cseq_lines cseq) ++ l ∷ []) (k ∷ []) b
    (one_line k plain_k (omega arith) refl) in
    let d = begun_then ((s ++ (l ++ line_end)) ++ (k ++ line_end)) (m ++ line_end) (status_of 200) ((([] ++ cseq_lines cseq) ++ l ∷ []) ++ k ∷ []) (m ∷ []) c
    (one_line m (plain-append (codes "com.ses.streamID: ") (decimal stream) refl (plain_decimal stream)) (omega arith) refl) in
    bare (((s ++ (l ++ line_end)) ++ (k ++ line_end)) ++ (m ++ line_end)) (status_of 200) (((([] ++ cseq_lines cseq) ++ l ∷ []) ++ k ∷ []) ++ m ∷ []) d

pub playing_is : (cseq : Option ℕ) (id : SessionId) (address stream seq : ℕ) → IsReply (play_reply cseq id address stream seq)
unfolding play_reply
playing_is cseq id address stream seq =
    let e : List ℕ = codes "RTP-Info: url=rtsp://" ++ address_text address in
    let f : List ℕ = e ++ codes "/stream=" in
    let g : List ℕ = f ++ decimal stream in
    let q : List ℕ = codes ";seq=" ++ decimal seq in
    let k : List ℕ = g ++ q in
    let s : List ℕ = status_line 200 ++ cseq_line cseq in
    let plain_k : IsPlain k =
    plain-append g q
    (plain-append f (decimal stream) (plain-append e (codes "/stream=")
    (plain-append (codes "RTP-Info: url=rtsp://") (address_text address) refl (plain_address address)) refl)
    (plain_decimal stream))
    (plain-append (codes ";seq=") (decimal seq) refl (plain_decimal seq)) in
    let info : IsHead (rtp_info_line address stream seq) (k ∷ []) =
    subst (λ t. IsHead t (k ∷ [])) (append_assoc g q line_end) (one_line k plain_k (omega arith) refl) in
    let a = numbered 200 cseq in
    let b = begun_then s (session_line (Some id)) (status_of 200) ([] ++ cseq_lines cseq) (session_lines (Some id)) a (session_head (Some id)) in
    let c = begun_then (s ++ session_line (Some id)) (rtp_info_line address stream seq) (status_of 200)
    (([] ++ cseq_lines cseq) ++ session_lines (Some id)) (k ∷ []) b info in
    bare ((s ++ session_line (Some id)) ++ rtp_info_line address stream seq) (status_of 200) ((([] ++ cseq_lines cseq) ++ session_lines (Some id)) ++ k ∷ []) c

pub unsupported_is : (cseq : Option ℕ) (kept : List ℕ) → IsPlain kept → IsReply (unsupported_reply cseq kept)
unfolding unsupported_reply
unsupported_is cseq kept plain =
    let n : List ℕ = codes "Unsupported: " in
    let l : List ℕ = n ++ kept in
    let s : List ℕ = status_line 551 ++ cseq_line cseq in
    let a = numbered 551 cseq in
    let b = begun_then s (l ++ line_end) (status_of 551) ([] ++ cseq_lines cseq) (l ∷ []) a (one_line l (plain-append n kept refl plain) (omega arith) refl) in
    let same : (s ++ (l ++ line_end)) ++ line_end ≡ ((s ++ n) ++ kept) ++ (line_end ++ line_end) =
    append_assoc s (l ++ line_end) line_end ∙ ap (λ t. s ++ t) (append_assoc l line_end line_end)
    ∙ sym (append_assoc s l (line_end ++ line_end)) ∙ ap (λ t. t ++ (line_end ++ line_end)) (sym (append_assoc s n kept)) in
    subst IsReply same (bare (s ++ (l ++ line_end)) (status_of 551) (([] ++ cseq_lines cseq) ++ l ∷ []) b)

pub telling_is : (cseq : Option ℕ) (status : ℕ) (body : RefusalBody) → IsReply (text_reply cseq status body)
unfolding text_reply body_part
telling_is cseq status body =
    let l : List ℕ = codes "Content-Type: text/parameters" in
    let s : List ℕ = status_line status ++ cseq_line cseq in
    let text : List ℕ = body_text body ++ line_end in
    let size : length text ≡ length (body_text body) + 2 = length-append (body_text body) line_end in
    let few : length text < 2 ^ 64 = omega (arith, size, length-body_text-le body) in
    let a = numbered status cseq in
    let b = begun_then s (l ++ line_end) (status_of status) ([] ++ cseq_lines cseq) (l ∷ []) a (one_line l refl (omega arith) refl) in
    let whole : IsReply (((s ++ (l ++ line_end)) ++ number_line size_name (length text)) ++ line_end ++ text) =
    with_body (s ++ (l ++ line_end)) (status_of status) text (([] ++ cseq_lines cseq) ++ l ∷ []) b few in
    let counted : IsReply (((s ++ (l ++ line_end)) ++ number_line size_name (length (body_text body) + 2)) ++ line_end ++ text) =
    subst (λ n. IsReply (((s ++ (l ++ line_end)) ++ number_line size_name n) ++ line_end ++ text)) size whole in
    subst IsReply (grouped s (l ++ line_end) (number_line size_name (length (body_text body) + 2)) line_end (body_text body) line_end) counted
  where
    grouped : (s l n e t f : List ℕ) → ((s ++ l) ++ n) ++ e ++ (t ++ f) ≡ s ++ ((((l ++ n) ++ e) ++ t) ++ f)
    grouped s l n e t f = simp append_assoc
