-- What a catcher hands up of datagrams that came one after another.
use Rattle.std.proofs.Common.{◌≡◌, inl, inr, ℕ, ◌+◌, ◌-◌, ◌<◌, zero, suc, List, [], ◌∷◌, ◌++◌, length, take, refl, sym, ap, ◌∙◌, subst, arith, append_assoc, append-nil, length-append, Err}
use Rattle.satip_base.specs.Streams.{Drain, PutAll}
use Rattle.satip_base.specs.declared.streams.Put.{Put}
use Rattle.satip_base.specs.declared.streams.Put.TheVariants.{Whole, Failed}
use Rattle.satip_world.specs.Inboxes.{Inbox, GotDatagram, GotNone, FailedToGet}
use Rattle.satip_rtp_receiver.specs.Caught.{Datagram}
use Rattle.satip_rtp_receiver.specs.Catching.{Catch, after_item, taken, datagram}
use Rattle.satip_rtp_receiver.specs.Rtp.{IsRtp, Says}
use Rattle.satip_rtp_receiver.specs.Runs.{after_items, all_items, drained, handed_up, after_all}
use Rattle.satip_rtp_receiver.specs.declared.item.Item.{Item}
use Rattle.satip_rtp_receiver.specs.declared.view.RtpView.{RtpView}
use Rattle.satip_client.specs.declared.ending.RecordEnd.{RecordEnd}
use Rattle.satip_client.specs.declared.ending.RecordEnd.TheVariants.{Done, OutputFault, Refused, BadReply, Silent, PeerFault, Closed, OutOfMemory}
use Rattle.satip_recorder.specs.Arrivals.{IsArrival}
use Rattle.satip_recorder.specs.Tapes.{deck, Taped, TapeFailed, TapesAs, Tells, gap_lines, packets_in}
use Rattle.satip_recorder.specs.Courses.{Reel, reel, deck_of, Winds, Wound, WoundUntil, Caught, CaughtUntil, Catches, IsWritten}
use Rattle.satip_recorder.specs.declared.tape.Tape.{Tape}
use Rattle.satip_recorder.proofs.ArrivalLemmas.{read-then, turns-then, turn-got, turn-none}
use Rattle.satip_recorder.proofs.ItemLemmas.{taken-ready}
use Rattle.satip_recorder.proofs.TapeLemmas.{packets-split, puts-then, puts-failed, tells-then, bytes-then, lines-then, taped-then, taped-none}

handed_up-then : (c : Catch) (ds es : List Datagram) → handed_up c (ds ++ es) ≡ handed_up c ds ++ handed_up (after_all c ds) es
handed_up-then c [] es = refl
handed_up-then c (d ∷ ds) es =
    ap (λ (t : List Item). all_items (taken d c) ++ t) (handed_up-then (drained (taken d c)) ds es)
    ∙ sym (append_assoc (all_items (taken d c)) (handed_up (drained (taken d c)) ds) (handed_up (after_all (drained (taken d c)) ds) es))

after_all-then : (c : Catch) (ds es : List Datagram) → after_all c (ds ++ es) ≡ after_all (after_all c ds) es
after_all-then c [] es = refl
after_all-then c (d ∷ ds) es = after_all-then (drained (taken d c)) ds es

items-then : (c e : Catch) (ds es : List Datagram) → e ≡ after_all c ds → handed_up c ds ++ handed_up e es ≡ handed_up c (ds ++ es)
items-then c e ds es is = ap (λ (x : Catch). handed_up c ds ++ handed_up x es) is ∙ sym (handed_up-then c ds es)

pub wound-then : (tells tells_lines : Type 0) (o m n : Reel) (xs ys : List (List ℕ)) → Wound tells tells_lines o m xs → 0 < m.tape.left
    → Wound tells tells_lines m n ys → Wound tells tells_lines o n (xs ++ ys)
wound-then tells tells_lines o m n xs ys first some second =
    let is = first.caught some in
    let ds = first.arrivals in
    let es = second.arrivals in
    record {
      arrivals = ds ++ es;
      read = read-then xs ys ds es first.read second.read;
      taped = subst (λ (items : List Item). Taped tells tells_lines (deck_of o) (deck_of n) items) (items-then o.catcher m.catcher ds es is)
          (taped-then tells tells_lines (deck_of o) (deck_of m) (deck_of n) (handed_up o.catcher ds) (handed_up m.catcher es) first.taped second.taped);
      caught = λ left. second.caught left ∙ ap (λ (x : Catch). after_all x es) is ∙ sym (after_all-then o.catcher ds es);
    }

written-then : (end : RecordEnd) (tells : Type 0) (o m n : Drain) (a b : List ℕ) → PutAll tells o m a → IsWritten end tells m n b
    → IsWritten end tells o n (a ++ b)
written-then Done tells o m n a b first second = puts-then tells o m n a b first second
written-then OutputFault tells o m n a b first second = puts-failed tells o m n a b first second
written-then (Refused code) tells o m n a b first second = puts-then tells o m n a b first second
written-then BadReply tells o m n a b first second = puts-then tells o m n a b first second
written-then Silent tells o m n a b first second = puts-then tells o m n a b first second
written-then PeerFault tells o m n a b first second = puts-then tells o m n a b first second
written-then Closed tells o m n a b first second = puts-then tells o m n a b first second
written-then OutOfMemory tells o m n a b first second = puts-then tells o m n a b first second

-- bytes are still missing
still-missing : (p q : Tape) (xs ys : List Item) → q.left ≡ p.left - length (packets_in xs) → length (packets_in ys) < q.left
    → length (packets_in (xs ++ ys)) < p.left
still-missing p q xs ys left missing =
    omega (arith, left, missing, ap (λ (t : List ℕ). length t) (packets-split xs ys), length-append (packets_in xs) (packets_in ys))

pub wound-until : (tells tells_lines : Type 0) (o m n : Reel) (end : RecordEnd) (xs ys : List (List ℕ)) → Wound tells tells_lines o m xs
    → 0 < m.tape.left → WoundUntil tells tells_lines m n end ys → WoundUntil tells tells_lines o n end (xs ++ ys)
wound-until tells tells_lines o m n end xs ys first some second =
    let ds = first.arrivals in
    let items = handed_up o.catcher ds in
    record {
      arrivals = ds ++ second.arrivals;
      read = read-then xs ys ds second.arrivals first.read second.read;
      handed = items ++ second.handed;
      left_out = second.left_out;
      whole = sym (items-then o.catcher m.catcher ds second.arrivals (first.caught some))
          ∙ ap (λ (t : List Item). items ++ t) second.whole ∙ sym (append_assoc items second.handed second.left_out);
      written = subst (λ (t : List ℕ). IsWritten end tells o.output n.output t)
          (bytes-then o.tape m.tape items second.handed first.taped.left)
          (written-then end tells o.output m.output n.output (take o.tape.left (packets_in items))
          (take m.tape.left (packets_in second.handed)) first.taped.written second.written);
      told = subst (λ (t : List ℕ). Tells tells_lines o.errors n.errors t o.tape.muted n.tape.muted)
          (lines-then o.tape m.tape items second.handed first.taped.left)
          (tells-then tells_lines o.errors m.errors n.errors (gap_lines o.tape.left items) (gap_lines m.tape.left second.handed)
          o.tape.muted m.tape.muted n.tape.muted first.taped.told second.told);
      all = λ other.
          let rest = second.all other in
          (rest.0, still-missing o.tape m.tape items second.handed first.taped.left rest.1);
    }

-- all that came so far was written, and bytes are missing
pub wound-all : (tells tells_lines : Type 0) (o n : Reel) (end : RecordEnd) (xs : List (List ℕ)) → Wound tells tells_lines o n xs
    → 0 < n.tape.left → ((bytes : List ℕ) → PutAll tells o.output n.output bytes → IsWritten end tells o.output n.output bytes)
    → WoundUntil tells tells_lines o n end xs
wound-all tells tells_lines o n end xs w some same = record {
  arrivals = w.arrivals;
  read = w.read;
  handed = handed_up o.catcher w.arrivals;
  left_out = [];
  whole = sym (append-nil (handed_up o.catcher w.arrivals));
  written = same (take o.tape.left (packets_in (handed_up o.catcher w.arrivals))) w.taped.written;
  told = w.taped.told;
  all = λ other. (refl, omega (arith, w.taped.left, some));
}

-- nothing came
pub wound-none : (tells tells_lines : Type 0) (o : Reel) → Wound tells tells_lines o o []
wound-none tells tells_lines o = record {
  arrivals = [];
  read = refl;
  taped = taped-none tells tells_lines (deck_of o);
  caught = λ left. refl;
}

-- a datagram that isn't RTP
pub wound-other : (tells tells_lines : Type 0) (o : Reel) (bytes : List ℕ) → (IsRtp bytes → ⊥) → Wound tells tells_lines o o (bytes ∷ [])
wound-other tells tells_lines o bytes out = record {
  arrivals = [];
  read = inl (out, refl);
  taped = taped-none tells tells_lines (deck_of o);
  caught = λ left. refl;
}

arrival : (bytes : List ℕ) (view : RtpView) → Says bytes view → view.number < 65536 → IsArrival bytes (datagram view)
arrival bytes view says number = record {
  is_rtp = says.is_rtp;
  number = says.number;
  ssrc = says.ssrc;
  packets = says.packets;
  small = number;
}

-- a datagram that is
pub wound-one : (tells tells_lines : Type 0) (c e : Catch) (p q : Tape) (o n d f : Drain) (bytes : List ℕ) (view : RtpView)
    → Says bytes view → view.number < 65536 → Taped tells tells_lines (deck p o d) (deck q n f) (all_items (taken (datagram view) c))
    → (0 < q.left → e ≡ drained (taken (datagram view) c)) → Wound tells tells_lines (reel c p o d) (reel e q n f) (bytes ∷ [])
wound-one tells tells_lines c e p q o n d f bytes view says number taped rest = record {
  arrivals = datagram view ∷ [];
  read = inr (datagram view, arrival bytes view says number, [], refl, refl);
  taped = subst (λ (items : List Item). Taped tells tells_lines (deck p o d) (deck q n f) items) (sym (append-nil (all_items (taken (datagram view) c)))) taped;
  caught = rest;
}

pub wound-failed : (tells tells_lines : Type 0) (c e : Catch) (p q : Tape) (o n d f : Drain) (bytes : List ℕ) (view : RtpView)
    → Says bytes view → view.number < 65536 → TapeFailed tells tells_lines (deck p o d) (deck q n f) (all_items (taken (datagram view) c))
    → WoundUntil tells tells_lines (reel c p o d) (reel e q n f) OutputFault (bytes ∷ [])
wound-failed tells tells_lines c e p q o n d f bytes view says number failed = record {
  arrivals = datagram view ∷ [];
  read = inr (datagram view, arrival bytes view says number, [], refl, refl);
  handed = failed.handed;
  left_out = failed.rest;
  whole = append-nil (all_items (taken (datagram view) c)) ∙ failed.whole;
  written = failed.written;
  told = failed.told;
  all = λ other. absurd (other refl);
}

-- one turn of the inlet
pub caught-got : (tells tells_output tells_errors : Type 0) (i j : Inbox) (o n : Reel) (buf : List ℕ) (size : ℕ) → GotDatagram tells i j buf size
    → Wound tells_output tells_errors o n (take size buf ∷ []) → Caught tells tells_output tells_errors i j o n 1
caught-got tells tells_output tells_errors i j o n buf size got wound = record {
  port = got.port;
  datagrams = take size buf ∷ [];
  given = got.content;
  faults = got.faults;
  took = turn-got tells i j buf size got;
  timed = omega arith;
  counted = omega (arith, got.count, got.idles);
  wound = wound;
}

pub caught-idle : (tells tells_output tells_errors : Type 0) (i j : Inbox) (o : Reel) → GotNone tells i j
    → Caught tells tells_output tells_errors i j o o 1
caught-idle tells tells_output tells_errors i j o got = record {
  port = got.port;
  datagrams = [];
  given = λ told. got.content told ∙ sym (append-nil i.given);
  faults = got.faults;
  took = turn-none tells i j got;
  timed = omega arith;
  counted = omega (arith, got.count, got.one_idle);
  wound = wound-none tells_output tells_errors o;
}

pub caught-output : (tells tells_output tells_errors : Type 0) (i j : Inbox) (o n : Reel) (buf : List ℕ) (size : ℕ) → GotDatagram tells i j buf size
    → WoundUntil tells_output tells_errors o n OutputFault (take size buf ∷ [])
    → Catches tells tells_output tells_errors i j o n (Err OutputFault)
caught-output tells tells_output tells_errors i j o n buf size got wound = (
  record {
    port = got.port;
    datagrams = take size buf ∷ [];
    given = got.content;
    wound = wound;
  },
  omega arith,
  omega (arith, got.count, got.idles),
  got.faults,
)

pub caught-failed : (tells tells_output tells_errors : Type 0) (i j : Inbox) (o : Reel) → 0 < o.tape.left → FailedToGet tells i j
    → Catches tells tells_output tells_errors i j o o (Err PeerFault)
caught-failed tells tells_output tells_errors i j o some failed = (
  record {
    port = failed.port;
    datagrams = [];
    given = λ told. failed.content told ∙ sym (append-nil i.given);
    wound = wound-all tells_output tells_errors o o PeerFault [] (wound-none tells_output tells_errors o) some (λ bytes puts. puts);
  },
  omega arith,
  omega (arith, failed.count, failed.idles),
  failed.faults,
)

-- turns one after another
pub caught-then : (tells tells_output tells_errors : Type 0) (i m j : Inbox) (o p n : Reel) (k l : ℕ)
    → Caught tells tells_output tells_errors i m o p k → 0 < p.tape.left → Caught tells tells_output tells_errors m j p n l
    → Caught tells tells_output tells_errors i j o n (k + l)
caught-then tells tells_output tells_errors i m j o p n k l first some second = record {
  port = second.port ∙ first.port;
  datagrams = first.datagrams ++ second.datagrams;
  given = λ told. second.given told ∙ ap (λ (t : List (List ℕ)). t ++ second.datagrams) (first.given told)
      ∙ append_assoc i.given first.datagrams second.datagrams;
  faults = second.faults ∙ first.faults;
  took = turns-then k l i m j first.took second.took;
  timed = omega (arith, first.timed, second.timed, length-append first.datagrams second.datagrams);
  counted = omega (arith, first.counted, second.counted);
  wound = wound-then tells_output tells_errors o p n first.datagrams second.datagrams first.wound some second.wound;
}

pub caught-until : (tells tells_output tells_errors : Type 0) (i m j : Inbox) (o p n : Reel) (k : ℕ) (end : RecordEnd)
    → (first : Caught tells tells_output tells_errors i m o p k) → 0 < p.tape.left
    → (second : CaughtUntil tells tells_output tells_errors m j p n end)
    → (caught : CaughtUntil tells tells_output tells_errors i j o n end)
    × (length caught.datagrams ≡ length first.datagrams + length second.datagrams)
caught-until tells tells_output tells_errors i m j o p n k end first some second = (
  record {
    port = second.port ∙ first.port;
    datagrams = first.datagrams ++ second.datagrams;
    given = λ told. second.given told ∙ ap (λ (t : List (List ℕ)). t ++ second.datagrams) (first.given told)
        ∙ append_assoc i.given first.datagrams second.datagrams;
    wound = wound-until tells_output tells_errors o p n end first.datagrams second.datagrams first.wound some second.wound;
  },
  length-append first.datagrams second.datagrams,
)

-- one datagram, by what its items come to
pub winds : (tells tells_lines : Type 0) (c m e : Catch) (p q : Tape) (o n d f : Drain) (bytes : List ℕ) (view : RtpView) (result : Put)
    → Says bytes view → view.number < 65536 → m ≡ taken (datagram view) c
    → TapesAs tells tells_lines (deck p o d) (deck q n f) (all_items m) result
    → (result ≡ Whole → 0 < q.left → e ≡ drained m) → Winds tells tells_lines (reel c p o d) (reel e q n f) bytes result
winds tells tells_lines c m e p q o n d f bytes view Whole says number is taped rest =
    wound-one tells tells_lines c e p q o n d f bytes view says number
    (subst (λ (x : Catch). Taped tells tells_lines (deck p o d) (deck q n f) (all_items x)) is taped)
    (λ left. rest refl left ∙ ap (λ (x : Catch). drained x) is)
winds tells tells_lines c m e p q o n d f bytes view Failed says number is failed rest =
    wound-failed tells tells_lines c e p q o n d f bytes view says number
    (subst (λ (x : Catch). TapeFailed tells tells_lines (deck p o d) (deck q n f) (all_items x)) is failed)

drained-number : (n : ℕ) (c : Catch) → c.next < 65536 → (after_items n c).next < 65536
drained-number zero c h = h
drained-number (suc n) c h =
    let after : (after_item c).next < 65536 = omega arith in
    drained-number n (after_item c) after

pub next-number : (c m e : Catch) (view : RtpView) → view.number < 65536 → c.next < 65536 → m ≡ taken (datagram view) c → e ≡ drained m
    → e.next < 65536
next-number c m e view number next is rest =
    let small : m.next < 65536 = subst (λ (x : Catch). x.next < 65536) (sym is) (taken-ready (datagram view) c number next).number in
    subst (λ (x : Catch). x.next < 65536) (sym rest) (drained-number (length m.held) m small)
