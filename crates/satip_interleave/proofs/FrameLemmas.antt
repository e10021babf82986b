-- Lists of bytes that are whole frames, one behind another.
use Rattle.std.proofs.Common.{◌≡◌, ℕ, zero, suc, ◌+◌, ◌-◌, ◌*◌, ◌<◌, ◌≤◌, ◌/◌, ◌%◌, leb, eqb, ◌&&◌, IsTrue, eq-eqb, Bool, true, false, cond, List, [], ◌∷◌, ◌++◌, length, take, drop, arith, refl, sym, subst, ◌∙◌, ap, ap₂}
use Rattle.std.proofs.lemmas.List.{take_at, drop_at, length-append, append_assoc, append-nil, get_or_append_left, nil_from_length, length-take-le, length-drop, drop-drop}
use Rattle.std.proofs.lemmas.Bool.Decides.{nat_tests}
use borrow.Author.Tests.{eqb-true}
use Rattle.std.specs.List.{concat}
use Rattle.satip_interleave.specs.Frames.{frame, fits_behind, first_frames, later_frames}
use Rattle.satip_interleave.specs.Framed.{frame_size, cut_frames, frames_of, first_size, IsFrame, AllFrames, IsFramed, IsPast}

-- the length in a frame doesn't hang on what is behind it
frame_size-front : (f rest : List ℕ) → 4 ≤ length f → frame_size (f ++ rest) ≡ frame_size f
frame_size-front f rest head =
    ap₂ (λ a b. 4 + a * 256 + b) (get_or_append_left f rest 0 2 (omega arith)) (get_or_append_left f rest 0 3 (omega arith))

-- frames that were joined are cut again
pub cut_joined : (frames : List (List ℕ)) (most : ℕ) → AllFrames frames → length (concat frames) ≤ most → cut_frames most (concat frames) ≡ frames
unfolding cut_frames
cut_joined [] zero each fits = refl
cut_joined [] (suc most) each fits = refl
cut_joined ([] ∷ fs) most each fits = absurd (omega (arith, each.0.head))
cut_joined ((b ∷ f) ∷ fs) zero each fits = absurd (omega (arith, fits, length-append (b ∷ f) (concat fs)))
cut_joined ((b ∷ f) ∷ fs) (suc most) each fits =
    let all = (b ∷ f) ++ concat fs in
    let size : frame_size all ≡ length (b ∷ f) = frame_size-front (b ∷ f) (concat fs) each.0.head ∙ sym each.0.whole in
    ap₂ ◌∷◌
    (ap (λ n. take n all) size ∙ take_at (b ∷ f) (concat fs) (length (b ∷ f)) refl)
    (ap (λ n. cut_frames most (drop n all)) size
    ∙ ap (cut_frames most) (drop_at (b ∷ f) (concat fs) (length (b ∷ f)) refl)
    ∙ cut_joined fs most each.1 (omega (arith, fits, each.0.head, length-append (b ∷ f) (concat fs))))

pub frames_of-joined : (frames : List (List ℕ)) → AllFrames frames → frames_of (concat frames) ≡ frames
frames_of-joined frames each = cut_joined frames (length (concat frames)) each (omega arith)

-- so the frames of whole frames are these
pub same_frames : (bytes : List ℕ) (framed : IsFramed bytes) → frames_of bytes ≡ framed.frames
same_frames bytes framed = ap frames_of (sym framed.joined) ∙ frames_of-joined framed.frames framed.each

pub concat-frames_of : (bytes : List ℕ) → IsFramed bytes → concat (frames_of bytes) ≡ bytes
concat-frames_of bytes framed = ap concat (same_frames bytes framed) ∙ framed.joined

pub all-frames_of : (bytes : List ℕ) → IsFramed bytes → AllFrames (frames_of bytes)
all-frames_of bytes framed = subst AllFrames (sym (same_frames bytes framed)) framed.each

pub joined_frames : (frames : List (List ℕ)) → AllFrames frames → IsFramed (concat frames)
joined_frames frames each = record { frames = frames; each = each; joined = refl }

-- no bytes are no frames
pub no_bytes : IsFramed []
no_bytes = record { frames = []; each = tt; joined = refl }

pub frames_of-nil : frames_of [] ≡ []
frames_of-nil = frames_of-joined [] tt

-- no frames are no bytes
pub nil-frames_of : (bytes : List ℕ) → IsFramed bytes → frames_of bytes ≡ [] → bytes ≡ []
nil-frames_of bytes framed none = sym (concat-frames_of bytes framed) ∙ ap concat none

-- the frame of a datagram is a frame
pub frame_is : (channel : ℕ) (bytes : List ℕ) → IsFrame (frame channel bytes)
frame_is channel bytes = record { head = omega arith; whole = omega arith }

-- one more frame
concat_push : (frames : List (List ℕ)) (f : List ℕ) → concat (frames ++ f ∷ []) ≡ concat frames ++ f
concat_push [] f = append-nil f
concat_push (g ∷ gs) f = ap (λ rest. g ++ rest) (concat_push gs f) ∙ sym (append_assoc g (concat gs) f)

all_push : (frames : List (List ℕ)) (f : List ℕ) → AllFrames frames → IsFrame f → AllFrames (frames ++ f ∷ [])
all_push [] f each is = (is, tt)
all_push (g ∷ gs) f each is = (each.0, all_push gs f each.1 is)

pub framed_push : (bytes f : List ℕ) → IsFramed bytes → IsFrame f → IsFramed (bytes ++ f)
framed_push bytes f framed is = record {
  frames = framed.frames ++ f ∷ [];
  each = all_push framed.frames f framed.each is;
  joined = concat_push framed.frames f ∙ ap (λ bs. bs ++ f) framed.joined;
}

pub frames_of-push : (bytes f : List ℕ) → IsFramed bytes → IsFrame f → frames_of (bytes ++ f) ≡ frames_of bytes ++ f ∷ []
unfolding framed_push
frames_of-push bytes f framed is =
    same_frames (bytes ++ f) (framed_push bytes f framed is) ∙ ap (λ fs. fs ++ f ∷ []) (sym (same_frames bytes framed))

-- the first frames and those behind them are all
concat-first_later : (room : ℕ) (frames : List (List ℕ)) → concat (first_frames room frames) ++ concat (later_frames room frames) ≡ concat frames
concat-first_later room [] = refl
concat-first_later room (f ∷ fs) = each (leb (length f) room) (concat-first_later (room - length f) fs)
  where
    each : (t : Bool)
        → concat (first_frames (room - length f) fs) ++ concat (later_frames (room - length f) fs) ≡ concat fs
        → concat (cond t (f ∷ first_frames (room - length f) fs) []) ++ concat (cond t (later_frames (room - length f) fs) (f ∷ fs)) ≡ f ++ concat fs
    each true rest = append_assoc f (concat (first_frames (room - length f) fs)) (concat (later_frames (room - length f) fs))
        ∙ ap (λ bs. f ++ bs) rest
    each false rest = refl

all_later : (room : ℕ) (frames : List (List ℕ)) → AllFrames frames → AllFrames (later_frames room frames)
all_later room [] each = tt
all_later room (f ∷ fs) all = each (leb (length f) room) (all_later (room - length f) fs all.1)
  where
    each : (t : Bool) → AllFrames (later_frames (room - length f) fs) → AllFrames (cond t (later_frames (room - length f) fs) (f ∷ fs))
    each true rest = rest
    each false rest = all

-- what is left once the first frames are gone
pub record IsWithoutFirst (room : ℕ) (bytes : List ℕ) (count : ℕ) : Type 0 where
  pub framed : IsFramed (drop count bytes)
  pub later : frames_of (drop count bytes) ≡ later_frames room (frames_of bytes)
  pub first : take count bytes ≡ concat (first_frames room (frames_of bytes))

pub without_first : (room : ℕ) (bytes : List ℕ) (count : ℕ) → IsFramed bytes → count ≡ first_size room bytes → IsWithoutFirst room bytes count
without_first room bytes count framed is =
    let first = first_frames room (frames_of bytes) in
    let later = later_frames room (frames_of bytes) in
    let each = all_later room (frames_of bytes) (all-frames_of bytes framed) in
    let parts : concat first ++ concat later ≡ bytes = concat-first_later room (frames_of bytes) ∙ concat-frames_of bytes framed in
    let rest : drop count bytes ≡ concat later = ap (drop count) (sym parts) ∙ drop_at (concat first) (concat later) count (sym is) in
    record {
      framed = subst IsFramed (sym rest) (joined_frames later each);
      later = ap frames_of rest ∙ frames_of-joined later each;
      first = ap (take count) (sym parts) ∙ take_at (concat first) (concat later) count (sym is);
    }

-- the frame at the front, where there is one
pub record IsFront (bytes : List ℕ) : Type 0 where
  pub head : 4 ≤ length bytes
  pub some : 4 ≤ frame_size bytes
  pub within : frame_size bytes ≤ length bytes
  pub rest : IsFramed (drop (frame_size bytes) bytes)
  pub is : frames_of bytes ≡ take (frame_size bytes) bytes ∷ frames_of (drop (frame_size bytes) bytes)

front_of : (frames : List (List ℕ)) → AllFrames frames → 0 < length (concat frames) → IsFront (concat frames)
front_of [] each some = absurd (omega (arith, some))
front_of (f ∷ fs) each some =
    let all = f ++ concat fs in
    let size : frame_size all ≡ length f = frame_size-front f (concat fs) each.0.head ∙ sym each.0.whole in
    let front : take (frame_size all) all ≡ f = ap (λ n. take n all) size ∙ take_at f (concat fs) (length f) refl in
    let behind : drop (frame_size all) all ≡ concat fs = ap (λ n. drop n all) size ∙ drop_at f (concat fs) (length f) refl in
    record {
      head = omega (arith, each.0.head, length-append f (concat fs));
      some = omega (arith, each.0.head, size);
      within = omega (arith, size, length-append f (concat fs));
      rest = subst IsFramed (sym behind) (joined_frames fs each.1);
      is = frames_of-joined (f ∷ fs) each ∙ ap₂ ◌∷◌ (sym front) (sym (ap frames_of behind ∙ frames_of-joined fs each.1));
    }

pub front_frame : (bytes : List ℕ) → IsFramed bytes → 0 < length bytes → IsFront bytes
front_frame bytes framed some =
    subst IsFront framed.joined (front_of framed.frames framed.each (subst (λ (bs : List ℕ). 0 < length bs) (sym framed.joined) some))

-- it is among the first frames where it fits
one_more : (room size : ℕ) (f : List ℕ) (fs : List (List ℕ)) → length f ≡ size → size ≤ room
    → length (concat (first_frames room (f ∷ fs))) ≡ size + length (concat (first_frames (room - size) fs))
one_more room size f fs has fits = grind (arith, nat_tests, length-append)

no_more : (room : ℕ) (f : List ℕ) (fs : List (List ℕ)) → room < length f → length (concat (first_frames room (f ∷ fs))) ≡ 0
no_more room f fs over = grind (arith, nat_tests)

pub first_size_more : (room : ℕ) (bytes : List ℕ) → IsFront bytes → frame_size bytes ≤ room
    → first_size room bytes ≡ frame_size bytes + first_size (room - frame_size bytes) (drop (frame_size bytes) bytes)
first_size_more room bytes front fits =
    ap (λ fs. length (concat (first_frames room fs))) front.is
    ∙ one_more room (frame_size bytes) (take (frame_size bytes) bytes) (frames_of (drop (frame_size bytes) bytes)) (length-take-le _ bytes front.within) fits

pub first_size_over : (room : ℕ) (bytes : List ℕ) → IsFront bytes → room < frame_size bytes → first_size room bytes ≡ 0
first_size_over room bytes front over =
    ap (λ fs. length (concat (first_frames room fs))) front.is
    ∙ no_more room (take (frame_size bytes) bytes) (frames_of (drop (frame_size bytes) bytes))
    (omega (arith, over, length-take-le (frame_size bytes) bytes front.within))

pub first_size_none : (room : ℕ) (bytes : List ℕ) → length bytes ≡ 0 → first_size room bytes ≡ 0
first_size_none room bytes none =
    ap (first_size room) (nil_from_length bytes none) ∙ ap (λ fs. length (concat (first_frames room fs))) frames_of-nil

-- there are no frames exactly where there are no bytes
pub no_frames : (bytes : List ℕ) (frames : List (List ℕ)) (count : ℕ) → IsFramed bytes → frames_of bytes ≡ frames → count ≡ length bytes
    → (IsTrue (eqb count 0) → frames ≡ []) × (frames ≡ [] → IsTrue (eqb count 0))
no_frames bytes frames count framed is has = (
  λ zero_bytes. sym is ∙ ap frames_of (nil_from_length bytes (sym has ∙ eqb-true count 0 zero_bytes)) ∙ frames_of-nil,
  λ none. eq-eqb count 0 (has ∙ ap length (nil-frames_of bytes framed (is ∙ none))),
)

-- whether a frame fits is told by the bytes
pub fits_bytes : (bytes datagram : List ℕ) → IsFramed bytes
    → fits_behind (frames_of bytes) datagram ≡ (leb (length datagram) 65535 && leb (length bytes + 4 + length datagram) 524288)
fits_bytes bytes datagram framed =
    ap (λ bs. leb (length datagram) 65535 && leb (length bs + 4 + length datagram) 524288) (concat-frames_of bytes framed)

-- the frame that a walk comes to
pub front_past : (bytes : List ℕ) (count : ℕ) → IsPast bytes count → count < length bytes → IsFront (drop count bytes)
front_past bytes count past some = front_frame (drop count bytes) past.framed (omega (arith, some, length-drop count bytes))

pub past_more : (bytes : List ℕ) (count size : ℕ) → IsPast bytes count → count < length bytes → size ≡ frame_size (drop count bytes)
    → size ≤ 65536 - count → IsPast bytes (count + size)
past_more bytes count size past some is fits =
    let rest = drop count bytes in
    let front = front_past bytes count past some in
    let behind : drop (count + size) bytes ≡ drop (frame_size rest) rest =
    ap (λ n. drop (count + n) bytes) is ∙ sym (drop-drop (frame_size rest) count bytes) in
    let left : 65536 - (count + size) ≡ (65536 - count) - frame_size rest = omega (arith, is) in
    let more = first_size_more (65536 - count) rest front (omega (arith, is, fits)) in
    let same = ap₂ first_size left behind in
    record {
      framed = subst IsFramed (sym behind) front.rest;
      rest = omega (arith, past.rest, more, same, is);
      within = omega (arith, front.within, is, some, length-drop count bytes);
      limit = omega (arith, past.limit, fits);
    }

pub past_over : (bytes : List ℕ) (count size : ℕ) → IsPast bytes count → count < length bytes → size ≡ frame_size (drop count bytes)
    → 65536 - count < size → count ≡ first_size 65536 bytes
past_over bytes count size past some is over =
    omega (arith, past.rest, first_size_over (65536 - count) (drop count bytes) (front_past bytes count past some) (omega (arith, is, over)))

pub past_all : (bytes : List ℕ) (count : ℕ) → IsPast bytes count → length bytes ≤ count → count ≡ first_size 65536 bytes
past_all bytes count past end =
    omega (arith, past.rest, first_size_none (65536 - count) (drop count bytes) (omega (arith, end, length-drop count bytes)))

-- a head and a datagram that are appended are one more frame
pub record IsOneMore (bytes now : List ℕ) (channel : ℕ) (datagram : List ℕ) : Type 0 where
  pub framed : IsFramed now
  pub frames : frames_of now ≡ frames_of bytes ++ frame channel datagram ∷ []

pub one_more_frame : (bytes mid now : List ℕ) (channel : ℕ) (datagram : List ℕ) → IsFramed bytes
    → mid ≡ bytes ++ 36 ∷ channel ∷ (length datagram / 256) ∷ (length datagram % 256) ∷ [] → now ≡ mid ++ datagram
    → IsOneMore bytes now channel datagram
one_more_frame bytes mid now channel datagram framed head rest =
    let f = frame channel datagram in
    let is = frame_is channel datagram in
    let header = 36 ∷ channel ∷ (length datagram / 256) ∷ (length datagram % 256) ∷ [] in
    let whole : now ≡ bytes ++ f = rest ∙ ap (λ bs. bs ++ datagram) head ∙ append_assoc bytes header datagram in
    record {
      framed = subst IsFramed (sym whole) (framed_push bytes f framed is);
      frames = ap frames_of whole ∙ frames_of-push bytes f framed is;
    }

-- what the test of the bytes answers is whether the frame fits
pub fits_frames : (bytes datagram : List ℕ) (frames : List (List ℕ)) (waiting : ℕ) (answer : Bool) → IsFramed bytes → frames_of bytes ≡ frames
    → waiting ≡ length bytes → answer ≡ (leb (length datagram) 65535 && leb (waiting + 4 + length datagram) 524288)
    → answer ≡ fits_behind frames datagram
fits_frames bytes datagram frames waiting answer framed is has answered =
    answered ∙ ap (λ n. leb (length datagram) 65535 && leb (n + 4 + length datagram) 524288) has
    ∙ sym (fits_bytes bytes datagram framed) ∙ ap (λ fs. fits_behind fs datagram) is
