-- The wire of a connection in single replies and frames.
use Rattle.std.proofs.Common.{◌≡◌, ◌∙◌, ℕ, Bool, true, false, cond, List, [], ◌∷◌, ◌++◌, filter, append_assoc, refl, sym, ap, subst, inl, inr}
use Rattle.std.specs.List.{concat, flat_map}
use Rattle.satip_base.specs.Lists.{Begins, Each}
use Rattle.satip_base.proofs.Elements.{Each-append, Each-append_left, Each-append_right, each_follows}
use Rattle.satip_interleave.specs.Lanes.{no_lanes}
use Rattle.satip_tunnel_laws.specs.Pieces.{IsFrame, IsPiece, IsReply, SplitOneWay}
use Rattle.satip_interleave.specs.declared.events.TunnelEvent.{TunnelEvent}
use Rattle.satip_interleave.specs.declared.events.TunnelEvent.TheVariants.{Inner, Enter, Drain, Leave}
use Rattle.satip_interleave.specs.declared.events.TunnelAnswer.{TunnelAnswer}
use Rattle.satip_interleave.specs.declared.events.TunnelAnswer.TheVariants.{Inner as InnerAnswer, Lane, Full, Frames, Empty, Broken, Gone, Left}
use Rattle.satip_interleave.specs.Histories.{TunnelItem}
use Rattle.satip_tunnel_laws.specs.LaneFrames.{lane}
use Rattle.satip_tunnel.specs.Wire.{wire}
use Rattle.satip_tunnel_serve.specs.Wires.{Framed, Piece, Reply, WireHasLane, WiresHaveLanes, frames_of, pieces, pieces_by}
use Rattle.satip_tunnel_serve.specs.RunReplies.{RunsReply}
use Rattle.satip_tunnel_serve.specs.Splits.{AreReplies, WiresSplitOneWay, is_framed}
use Rattle.satip_tunnel_serve.proofs.Wiring.{bytes_of, wire_is}
use Rattle.satip_tunnel_serve.proofs.Framing.{AreFrames, DrainGives, all_give, lane_are, own_each}

joined-append : (a b : List (List ℕ)) → flat_map (λ p. p) (a ++ b) ≡ flat_map (λ p. p) a ++ flat_map (λ p. p) b
joined-append [] b = refl
joined-append (x ∷ xs) b = ap (λ rest. x ++ rest) (joined-append xs b) ∙ sym (append_assoc x (flat_map (λ p. p) xs) (flat_map (λ p. p) b))

concat_is : (xs : List (List ℕ)) → concat xs ≡ flat_map (λ p. p) xs
concat_is [] = refl
concat_is (x ∷ xs) = ap (λ rest. x ++ rest) (concat_is xs)

framed-append : (a b : List (List ℕ)) → filter is_framed (a ++ b) ≡ filter is_framed a ++ filter is_framed b
framed-append [] b = refl
framed-append (x ∷ xs) b = by (is_framed x) (framed-append xs b)
  where
    by : (t : Bool) → filter is_framed (xs ++ b) ≡ filter is_framed xs ++ filter is_framed b
        → cond t (x ∷ filter is_framed (xs ++ b)) (filter is_framed (xs ++ b)) ≡ cond t (x ∷ filter is_framed xs) (filter is_framed xs) ++ filter is_framed b
    by true rest = ap (λ more. x ∷ more) rest
    by false rest = rest

frame_first : (f : List ℕ) → IsFrame f → is_framed f ≡ true
frame_first f is = ap is_framed is.text_is

reply_first : (r : List ℕ) → IsReply r → is_framed r ≡ false
reply_first r is = ap is_framed is.text_is

all_framed : (fs : List (List ℕ)) → AreFrames fs → filter is_framed fs ≡ fs
all_framed [] are = refl
all_framed (f ∷ fs) are = ap (λ b. cond b (f ∷ filter is_framed fs) (filter is_framed fs)) (frame_first f are.0) ∙ ap (λ rest. f ∷ rest) (all_framed fs are.1)

frames_pieces : (fs : List (List ℕ)) → AreFrames fs → Each IsPiece fs
frames_pieces fs are = each_follows IsFrame IsPiece (λ f is. inr is) fs are

-- single parts of pieces

record Parted (ps : List Piece) : Type 0 where
  parts : List (List ℕ)
  each : Each IsPiece parts
  joined : flat_map (λ p. p) parts ≡ bytes_of ps
  framed : flat_map (λ p. p) (filter is_framed parts) ≡ frames_of ps
  frames : AreFrames (filter is_framed parts)

no_parts : Parted []
no_parts = record { parts = []; each = tt; joined = refl; framed = refl; frames = tt }

reply_part : (bytes : List ℕ) (ps : List Piece) → IsReply bytes → Parted ps → Parted (Reply bytes ∷ ps)
reply_part bytes ps is rest =
    let none : filter is_framed (bytes ∷ rest.parts) ≡ filter is_framed rest.parts =
    ap (λ b. cond b (bytes ∷ filter is_framed rest.parts) (filter is_framed rest.parts)) (reply_first bytes is) in
    record {
      parts = bytes ∷ rest.parts;
      each = (inl is, rest.each);
      joined = ap (λ more. bytes ++ more) rest.joined;
      framed = ap (flat_map (λ p. p)) none ∙ rest.framed;
      frames = subst AreFrames (sym none) rest.frames;
    }

frame_parts : (bytes : List ℕ) (ps : List Piece) (fs : List (List ℕ)) → AreFrames fs → concat fs ≡ bytes → Parted ps → Parted (Framed bytes ∷ ps)
frame_parts bytes ps fs are is rest =
    let whole : flat_map (λ p. p) fs ≡ bytes = sym (concat_is fs) ∙ is in
    let split : filter is_framed (fs ++ rest.parts) ≡ fs ++ filter is_framed rest.parts =
    framed-append fs rest.parts ∙ ap (λ front. front ++ filter is_framed rest.parts) (all_framed fs are) in
    record {
      parts = fs ++ rest.parts;
      each = Each-append IsPiece fs rest.parts (frames_pieces fs are) rest.each;
      joined = joined-append fs rest.parts ∙ ap (λ front. front ++ flat_map (λ p. p) rest.parts) whole ∙ ap (λ back. bytes ++ back) rest.joined;
      framed = ap (flat_map (λ p. p)) split ∙ joined-append fs (filter is_framed rest.parts)
          ∙ ap (λ front. front ++ flat_map (λ p. p) (filter is_framed rest.parts)) whole ∙ ap (λ back. bytes ++ back) rest.framed;
      frames = subst AreFrames (sym split) (Each-append IsFrame fs (filter is_framed rest.parts) are rest.frames);
    }

one_parted : (t : TunnelItem) (event : TunnelEvent) (answer : TunnelAnswer) (rest : List Piece) → DrainGives event t
    → AreReplies (pieces_by event answer t.out ++ rest)
    → (AreReplies rest → Parted rest) → Parted (pieces_by event answer t.out ++ rest)
one_parted t (Inner event) answer rest gives replies then_rest = reply_part _ rest replies.0 (then_rest replies.1)
one_parted t Enter answer rest gives replies then_rest = then_rest replies
one_parted t (Drain number) (InnerAnswer a) rest gives replies then_rest = then_rest replies
one_parted t (Drain number) (Lane n) rest gives replies then_rest = then_rest replies
one_parted t (Drain number) Full rest gives replies then_rest = then_rest replies
one_parted t (Drain number) (Frames count) rest gives replies then_rest =
    frame_parts t.out.reply rest gives.frames gives.are gives.joined (then_rest replies)
one_parted t (Drain number) Empty rest gives replies then_rest = then_rest replies
one_parted t (Drain number) Broken rest gives replies then_rest = then_rest replies
one_parted t (Drain number) Gone rest gives replies then_rest = then_rest replies
one_parted t (Drain number) Left rest gives replies then_rest = then_rest replies
one_parted t (Leave number) answer rest gives replies then_rest = then_rest replies

all_parted : (es : List TunnelItem) → Each (λ (t : TunnelItem). DrainGives t.event t) es → AreReplies (pieces es) → Parted (pieces es)
all_parted [] gives replies = no_parts
all_parted (t ∷ ts) gives replies = one_parted t t.event t.answer (pieces ts) gives.0 replies (λ rest. all_parted ts gives.1 rest)

-- a beginning of frames is frames
begins_frames : (taken all : List (List ℕ)) → Begins taken all → AreFrames all → AreFrames taken
begins_frames taken all begins are = Each-append_left IsFrame taken begins.rest (subst AreFrames begins.whole are)

pub wires_split_one_way : SplitOneWay → WiresHaveLanes → RunsReply → WiresSplitOneWay
wires_split_one_way one lanes reply c h before entries numbers caller x draws received sent end legal callers part run given =
    let replies : AreReplies (pieces entries) = reply c h before entries caller draws received sent end legal part run in
    let has : WireHasLane h before entries caller x = lanes c h before entries numbers caller x draws received sent end legal callers part run given in
    let D : TunnelItem → Type 0 = λ t. DrainGives t.event t in
    let own : Each D (before ++ (entries ++ part.after)) = subst (Each D) part.whole (own_each D caller h (all_give h no_lanes tt legal.lanes)) in
    let mine : Each D entries = Each-append_left D entries part.after (Each-append_right D before (entries ++ part.after) own) in
    let parted = all_parted entries mine replies in
    let joined : flat_map (λ p. p) parted.parts ≡ wire entries = parted.joined ∙ wire_is entries in
    let frames : AreFrames has.taken = begins_frames has.taken (lane h x) has.first (lane_are x h) in
    let same : has.taken ≡ filter is_framed parted.parts =
    one has.taken (filter is_framed parted.parts) (frames_pieces has.taken frames) (frames_pieces (filter is_framed parted.parts) parted.frames)
    (sym (concat_is has.taken) ∙ has.joined ∙ sym parted.framed) in
    record {
      parts = parted.parts;
      each = parted.each;
      joined = joined;
      only = λ others pieces_too bytes. one others parted.parts pieces_too parted.each (bytes ∙ sym joined);
      first = subst (λ (fs : List (List ℕ)). Begins fs (lane h x)) same has.first;
      all = λ some ends.
          let then_all = has.all some ends in
          record {
            earlier = then_all.earlier;
            later = then_all.later;
            whole = then_all.whole;
            is_of = then_all.is_of;
            is_own = then_all.is_own;
            all = sym same ∙ then_all.all;
          };
    }
