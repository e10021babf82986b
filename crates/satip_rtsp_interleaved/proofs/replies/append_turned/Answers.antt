use Rattle.std.proofs.Common.{◌+◌, ◌∷◌, ◌++◌, length, length-append, sym, ap, ◌∙◌, arith}
use Rattle.satip_rtsp_interleaved.specs.Turned.{turned, turned_line}
use Rattle.satip_rtsp_interleaved.proofs.TurnedLemmas.{begun_room, begun_more, begun_whole, turned_step, turned_end, turned_last}
use Rattle.satip_rtsp_interleaved.proofs.replies.append_turned.Goals as goal

pub loop-line-init : goal.loop-line-init
loop-line-init c = record { begun = ap (λ items. items ++ turned c.args.reply.now) (sym c.requires.empty); room = c.requires.room }

pub append-requires : goal.append-requires
append-requires c =
    let same = turned_end c.loop-line.left.now c.in-Some.line.now c.in-Some.rest.now c.in-Some.ensures.line.pieces
    (sym c.same_bytes.ensures.same ∙ c.if-same_bytes.true) in
    record {
      room = omega (
        arith,
        ap length same,
        begun_room _ _ _ _ c.loop-line.invariant.begun c.requires.whole c.loop-line.invariant.room,
        c.loop-line.text.ok.0,
      );
    }

pub returns-then-same_bytes-clause-turned : goal.returns-then-same_bytes-clause-turned
returns-then-same_bytes-clause-turned c =
    let same = turned_end c.loop-line.left.now c.in-Some.line.now c.in-Some.rest.now c.in-Some.ensures.line.pieces
    (sym c.same_bytes.ensures.same ∙ c.if-same_bytes.true) in
    begun_whole _ _ _ _ c.loop-line.invariant.begun same c.append.ensures.items

pub append_line-requires : goal.append_line-requires
append_line-requires c =
    let step = turned_step c.loop-line.left.now c.in-Some.line.now c.in-Some.rest.now c.in-Some.ensures.line.pieces
    (sym c.same_bytes.ensures.same ∙ c.if-same_bytes.false) in
    record {
      room = omega (
        arith,
        ap length step,
        length-append (turned_line c.in-Some.line.now) (10 ∷ turned c.in-Some.rest.now),
        begun_room _ _ _ _ c.loop-line.invariant.begun c.requires.whole c.loop-line.invariant.room,
        c.loop-line.text.ok.0,
      );
    }

pub append-requires-in-Some : goal.append-requires-in-Some
append-requires-in-Some c =
    let step = turned_step c.loop-line.left.now c.in-Some.line.now c.in-Some.rest.now c.in-Some.ensures.line.pieces
    (sym c.same_bytes.ensures.same ∙ c.if-same_bytes.false) in
    record {
      room = omega (
        arith,
        ap length step,
        length-append (turned_line c.in-Some.line.now) (10 ∷ turned c.in-Some.rest.now),
        begun_room _ _ _ _ c.loop-line.invariant.begun c.requires.whole c.loop-line.invariant.room,
        c.loop-line.text.ok.0,
        c.append_line.ensures.count,
        c.append_line.ensures.capacity,
      );
    }

pub loop-line-preserved : goal.loop-line-preserved
loop-line-preserved c =
    let step = turned_step c.loop-line.left.now c.in-Some.line.now c.in-Some.rest.now c.in-Some.ensures.line.pieces
    (sym c.same_bytes.ensures.same ∙ c.if-same_bytes.false) in
    record {
      begun = begun_more _ _ _ _ _ _ _ c.loop-line.invariant.begun step c.append_line.ensures.items c.append-in-Some.ensures.items;
      room = omega (arith, c.loop-line.invariant.room, c.append_line.ensures.capacity, c.append-in-Some.ensures.capacity);
    }

pub append-requires-2 : goal.append-requires-2
append-requires-2 c =
    let same = turned_last c.loop-line.left.now c.in_default.ensures.last.piece c.in_default.ensures.last.pieces in
    record {
      room = omega (
        arith,
        ap length same,
        begun_room _ _ _ _ c.loop-line.invariant.begun c.requires.whole c.loop-line.invariant.room,
        c.loop-line.text.ok.0,
      );
    }

pub returns-clause-turned : goal.returns-clause-turned
returns-clause-turned c =
    let same = turned_last c.loop-line.left.now c.in_default.ensures.last.piece c.in_default.ensures.last.pieces in
    begun_whole _ _ _ _ c.loop-line.invariant.begun same c.append-2.ensures.items
