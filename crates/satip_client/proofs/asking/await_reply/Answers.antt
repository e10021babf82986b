use Rattle.std.proofs.Common.{inl, ℕ, List, subst, sym, arith}
use Rattle.satip_client.specs.Waits.{IsOpen, StaysOpen}
use Rattle.satip_client.proofs.WaitLemmas.{stays_more, idle_as_before, idle_for_one, took_idle, took_nothing, took_piece}
use Rattle.satip_client.proofs.asking.await_reply.Goals as goal

pub turns-init : goal.turns-init
turns-init g c =
    let t = took_nothing g.W.Conn.tells (g.W.Conn.line c.args.wire.now) c.args.heard.now in
    (t.0, t.1, inl (omega arith), omega arith, λ more short. absurd (omega (arith, short)))

pub turns-preserved-in-Got : goal.turns-preserved-in-Got
turns-preserved-in-Got g c =
    let i = c.turns.invariant in
    let was_open = subst IsOpen c.bytes.ensures.bytes c.in-Some.ensures.is_open in
    let takes = c.in-Got.ensures.takes in
    let stays = subst (λ (t : List ℕ). StaysOpen t c.in-Some.more) c.bytes.ensures.bytes c.in-Some.ensures.stays in
    let t = took_piece _ _ _ _ _ _ _ i.0 was_open c.in-Got.ensures.takes in (
      t.0,
      t.1,
      idle_as_before _ (g.W.Conn.line c.args.wire.now) (g.W.Conn.line c.turns.wire) (g.W.Conn.line c.take_in.new.wire) i.2
          c.in-Got.ensures.takes.idles,
      i.3,
      subst (λ (t : List ℕ). StaysOpen t c.in-Some.more) (sym takes.took.held) (stays_more c.turns.heard takes.took.got c.in-Some.more stays),
    )

pub turns-preserved : goal.turns-preserved
turns-preserved g c =
    let i = c.turns.invariant in
    let stays = subst (λ (t : List ℕ). StaysOpen t c.in-Some.more) c.bytes.ensures.bytes c.in-Some.ensures.stays in
    let t = took_idle _ _ _ _ _ _ _ (i.0, i.1) c.in-Idle.ensures.takes in (
      t.0,
      t.1,
      idle_for_one _ (g.W.Conn.line c.args.wire.now) (g.W.Conn.line c.turns.wire) (g.W.Conn.line c.take_in.new.wire) i.2
          c.in-Idle.ensures.takes.1.idles,
      omega (arith, i.3, c.if-idles-eq-IDLES.false),
      subst (λ (t : List ℕ). StaysOpen t c.in-Some.more) (sym c.in-Idle.ensures.takes.0) stays,
    )
