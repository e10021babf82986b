use Rattle.std.proofs.Common.{refl, lit<, ◌∙◌, ◌+◌, []}
use Rattle.satip_world.proofs.PausingLemmas.{rises_none, rises_once}
use Rattle.satip_tunnel.specs.Walk.{Free}
use Rattle.satip_tunnel.proofs.RunLemmas.{listens_from, listens_idle, listens_drained, heard_piece, drains_to_break, drains_to_lose, drains_to_stop, talked_to_end, talked_to_read_fault, talked_to_closing, talked_to_break, talked_to_write_fault, talked_to_stop}
use Rattle.satip_tunnel.proofs.PauseLemmas.{paused_all, paused_but_last}
use Rattle.satip_tunnel.proofs.connection.talk.Goals as goal

pub loop-init : goal.loop-init
loop-init g c = ((0, 0, rises_none _, [], listens_from _ _ _ _ _ _ c.requires.new), refl, rw c.requires.new refl, rw c.requires.new (lit< tt))

pub loop-preserved-in-All : goal.loop-preserved-in-All
loop-preserved-in-All g c =
    let h = heard_piece _ _ _ _ _ _ _ _ _ _ _ _ _ _ _ c.loop.invariant.0.4 c.in-Got.ensures.receives c.in-All.ensures.hears in (
      (h.pieces, c.loop.invariant.0.1, c.loop.invariant.0.2, _, h.hears),
      c.receive.auto.buf ∙ c.loop.invariant.1,
      c.in-All.ensures.goes_on refl,
      c.in-All.ensures.space refl,
    )

pub returns-in-Closed : goal.returns-in-Closed
returns-in-Closed g c =
    let h = heard_piece _ _ _ _ _ _ _ _ _ _ _ _ _ _ _ c.loop.invariant.0.4 c.in-Got.ensures.receives c.in-Closed.ensures.hears in
    record {
      talked = (
        h.pieces,
        c.loop.invariant.0.1,
        c.loop.invariant.0.1,
        paused_all _ _ _ _ c.loop.invariant.0.2,
        talked_to_closing _ _ _ _ _ _ (c.hear_piece.ensures.input ∙ c.in-Got.ensures.receives.after) h.hears,
      );
    }

pub returns-in-Broken : goal.returns-in-Broken
returns-in-Broken g c =
    let h = heard_piece _ _ _ _ _ _ _ _ _ _ _ _ _ _ _ c.loop.invariant.0.4 c.in-Got.ensures.receives c.in-Broken.ensures.hears in
    record {
      talked = (h.pieces, c.loop.invariant.0.1, c.loop.invariant.0.1, paused_all _ _ _ _ c.loop.invariant.0.2, talked_to_break _ _ _ _ _ _ h.hears);
    }

pub returns-in-Lost : goal.returns-in-Lost
returns-in-Lost g c =
    let h = heard_piece _ _ _ _ _ _ _ _ _ _ _ _ _ _ _ c.loop.invariant.0.4 c.in-Got.ensures.receives c.in-Lost.ensures.hears in
    record {
      talked = (
        h.pieces,
        c.loop.invariant.0.1,
        c.loop.invariant.0.1,
        paused_all _ _ _ _ c.loop.invariant.0.2,
        talked_to_write_fault _ _ _ _ _ _ (c.hear_piece.ensures.input ∙ c.in-Got.ensures.receives.after) h.hears,
      );
    }

pub returns-in-Spent : goal.returns-in-Spent
returns-in-Spent g c =
    let h = heard_piece _ _ _ _ _ _ _ _ _ _ _ _ _ _ _ c.loop.invariant.0.4 c.in-Got.ensures.receives c.in-Spent.ensures.hears in
    record {
      talked = (h.pieces, c.loop.invariant.0.1, c.loop.invariant.0.1, paused_all _ _ _ _ c.loop.invariant.0.2, talked_to_stop _ _ _ _ _ _ h.hears);
    }

pub loop-preserved : goal.loop-preserved
loop-preserved g c = (
  (
    c.loop.invariant.0.0,
    c.loop.invariant.0.1 + 1,
    rises_once _ _ _ _ c.loop.invariant.0.2 c.pause.ensures.pauses c.pause.ensures.once,
    c.loop.invariant.0.3,
    listens_drained _ _ _ _ _ _ _ _ _ _ (listens_idle _ _ _ _ _ _ _ _ c.loop.invariant.0.4 c.in-Idle.ensures.receives) (c.in-On.ensures.drains Free tt),
  ),
  c.receive.auto.buf ∙ c.loop.invariant.1,
  c.loop.invariant.2,
  c.loop.invariant.3,
)

pub returns-in-Broken-drain_all : goal.returns-in-Broken-drain_all
returns-in-Broken-drain_all g c = record {
  talked = (
    c.loop.invariant.0.0,
    c.loop.invariant.0.1 + 1,
    c.loop.invariant.0.1,
    paused_but_last _ _ _ _ refl c.loop.invariant.0.2,
    talked_to_break _ _ _ _ _ _
        (drains_to_break _ _ _ _ _ _ _ _ _ _ (listens_idle _ _ _ _ _ _ _ _ c.loop.invariant.0.4 c.in-Idle.ensures.receives)
        (c.in-Broken-drain_all.ensures.drains Free tt)),
  );
}

pub returns-in-Lost-drain_all : goal.returns-in-Lost-drain_all
returns-in-Lost-drain_all g c = record {
  talked = (
    c.loop.invariant.0.0,
    c.loop.invariant.0.1 + 1,
    c.loop.invariant.0.1,
    paused_but_last _ _ _ _ refl c.loop.invariant.0.2,
    talked_to_write_fault _ _ _ _ _ _ ((c.in-Lost-drain_all.ensures.drains Free tt).talks.input ∙ c.in-Idle.ensures.receives.after)
        (drains_to_lose _ _ _ _ _ _ _ _ _ _ (listens_idle _ _ _ _ _ _ _ _ c.loop.invariant.0.4 c.in-Idle.ensures.receives)
        (c.in-Lost-drain_all.ensures.drains Free tt)),
  );
}

pub returns-in-Spent-drain_all : goal.returns-in-Spent-drain_all
returns-in-Spent-drain_all g c = record {
  talked = (
    c.loop.invariant.0.0,
    c.loop.invariant.0.1 + 1,
    c.loop.invariant.0.1,
    paused_but_last _ _ _ _ refl c.loop.invariant.0.2,
    talked_to_stop _ _ _ _ _ _
        (drains_to_stop _ _ _ _ _ _ _ _ _ _ (listens_idle _ _ _ _ _ _ _ _ c.loop.invariant.0.4 c.in-Idle.ensures.receives)
        (c.in-Spent-drain_all.ensures.drains Free tt)),
  );
}

pub returns-in-End : goal.returns-in-End
returns-in-End g c = record {
  talked = (
    c.loop.invariant.0.0,
    c.loop.invariant.0.1,
    c.loop.invariant.0.1,
    paused_all _ _ _ _ c.loop.invariant.0.2,
    talked_to_end _ _ _ _ _ _ _ _ c.loop.invariant.0.4 c.in-End.ensures.receives,
  );
}

pub returns-in-Failed : goal.returns-in-Failed
returns-in-Failed g c = record {
  talked = (
    c.loop.invariant.0.0,
    c.loop.invariant.0.1,
    c.loop.invariant.0.1,
    paused_all _ _ _ _ c.loop.invariant.0.2,
    talked_to_read_fault _ _ _ _ _ _ _ _ c.loop.invariant.0.4 c.in-Failed.ensures.receives,
  );
}
