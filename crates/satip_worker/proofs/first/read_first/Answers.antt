use Rattle.std.proofs.Common.{refl, ◌∙◌, ◌++◌, [], take}
use Rattle.satip_http.specs.Gets.{asked_get}
use Rattle.satip_frame.proofs.TextLemmas.{nothing_asked, more_came}
use Rattle.satip_worker.proofs.PauseLemmas.{pauses_none, pauses_idle, pauses_on}
use Rattle.satip_worker.proofs.ProgressLemmas.{calm_counts, calm_from, calm_idle, calm_then, carries_nothing, carries_got, carries_idle, carries_on}
use Rattle.satip_worker.proofs.FirstLemmas.{first_found, first_broken, read_asked, read_nothing, read_failed}
use Rattle.satip_worker.proofs.first.read_first.Goals as goal

pub loop-init : goal.loop-init
loop-init g c = (rw c.requires.new refl, refl, ([], rw c.requires.new (nothing_asked asked_get), carries_nothing _ _), calm_from _, pauses_none _ _)

pub returns-in-Asked : goal.returns-in-Asked
returns-in-Asked g c =
    let before = c.loop.invariant.2 in
    let piece = take c.in-Got.count c.receive.new.buf in
    let waits = more_came asked_get before.0 piece c.loop.framer.bytes c.new.result [] c.new.ensures.whole before.1 in
    record {
      reads = read_asked _ _ _ _ before.0 c.receive.new.buf c.in-Got.count _ before.2 c.loop.invariant.3 c.in-Got.ensures.receives
          (first_found (before.0 ++ piece) _ _ (c.in-Asked.ensures.hears (before.0 ++ piece) [] waits));
      pauses = pauses_on _ _ _ _ _ c.loop.invariant.4 c.in-Got.ensures.receives.counts.idles;
    }

pub returns-in-Last : goal.returns-in-Last
returns-in-Last g c =
    let before = c.loop.invariant.2 in
    let piece = take c.in-Got.count c.receive.new.buf in
    let waits = more_came asked_get before.0 piece c.loop.framer.bytes c.new.result [] c.new.ensures.whole before.1 in
    record {
      reads = read_asked _ _ _ _ before.0 c.receive.new.buf c.in-Got.count _ before.2 c.loop.invariant.3 c.in-Got.ensures.receives
          (first_broken (before.0 ++ piece) _ (c.in-Last.ensures.hears (before.0 ++ piece) [] waits));
      pauses = pauses_on _ _ _ _ _ c.loop.invariant.4 c.in-Got.ensures.receives.counts.idles;
    }

pub loop-preserved-in-Nothing : goal.loop-preserved-in-Nothing
loop-preserved-in-Nothing g c =
    let before = c.loop.invariant.2 in
    let piece = take c.in-Got.count c.receive.new.buf in
    let waits = more_came asked_get before.0 piece c.loop.framer.bytes c.new.result [] c.new.ensures.whole before.1 in (
      c.in-Nothing.ensures.open (λ is. cc is),
      c.receive.auto.buf ∙ c.loop.invariant.1,
      (
        before.0 ++ piece,
        (c.in-Nothing.ensures.hears (before.0 ++ piece) [] waits).0,
        carries_got _ _ _ _ before.0 [] c.receive.new.buf c.in-Got.count before.2 c.in-Got.ensures.receives,
      ),
      calm_then _ _ _ c.loop.invariant.3 (calm_counts _ _ c.in-Got.ensures.receives.counts),
      pauses_on _ _ _ _ _ c.loop.invariant.4 c.in-Got.ensures.receives.counts.idles,
    )

pub loop-preserved : goal.loop-preserved
loop-preserved g c =
    let before = c.loop.invariant.2 in (
      c.loop.invariant.0,
      c.receive.auto.buf ∙ c.loop.invariant.1,
      (before.0, before.1, carries_on _ _ _ _ _ _ before.2 (carries_idle _ _ _ c.in-Idle.ensures.receives)),
      calm_then _ _ _ c.loop.invariant.3 (calm_idle _ _ _ c.in-Idle.ensures.receives),
      pauses_idle _ _ _ _ _ _ _ c.loop.invariant.4 c.in-Idle.ensures.receives c.pause.ensures.pauses c.pause.ensures.once,
    )

pub returns-in-End : goal.returns-in-End
returns-in-End g c =
    let before = c.loop.invariant.2 in
    record {
      reads = read_nothing _ _ _ _ before.0 _ before.1 before.2 c.loop.invariant.3 c.in-End.ensures.receives;
      pauses = pauses_on _ _ _ _ _ c.loop.invariant.4 c.in-End.ensures.receives.counts.idles;
    }

pub returns-in-Failed : goal.returns-in-Failed
returns-in-Failed g c =
    let before = c.loop.invariant.2 in
    record {
      reads = read_failed _ _ _ _ before.0 _ before.1 before.2 c.loop.invariant.3 c.in-Failed.ensures.receives;
      pauses = pauses_on _ _ _ _ _ c.loop.invariant.4 c.in-Failed.ensures.receives.idles;
    }
