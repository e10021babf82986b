use Rattle.std.proofs.Common.{true, false, cond, [], ◌∷◌, ◌++◌, ap, ◌∙◌}
use Rattle.satip_interleave.specs.Frames.{frame}
use Rattle.satip_interleave.proofs.FrameLemmas.{fits_frames, one_more_frame}
use Rattle.satip_interleave.proofs.queue.Queue.append.Goals as goal

pub returns-then-not-fits-clause-fits : goal.returns-then-not-fits-clause-fits
returns-then-not-fits-clause-fits c =
    fits_frames c.self.inside.ring c.args.datagram.now c.args.self.now c.len.result false c.self.invariant c.self.view_is c.len.ensures.count
    c.if-not-fits.ensures.fits

pub returns-then-not-fits-clause-appended : goal.returns-then-not-fits-clause-appended
returns-then-not-fits-clause-appended c =
    let no = fits_frames c.self.inside.ring c.args.datagram.now c.args.self.now c.len.result false c.self.invariant c.self.view_is c.len.ensures.count
    c.if-not-fits.ensures.fits in
    ap (λ b. cond b (c.args.self.now ++ frame c.args.channel c.args.datagram.now ∷ []) c.args.self.now) no

pub invariant_of-self : goal.invariant_of-self
invariant_of-self c =
    (one_more_frame c.self.inside.ring c.push.new.self c.push-2.new.self c.args.channel c.args.datagram.now c.self.invariant
    c.push.ensures.pushed c.push-2.ensures.pushed).framed

pub returns-clause-fits : goal.returns-clause-fits
returns-clause-fits c =
    fits_frames c.self.inside.ring c.args.datagram.now c.args.self.now c.len.result true c.self.invariant c.self.view_is c.len.ensures.count
    c.if-not-fits.ensures.fits

pub returns-clause-appended : goal.returns-clause-appended
returns-clause-appended c =
    let yes = fits_frames c.self.inside.ring c.args.datagram.now c.args.self.now c.len.result true c.self.invariant c.self.view_is c.len.ensures.count
    c.if-not-fits.ensures.fits in
    let more = one_more_frame c.self.inside.ring c.push.new.self c.push-2.new.self c.args.channel c.args.datagram.now c.self.invariant
    c.push.ensures.pushed c.push-2.ensures.pushed in
    more.frames ∙ ap (λ fs. fs ++ frame c.args.channel c.args.datagram.now ∷ []) c.self.view_is
    ∙ ap (λ b. cond b (c.args.self.now ++ frame c.args.channel c.args.datagram.now ∷ []) c.args.self.now) yes
