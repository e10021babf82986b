use Rattle.std.proofs.Common.{subst, sym}
use Rattle.satip_rtsp.specs.declared.requests.Request.{Request}
use Rattle.satip_rtsp.proofs.Causes.{Causes, LaterCauses, causes, later_causes}
use Rattle.satip_rtsp.proofs.requests.Request.of.Goals as goal

pub returns : goal.returns
returns c =
    let of_this : Request → Type 0 = λ r. Causes c.args.message.now r.refusal in
    let found : Causes c.args.message.now c.fill.new.into.refusal = subst of_this (sym c.fill.ensures.asked) (causes c.args.message.now) in
    let later_of : Request → Type 0 = λ r. LaterCauses c.args.message.now r.refusal in
    let later : LaterCauses c.args.message.now c.fill.new.into.refusal = subst later_of (sym c.fill.ensures.asked) (later_causes c.args.message.now) in
    record {
      asked = c.fill.ensures.asked;
      no_cseq = found.no_cseq;
      version = found.version;
      method = found.method;
      require = later.require;
      target = later.target;
      query = later.query;
      not_broken = found.not_broken;
      not_too_long = found.not_too_long;
    }
