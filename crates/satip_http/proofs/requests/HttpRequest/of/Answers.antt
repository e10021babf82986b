use Rattle.std.proofs.Common.{subst, sym, codes}
use Rattle.std.specs.Str.{bytes_eq}
use Rattle.satip_http.specs.Gets.{is_served_text}
use Rattle.satip_http.specs.declared.requests.HttpRequest.{HttpRequest}
use Rattle.satip_http.proofs.Causes.{Causes, TargetCauses, causes, target_causes}
use Rattle.satip_http.proofs.requests.HttpRequest.of.Goals as goal

pub returns : goal.returns
returns c =
    let of_this : HttpRequest → Type 0 = λ r. Causes (is_served_text c.args.message.now.version) (bytes_eq c.args.message.now.method (codes "GET")) r.refusal in
    let found : Causes (is_served_text c.args.message.now.version) (bytes_eq c.args.message.now.method (codes "GET")) c.read.new.self.refusal =
    subst of_this (sym c.read.ensures.asked) (causes c.args.message.now) in
    let target_of : HttpRequest → Type 0 = λ r. TargetCauses c.args.message.now r.refusal in
    let aimed : TargetCauses c.args.message.now c.read.new.self.refusal = subst target_of (sym c.read.ensures.asked) (target_causes c.args.message.now) in
    record {
      asked = c.read.ensures.asked;
      version = found.version;
      method = found.method;
      target = aimed.target;
      not_found = aimed.not_found;
      query = aimed.query;
      not_broken = found.not_broken;
      not_too_long = found.not_too_long;
    }
