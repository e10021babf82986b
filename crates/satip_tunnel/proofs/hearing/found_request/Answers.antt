use Rattle.std.proofs.Common.{◌≡◌, false, sym, subst}
use Rattle.satip_rtsp.specs.declared.requests.Request.{Request}
use Rattle.satip_plain.specs.Suits.{closes}
use Rattle.satip_tunnel.proofs.SuitLemmas.{message_goes_on}
use Rattle.satip_tunnel.proofs.hearing.found_request.Goals as goal

pub returns-clause-whole : goal.returns-clause-whole
returns-clause-whole c =
    let P : Request → Type 0 = λ r. closes r.refusal ≡ false in
    subst P (sym c.request.ensures.asked) (message_goes_on c.in-Some.message)
