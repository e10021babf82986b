use Rattle.satip_base.proofs.TextLemmas.{length-address_text-le}
use Rattle.satip_rtcp.proofs.address.write_address.Goals as goal

pub returns-clause-bound : goal.returns-clause-bound
returns-clause-bound c = length-address_text-le c.args.ip c.ranges.ip.fits
