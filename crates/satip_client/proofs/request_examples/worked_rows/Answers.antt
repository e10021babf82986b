use Rattle.std.proofs.Common.{refl}
use Rattle.std.specs.Fmt.{digits}
use Rattle.satip_client.specs.Requests.{options_request, setup_request}
use Rattle.satip_client.proofs.request_examples.worked_rows.Goals as goal

pub returns-clause-setup : goal.returns-clause-setup
unfolding digits setup_request
returns-clause-setup c = refl

pub returns-clause-options : goal.returns-clause-options
unfolding digits options_request
returns-clause-options c = refl
