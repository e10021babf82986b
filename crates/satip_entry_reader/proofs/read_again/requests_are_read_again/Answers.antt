use Rattle.satip_entry_reader.proofs.Again.{http_request_again, query_again, request_again}
use Rattle.satip_entry_reader.proofs.read_again.requests_are_read_again.Goals as goal

pub returns-clause-query : goal.returns-clause-query
returns-clause-query c = query_again

pub returns-clause-request : goal.returns-clause-request
returns-clause-request c = request_again

pub returns-clause-http_request : goal.returns-clause-http_request
returns-clause-http_request c = http_request_again
