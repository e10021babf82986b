use Rattle.satip_http.specs.declared.requests.HttpRequest.{HttpRequest}
use Rattle.satip_plain.specs.Values.{IsQuery, IsRequest}
use Rattle.satip_entry_writer.specs.Requests.{http_request_text, query_text, request_text}
use Rattle.satip_entry_reader.proofs.ValuesAgain.{none_begins}
use Rattle.satip_entry_reader.specs.ReadingRequests.{http_request_read, query_read, request_read}
use Rattle.satip_entry_reader.proofs.Again.{http_request_again, query_again, request_again}
use Rattle.satip_entry_reader.proofs.read_again.no_request_begins_another.Goals as goal

pub returns-clause-query : goal.returns-clause-query
returns-clause-query c = none_begins IsQuery query_text query_read query_again

pub returns-clause-request : goal.returns-clause-request
returns-clause-request c = none_begins IsRequest request_text request_read request_again

pub returns-clause-http_request : goal.returns-clause-http_request
returns-clause-http_request c = none_begins (λ (r : HttpRequest). IsQuery r.query) http_request_text http_request_read http_request_again
