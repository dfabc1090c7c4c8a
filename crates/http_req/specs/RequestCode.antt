-- How a request is stored by proofs.
use Rattle.std.specs.Coded.{Coded}
use Rattle.http_req.specs.declared.request.Request.{Request}
use Rattle.http_req.specs.contracts.request.Request as request

-- a request as the record of its parts
abbrev pub request_code : Coded Request
request_code = request.the_row.coded
