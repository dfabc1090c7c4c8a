-- How a response is stored by proofs.
use Rattle.std.specs.Coded.{Coded}
use Rattle.http_resp.specs.declared.response.Response.{Response}
use Rattle.http_resp.specs.contracts.response.Response as response

-- a response as the record of its parts
abbrev pub response_code : Coded Response
response_code = response.the_row.coded
