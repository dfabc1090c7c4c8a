use Rattle.std.proofs.Common.{◌≡◌, drop}
use Rattle.std.specs.Prelude.{filter_map}
use Rattle.conn_host.specs.Credentials.{shown_in, first_of, credentials}
use Rattle.conn_host.proofs.authorization.credentials_of.Given as goal

abbrev pub invariant-fields : goal.invariant-fields
invariant-fields l = credentials l.fn.fields ≡ first_of (filter_map shown_in (drop l.field-index l.field-items))
