use Rattle.std.proofs.Common.{◌≡◌, ◌∙◌, ap, sym, rules, List, ℕ, Option, length, nat_lt, w64, FitsSigned}
use Rattle.std.proofs.lemmas.Int.{to_z-of_z}
use Rattle.std.specs.List.{position_or_len}
use Rattle.ns_sets.specs.Fields.{Field, ignoring_case, has_key, holds}
use Rattle.ns_sets.specs.Sets.{fields_of}
use Rattle.ns_sets.specs.declared.set.Set.{Set}
use Rattle.conn_host.specs.Conns.{ConnState, form_set}
use Rattle.conn_host.proofs.Placing.{any_is, placed}
use Rattle.conn_host.proofs.requested.is_in_form.Goals as goal

pub returns-in-Ok : goal.returns-in-Ok
returns-in-Ok c =
    let fits : FitsSigned w64 c.in-Ok.place = search rules in
    let fields = fields_of c.host.inside.sets form_set in
    let first = position_or_len (has_key ignoring_case c.args.key.now) fields in
    let sets : c.host.inside.sets ≡ c.args.host.now.sets = ap (λ (h : ConnState). h.sets) c.host.view_is in
    rw (to_z-of_z w64 c.in-Ok.place fits)
    (placed c.in-Ok.place (nat_lt first (length fields)) first c.in-Ok.ensures.place
    ∙ sym (any_is (has_key ignoring_case c.args.key.now) fields)
    ∙ ap (λ (s : List (Option Set)). holds ignoring_case (fields_of s form_set) c.args.key.now) sets)
