use Rattle.std.proofs.Common.{sym, ap, ◌∙◌}
use Rattle.std.proofs.lemmas.List.{append-nil}
use Rattle.cmd_table.specs.declared.definition.Def.TheVariants.{Route, Filter}
use Rattle.url_tables.specs.Tables.{found}
use Rattle.url_tables.proofs.Passed.{adds, nothing_more, on_ok}
use Rattle.url_tables.proofs.routes.Routes.add.Goals as goal

pub returns-in-Route : goal.returns-in-Route
returns-in-Route c =
    rw c.in-Route.is
    (on_ok c.add_route.result (λ h defs b. adds c.args.self.now c.add_route.new.self defs (Route c.in-Route.method c.in-Route.url c.in-Route.inherit c.in-Route.words) h.0 (h.1 ∙ sym (append-nil c.args.self.now.filters.items)) b) c.add_route.ensures)

pub returns-in-Filter : goal.returns-in-Filter
returns-in-Filter c =
    rw c.in-Filter.is
    (on_ok c.add_filter.result (λ h defs b. adds c.args.self.now c.add_filter.new.self defs (Filter c.in-Filter.when c.in-Filter.method c.in-Filter.pattern c.in-Filter.words)
    (λ plain. ap (λ t. found t plain) h.1 ∙ sym (append-nil (found c.args.self.now.sites plain))) h.0 b) c.add_filter.ensures)

pub returns-in_default : goal.returns-in_default
returns-in_default c = λ defs b. nothing_more c.args.self.now defs c.args.def.now c.in_default.not-Route c.in_default.not-Filter b
