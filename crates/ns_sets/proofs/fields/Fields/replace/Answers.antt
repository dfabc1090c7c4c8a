use Rattle.std.proofs.Common.{◌++◌, ◌∷◌, [], ap, ◌∙◌}
use Rattle.ns_sets.specs.Fields.{without_place}
use Rattle.ns_sets.proofs.Places.{without_place-append}
use Rattle.ns_sets.proofs.fields.Fields.replace.Goals as goal

pub returns-clause-ok : goal.returns-clause-ok
returns-clause-ok c =
    ((c.remove_standing.ensures
    ∙ ap (λ fields. without_place fields c.find-standing.result) c.in_ok-put.ensures.ok)
    ∙ without_place-append c.args.self.now ((c.args.key.now, c.args.value.now) ∷ []) c.find-standing.result c.find-standing.ensures.within)
    ∙ ap (λ place. without_place c.args.self.now place ++ (c.args.key.now, c.args.value.now) ∷ []) c.find-standing.ensures.place
