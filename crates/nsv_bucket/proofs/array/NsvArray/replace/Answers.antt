use Rattle.std.proofs.Common.{sym, ap, ◌∙◌}
use Rattle.std.specs.FinMap as map
use Rattle.nsv_bucket.specs.Arrays.{text_cmp}
use Rattle.nsv_bucket.proofs.Maps.{got, one_put}
use Rattle.nsv_bucket.proofs.array.NsvArray.replace.Goals as goal

pub returns-clause-ok : goal.returns-clause-ok
returns-clause-ok c =
    one_put c.self.inside.values.entries c.insert.new.self.entries c.in_ok-key.key c.args.value c.in_ok-before.ensures.updates.0
    ∙ ap (λ k. map.insert (map.from_entries c.self.inside.values.entries) k c.args.value) c.in_ok-key.ensures
    ∙ ap (λ m. map.insert m c.args.key.now c.args.value) c.self.view_is

pub returns-clause-before : goal.returns-clause-before
returns-clause-before c =
    let entries = c.self.inside.values.entries in
    c.in_ok-before.ensures.old
    ∙ sym (got entries c.in_ok-key.key)
    ∙ ap (map.get (map.from_entries {R = text_cmp} entries)) c.in_ok-key.ensures
    ∙ ap (λ m. map.get m c.args.key.now) c.self.view_is
