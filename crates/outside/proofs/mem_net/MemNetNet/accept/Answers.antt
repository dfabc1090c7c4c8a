use Rattle.std.proofs.Common.{◌≡◌, sym, ap, ◌∙◌, refl, rules}
use Rattle.outside.specs.Halls.{Hall}
use Rattle.outside.proofs.Leaving.{first_out}
use Rattle.outside.proofs.mem_net.MemNetNet.accept.Goals as goal

pub returns-clause-admits : goal.returns-clause-admits
returns-clause-admits g c =
    let calls : c.self.inside.calls ≡ c.args.self.now.calls = ap (λ (h : Hall). h.calls) c.self.view_is in
    let coming : c.self.inside.coming.items ≡ c.args.self.now.coming = ap (λ (h : Hall). h.coming) c.self.view_is in (
      search rules,
      (
        c.remove-input.result,
        sym coming ∙ first_out c.self.inside.coming.items c.remove-input.new.self.items c.remove-input.result (search rules) c.remove-input.ensures.value c.remove-input.ensures.items,
        c.new.ensures,
        c.new-2.ensures,
        refl,
      ),
      search rules,
      search rules,
      search rules,
    )
