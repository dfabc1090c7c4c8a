use Rattle.std.proofs.Common.{◌≡◌, sym, ap, subst, refl, ◌∙◌, MutBor}
use Rattle.std.specs.Prelude.{Option, Some, None, OnSome, IsSome}
use Rattle.std.specs.Option.{option_copied_mut}
use Rattle.std.specs.FinMap as map
use Rattle.tcl_frame.specs.Entries.{by_bytes}
use Rattle.std.specs.Map.{lookup}
use Rattle.tcl_frame.proofs.Maps.{seeks, get_bytes, inserted}
use Rattle.tcl_frame.proofs.dictionary.Dictionary.get_mut.Goals as goal

-- what holds where a value is found holds where one is lent
where_lent : {V : Type 0} (lent : Option (MutBor V)) (found : Option V) {X : Type 0} → option_copied_mut lent ≡ found → (IsSome found → X) → OnSome lent X
where_lent None found e f = tt
where_lent (Some lent) found e f = f (subst IsSome e refl)

pub returns : goal.returns
returns g c =
    let key = c.args.key.now in
    let old = c.self.inside.values.entries in
    let found : lookup (seeks key) old ≡ map.get c.args.self.now key = sym (get_bytes old key) ∙ ap (λ m. map.get m key) c.self.view_is in (
      (
        refl,
        λ w. where_lent c.get_mut.result (lookup (seeks key) old) c.get_mut.ensures.value (λ is.
            let updates = (c.get_mut.follows.holds w).3 is in
            inserted key w old (c.get_mut.follows.lender w).entries updates.1 updates.3 ∙ ap (λ m. map.insert m key w) c.self.view_is),
        ap (λ values. map.from_entries (by_bytes values.entries)) c.get_mut.follows.holds-at-none ∙ c.self.view_is,
      ),
      record {
        writes_back = tt;
        value = c.get_mut.ensures.value ∙ found;
      },
    )
