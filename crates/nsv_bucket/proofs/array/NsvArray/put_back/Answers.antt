use Rattle.std.proofs.Common.{◌≡◌, Some, None, rules, sym, ap, ◌∙◌, is_some}
use Rattle.std.specs.Prelude.{if◌then◌else◌}
use Rattle.std.specs.FinMap as map
use Rattle.std.specs.Option.{option_copied_mut}
use Rattle.std.specs.Map.{lookup}
use Rattle.std.specs.BTreeMap.{is_at}
use Rattle.nsv_bucket.specs.Arrays.{text_cmp}
use Rattle.txt_core.specs.Keyed.{given_back}
use Rattle.nsv_bucket.proofs.Maps.{got, one_put}
use Rattle.nsv_bucket.proofs.array.NsvArray.put_back.Goals as goal

pub returns-in-Some-get_mut : goal.returns-in-Some-get_mut
returns-in-Some-get_mut c =
    let entries = c.self.inside.values.entries in
    let array = c.args.self.now in
    let key = c.args.key.now in
    let value = c.in-Some.value in
    let found : lookup (is_at (text_cmp key)) entries ≡ Some c.in-Some-get_mut.place.now = sym c.get_mut.ensures.value ∙ ap option_copied_mut c.in-Some-get_mut.is in
    let given : map.from_entries {R = text_cmp} (c.get_mut.follows.lender value).entries ≡ given_back array key c.args.value =
    one_put entries (c.get_mut.follows.lender value).entries key value ((c.get_mut.follows.holds value).3 (ap is_some found)).0
    ∙ ap (λ m. map.insert m key value) c.self.view_is
    ∙ ap (λ o. if is_some o then map.insert array key value else array) (sym (ap (λ m. map.get m key) (sym c.self.view_is) ∙ got entries key ∙ found))
    ∙ ap (given_back array key) (sym c.in-Some.is)
    in
    search rules

pub returns-in_default : goal.returns-in_default
returns-in_default c =
    let entries = c.self.inside.values.entries in
    let array = c.args.self.now in
    let key = c.args.key.now in
    let value = c.in-Some.value in
    let absent : lookup (is_at (text_cmp key)) entries ≡ None = sym c.get_mut.ensures.value ∙ ap option_copied_mut c.in_default.is in
    let same : map.from_entries {R = text_cmp} c.get_mut.follows.lender-at-none.entries ≡ map.from_entries entries = search rules in
    let given : map.from_entries {R = text_cmp} c.get_mut.follows.lender-at-none.entries ≡ given_back array key c.args.value =
    same
    ∙ c.self.view_is
    ∙ ap (λ o. if is_some o then map.insert array key value else array) (sym (ap (λ m. map.get m key) (sym c.self.view_is) ∙ got entries key ∙ absent))
    ∙ ap (given_back array key) (sym c.in-Some.is)
    in
    search rules
