use Rattle.std.proofs.Common.{◌≡◌, ◌++◌, Some, None, is_some, rules, sym, ap, subst, ◌∙◌}
use Rattle.std.specs.FinMap as map
use Rattle.std.specs.Option.{option_copied_mut}
use Rattle.std.specs.Map.{lookup}
use Rattle.std.specs.BTreeMap.{is_at}
use Rattle.txt_core.specs.Knowing.{Holds}
use Rattle.nsv_bucket.specs.Arrays.{text_cmp, text_at}
use Rattle.nsv_bucket.proofs.Maps.{one_put, written_back}
use Rattle.nsv_bucket.proofs.Results.{ok_then, err_then, if_then}
use Rattle.nsv_bucket.proofs.Standing.{value_stands, value_lacks}
use Rattle.nsv_bucket.proofs.array.NsvArray.append.Goals as goal

pub append_sharing-requires : goal.append_sharing-requires
append_sharing-requires c =
    let found : lookup (is_at (text_cmp c.args.key.now)) c.self.inside.values.entries ≡ Some c.in-Some.text.now = sym c.get_mut.ensures.value ∙ ap option_copied_mut c.in-Some.is in
    subst (λ t. Holds c.args.known (t ++ c.args.more.now)) (value_stands c.self.inside.values.entries c.args.self.now c.args.key.now c.self.view_is c.in-Some.text.now found) c.requires

pub twice-requires : goal.twice-requires
twice-requires c =
    let absent : lookup (is_at (text_cmp c.args.key.now)) c.self.inside.values.entries ≡ None = sym c.get_mut.ensures.value ∙ ap option_copied_mut c.in-None.is in
    subst (λ t. Holds c.args.known (t ++ c.args.more.now)) (value_lacks c.self.inside.values.entries c.args.self.now c.args.key.now c.self.view_is absent) c.requires

pub returns-in-Some-clause-value : goal.returns-in-Some-clause-value
returns-in-Some-clause-value c =
    let found : lookup (is_at (text_cmp c.args.key.now)) c.self.inside.values.entries ≡ Some c.in-Some.text.now = sym c.get_mut.ensures.value ∙ ap option_copied_mut c.in-Some.is in
    if_then c.append_sharing.result c.append_sharing.ensures.value (λ text is.
    is ∙ ap (λ t. t ++ c.args.more.now) (sym (value_stands c.self.inside.values.entries c.args.self.now c.args.key.now c.self.view_is c.in-Some.text.now found)))

pub returns-in-Some-clause-ok : goal.returns-in-Some-clause-ok
returns-in-Some-clause-ok c =
    let entries = c.self.inside.values.entries in
    let array = c.args.self.now in
    let key = c.args.key.now in
    let new = c.append_sharing.new.self in
    let found : lookup (is_at (text_cmp key)) entries ≡ Some c.in-Some.text.now = sym c.get_mut.ensures.value ∙ ap option_copied_mut c.in-Some.is in
    ok_then c.append_sharing.result c.append_sharing.ensures.ok (λ is.
    let put : map.from_entries {R = text_cmp} (c.get_mut.follows.lender new).entries ≡ map.insert array key (text_at array key ++ c.args.more.now) =
    one_put entries (c.get_mut.follows.lender new).entries key new ((c.get_mut.follows.holds new).3 (ap is_some found)).0
    ∙ ap (λ m. map.insert m key new) c.self.view_is
    ∙ ap (map.insert array key) (is ∙ ap (λ t. t ++ c.args.more.now) (sym (value_stands entries array key c.self.view_is c.in-Some.text.now found))) in
    search rules)

pub returns-in-Some-clause-err : goal.returns-in-Some-clause-err
returns-in-Some-clause-err c =
    let entries = c.self.inside.values.entries in
    let key = c.args.key.now in
    let new = c.append_sharing.new.self in
    let found : lookup (is_at (text_cmp key)) entries ≡ Some c.in-Some.text.now = sym c.get_mut.ensures.value ∙ ap option_copied_mut c.in-Some.is in
    err_then c.append_sharing.result c.append_sharing.ensures.err (λ is.
    let put : map.from_entries {R = text_cmp} (c.get_mut.follows.lender new).entries ≡ c.args.self.now =
    written_back entries (c.get_mut.follows.lender new).entries (is_at (text_cmp key)) new (c.get_mut.follows.holds new).0 (found ∙ ap Some (sym is)) ∙ c.self.view_is in
    search rules)

pub returns-in_ok-put-in-None-clause-value : goal.returns-in_ok-put-in-None-clause-value
returns-in_ok-put-in-None-clause-value c =
    let absent : lookup (is_at (text_cmp c.args.key.now)) c.self.inside.values.entries ≡ None = sym c.get_mut.ensures.value ∙ ap option_copied_mut c.in-None.is in
    c.in_ok-value-in-None.ensures.1 ∙ ap (λ t. t ++ c.args.more.now) (sym (value_lacks c.self.inside.values.entries c.args.self.now c.args.key.now c.self.view_is absent))

pub returns-in_ok-put-in-None-clause-ok : goal.returns-in_ok-put-in-None-clause-ok
returns-in_ok-put-in-None-clause-ok c =
    let entries = c.self.inside.values.entries in
    let array = c.args.self.now in
    let key = c.args.key.now in
    let absent : lookup (is_at (text_cmp key)) entries ≡ None = sym c.get_mut.ensures.value ∙ ap option_copied_mut c.in-None.is in
    let same : map.from_entries {R = text_cmp} c.get_mut.follows.lender-at-none.entries ≡ map.from_entries entries = search rules in
    c.in_ok-put-in-None.ensures.ok
    ∙ ap (λ m. map.insert m key c.in_ok-value-in-None.value) (same ∙ c.self.view_is)
    ∙ ap (map.insert array key) (c.in_ok-value-in-None.ensures.0 ∙ ap (λ t. t ++ c.args.more.now) (sym (value_lacks entries array key c.self.view_is absent)))
