use Rattle.std.proofs.Common.{◌≡◌, ◌++◌, Some, None, rules, sym, ap, subst, ◌∙◌}
use Rattle.std.specs.FinMap as map
use Rattle.std.specs.Option.{option_copied_mut}
use Rattle.std.specs.Map.{lookup}
use Rattle.std.specs.BTreeMap.{is_at}
use Rattle.txt_core.specs.Knowing.{Holds}
use Rattle.nsv_bucket.specs.Arrays.{text_cmp, seen, array_of, text_at}
use Rattle.nsv_bucket.proofs.Results.{ok_then, err_then, if_then}
use Rattle.nsv_bucket.proofs.Standing.{stands, lacks, lacks_value, written, unwritten}
use Rattle.nsv_bucket.proofs.arrays.append_value.Goals as goal

pub append-requires : goal.append-requires
append-requires c =
    let h : lookup (is_at (text_cmp c.args.name.now)) c.args.arrays.now.entries ≡ Some c.in-Some.array.now = sym c.get_mut.ensures.value ∙ ap option_copied_mut c.in-Some.is in
    subst (λ a. Holds c.args.known (text_at a c.args.key.now ++ c.args.more.now)) (stands c.args.arrays.now c.args.name.now c.in-Some.array.now h) c.requires

pub returns-in-Some-clause-value : goal.returns-in-Some-clause-value
returns-in-Some-clause-value c =
    let h : lookup (is_at (text_cmp c.args.name.now)) c.args.arrays.now.entries ≡ Some c.in-Some.array.now = sym c.get_mut.ensures.value ∙ ap option_copied_mut c.in-Some.is in
    if_then c.append.result c.append.ensures.value (λ text is.
    is ∙ ap (λ a. text_at a c.args.key.now ++ c.args.more.now) (sym (stands c.args.arrays.now c.args.name.now c.in-Some.array.now h)))

pub returns-in-Some-clause-ok : goal.returns-in-Some-clause-ok
returns-in-Some-clause-ok c =
    let h : lookup (is_at (text_cmp c.args.name.now)) c.args.arrays.now.entries ≡ Some c.in-Some.array.now = sym c.get_mut.ensures.value ∙ ap option_copied_mut c.in-Some.is in
    ok_then c.append.result c.append.ensures.ok (λ put.
    written c.args.arrays.now (c.get_mut.follows.lender c.append.new.self) c.args.name.now c.in-Some.array.now c.append.new.self h (c.get_mut.follows.holds c.append.new.self)
    ∙ ap (λ a. map.insert (seen c.args.arrays.now) c.args.name.now a)
    (put ∙ ap (λ a. map.insert a c.args.key.now (text_at a c.args.key.now ++ c.args.more.now)) (sym (stands c.args.arrays.now c.args.name.now c.in-Some.array.now h))))

pub returns-in-Some-clause-err : goal.returns-in-Some-clause-err
returns-in-Some-clause-err c =
    let h : lookup (is_at (text_cmp c.args.name.now)) c.args.arrays.now.entries ≡ Some c.in-Some.array.now = sym c.get_mut.ensures.value ∙ ap option_copied_mut c.in-Some.is in
    err_then c.append.result c.append.ensures.err (λ put.
    unwritten c.args.arrays.now (c.get_mut.follows.lender c.append.new.self) c.args.name.now c.in-Some.array.now c.append.new.self h (c.get_mut.follows.holds c.append.new.self) put)

pub twice-requires : goal.twice-requires
twice-requires c =
    let h : lookup (is_at (text_cmp c.args.name.now)) c.args.arrays.now.entries ≡ None = sym c.get_mut.ensures.value ∙ ap option_copied_mut c.in-None.is in
    subst (λ t. Holds c.args.known (t ++ c.args.more.now)) (lacks_value c.args.arrays.now c.args.name.now c.args.key.now h) c.requires

pub returns-in_ok-place-in-None-clause-value : goal.returns-in_ok-place-in-None-clause-value
returns-in_ok-place-in-None-clause-value c =
    let h : lookup (is_at (text_cmp c.args.name.now)) c.args.arrays.now.entries ≡ None = sym c.get_mut.ensures.value ∙ ap option_copied_mut c.in-None.is in
    c.in_ok-value-in-None.ensures.1 ∙ ap (λ t. t ++ c.args.more.now) (sym (lacks_value c.args.arrays.now c.args.name.now c.args.key.now h))

pub returns-in_ok-place-in-None-clause-ok : goal.returns-in_ok-place-in-None-clause-ok
returns-in_ok-place-in-None-clause-ok c =
    let arrays = seen c.args.arrays.now in
    let name = c.args.name.now in
    let key = c.args.key.now in
    let value = c.in_ok-value-in-None.value in
    let h : lookup (is_at (text_cmp name)) c.args.arrays.now.entries ≡ None = sym c.get_mut.ensures.value ∙ ap option_copied_mut c.in-None.is in
    let same : seen c.get_mut.follows.lender-at-none ≡ arrays = search rules in
    c.in_ok-place-in-None.ensures.ok
    ∙ ap (λ m. map.insert m name c.in_ok-made-in-None.made) same
    ∙ ap (map.insert arrays name) (c.in_ok-made-in-None.ensures ∙ ap (λ a. map.insert a key value) (sym (lacks c.args.arrays.now name h)))
    ∙ ap (λ v. map.insert arrays name (map.insert (array_of arrays name) key v)) (c.in_ok-value-in-None.ensures.0 ∙ ap (λ t. t ++ c.args.more.now) (sym (lacks_value c.args.arrays.now name key h)))
