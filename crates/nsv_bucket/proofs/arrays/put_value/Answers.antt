use Rattle.std.proofs.Common.{◌≡◌, Some, None, rules, sym, ap, ◌∙◌}
use Rattle.std.specs.FinMap as map
use Rattle.std.specs.Option.{option_copied_mut}
use Rattle.std.specs.Map.{lookup}
use Rattle.std.specs.BTreeMap.{is_at}
use Rattle.nsv_bucket.specs.Arrays.{text_cmp, seen}
use Rattle.nsv_bucket.proofs.Results.{ok_then, err_then}
use Rattle.nsv_bucket.proofs.Standing.{stands, lacks, written, unwritten}
use Rattle.nsv_bucket.proofs.arrays.put_value.Goals as goal

pub returns-in-Some-clause-ok : goal.returns-in-Some-clause-ok
returns-in-Some-clause-ok c =
    let h : lookup (is_at (text_cmp c.args.name.now)) c.args.arrays.now.entries ≡ Some c.in-Some.array.now = sym c.get_mut.ensures.value ∙ ap option_copied_mut c.in-Some.is in
    ok_then c.put.result c.put.ensures.ok (λ put.
    written c.args.arrays.now (c.get_mut.follows.lender c.put.new.self) c.args.name.now c.in-Some.array.now c.put.new.self h (c.get_mut.follows.holds c.put.new.self)
    ∙ ap (λ a. map.insert (seen c.args.arrays.now) c.args.name.now a) (put ∙ ap (λ a. map.insert a c.args.key.now c.args.value) (sym (stands c.args.arrays.now c.args.name.now c.in-Some.array.now h))))

pub returns-in-Some-clause-err : goal.returns-in-Some-clause-err
returns-in-Some-clause-err c =
    let h : lookup (is_at (text_cmp c.args.name.now)) c.args.arrays.now.entries ≡ Some c.in-Some.array.now = sym c.get_mut.ensures.value ∙ ap option_copied_mut c.in-Some.is in
    err_then c.put.result c.put.ensures.err (λ put.
    unwritten c.args.arrays.now (c.get_mut.follows.lender c.put.new.self) c.args.name.now c.in-Some.array.now c.put.new.self h (c.get_mut.follows.holds c.put.new.self) put)

pub returns-in_ok-array-in-None-clause-ok : goal.returns-in_ok-array-in-None-clause-ok
returns-in_ok-array-in-None-clause-ok c =
    let h : lookup (is_at (text_cmp c.args.name.now)) c.args.arrays.now.entries ≡ None = sym c.get_mut.ensures.value ∙ ap option_copied_mut c.in-None.is in
    let same : seen c.get_mut.follows.lender-at-none ≡ seen c.args.arrays.now = search rules in
    ok_then c.place.result c.place.ensures.ok (λ put.
    put ∙ ap (λ m. map.insert m c.args.name.now c.in_ok-array-in-None.array) same
    ∙ ap (map.insert (seen c.args.arrays.now) c.args.name.now) (c.in_ok-array-in-None.ensures ∙ ap (λ a. map.insert a c.args.key.now c.args.value) (sym (lacks c.args.arrays.now c.args.name.now h))))
