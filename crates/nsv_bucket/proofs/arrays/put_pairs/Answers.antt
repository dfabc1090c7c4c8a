use Rattle.std.proofs.Common.{◌≡◌, Some, None, rules, sym, ap, ◌∙◌}
use Rattle.std.specs.FinMap as map
use Rattle.std.specs.Option.{option_copied_mut}
use Rattle.std.specs.Map.{lookup}
use Rattle.std.specs.BTreeMap.{is_at}
use Rattle.nsv_bucket.specs.Arrays.{text_cmp, seen}
use Rattle.txt_core.specs.Keyed.{with_pairs}
use Rattle.nsv_bucket.proofs.Results.{ok_then, err_then}
use Rattle.nsv_bucket.proofs.Standing.{stands, lacks, written, unwritten}
use Rattle.nsv_bucket.proofs.arrays.put_pairs.Goals as goal

pub returns-in-Some-clause-ok : goal.returns-in-Some-clause-ok
returns-in-Some-clause-ok c =
    let h : lookup (is_at (text_cmp c.args.name.now)) c.args.arrays.now.entries ≡ Some c.in-Some.array.now = sym c.get_mut.ensures.value ∙ ap option_copied_mut c.in-Some.is in
    ok_then c.put_all.result c.put_all.ensures.ok (λ put.
    written c.args.arrays.now (c.get_mut.follows.lender c.put_all.new.self) c.args.name.now c.in-Some.array.now c.put_all.new.self h (c.get_mut.follows.holds c.put_all.new.self)
    ∙ ap (λ a. map.insert (seen c.args.arrays.now) c.args.name.now a) (put ∙ ap (λ a. with_pairs a c.args.pairs.now) (sym (stands c.args.arrays.now c.args.name.now c.in-Some.array.now h))))

pub returns-in-Some-clause-err : goal.returns-in-Some-clause-err
returns-in-Some-clause-err c =
    let h : lookup (is_at (text_cmp c.args.name.now)) c.args.arrays.now.entries ≡ Some c.in-Some.array.now = sym c.get_mut.ensures.value ∙ ap option_copied_mut c.in-Some.is in
    err_then c.put_all.result c.put_all.ensures.err (λ put.
    unwritten c.args.arrays.now (c.get_mut.follows.lender c.put_all.new.self) c.args.name.now c.in-Some.array.now c.put_all.new.self h (c.get_mut.follows.holds c.put_all.new.self) put)

pub returns-in-None-clause-ok : goal.returns-in-None-clause-ok
returns-in-None-clause-ok c =
    let h : lookup (is_at (text_cmp c.args.name.now)) c.args.arrays.now.entries ≡ None = sym c.get_mut.ensures.value ∙ ap option_copied_mut c.in-None.is in
    let same : seen c.get_mut.follows.lender-at-none ≡ seen c.args.arrays.now = search rules in
    ok_then c.place_pairs.result c.place_pairs.ensures.ok (λ put.
    put ∙ ap (λ m. map.insert m c.args.name.now (with_pairs map.empty c.args.pairs.now)) same ∙ ap (λ a. map.insert (seen c.args.arrays.now) c.args.name.now (with_pairs a c.args.pairs.now)) (sym (lacks c.args.arrays.now c.args.name.now h)))
