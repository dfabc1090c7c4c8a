use Rattle.std.proofs.Common.{◌≡◌, Bool, true, false, is_some, Some, None, sym, ap, ◌∙◌}
use Rattle.std.specs.FinMap as map
use Rattle.std.specs.Option.{option_copied_mut}
use Rattle.std.specs.Map.{lookup}
use Rattle.std.specs.BTreeMap.{is_at}
use Rattle.nsv_bucket.specs.Arrays.{text_cmp, seen}
use Rattle.nsv_bucket.proofs.Standing.{seen_at, stands, written}
use Rattle.nsv_bucket.proofs.arrays.remove_key.Goals as goal

pub returns-in-Some : goal.returns-in-Some
returns-in-Some c =
    let h : lookup (is_at (text_cmp c.args.name.now)) c.args.arrays.now.entries ≡ Some c.in-Some.array.now = sym c.get_mut.ensures.value ∙ ap option_copied_mut c.in-Some.is in
    written c.args.arrays.now (c.get_mut.follows.lender c.remove.new.self) c.args.name.now c.in-Some.array.now c.remove.new.self h (c.get_mut.follows.holds c.remove.new.self)
    ∙ ap (λ a. map.insert (seen c.args.arrays.now) c.args.name.now a) (c.remove.ensures ∙ ap (λ a. map.remove a c.args.key.now) (sym (stands c.args.arrays.now c.args.name.now c.in-Some.array.now h)))

pub returns-in-None : goal.returns-in-None
returns-in-None c =
    let gone : Path Bool false true = sym (ap is_some (seen_at c.args.arrays.now c.args.name.now None (sym c.get_mut.ensures.value ∙ ap option_copied_mut c.in-None.is))) ∙ c.requires in
    cc
