use Rattle.std.proofs.Common.{◌≡◌, ℕ, List, [], ◌∷◌, ◌++◌, None, sym, ap, ◌∙◌, subst}
use Rattle.std.specs.Option.{option_copied_mut}
use Rattle.std.specs.Global.{Vec}
use Rattle.std.specs.BTreeMap.{BTreeMap, insert_entry}
use Rattle.url_tables.specs.declared.site.Site.{Site}
use Rattle.url_tables.specs.Tables.{path_cmp, same_path, if_same, found}
use Rattle.url_tables.proofs.Keys.{put_behind, put_first, under}
use Rattle.url_tables.proofs.Passed.{on_ok}
use Rattle.url_tables.proofs.table.put.Goals as goal

pub returns-in-Some : goal.returns-in-Some
returns-in-Some c =
    on_ok c.add.result
    (λ more path.
    put_behind c.args.sites.now (c.get_mut.follows.lender c.add.new.self) c.as_slice.result.now path c.in-Some.others.now c.add.new.self c.args.site c.in-Some.ensures.value (c.get_mut.follows.holds c.add.new.self).0 more
    ∙ ap (λ (p : List (List ℕ)). found c.args.sites.now path ++ if_same (same_path path p) c.args.site) c.as_slice.ensures.value)
    c.add.ensures.ok

pub returns : goal.returns
returns c = λ path.
    let none : under c.as_slice.result.now c.args.sites.now.entries ≡ None = sym c.get_mut.ensures.value ∙ ap option_copied_mut c.in_default.is in
    let here : under c.args.plain.items c.args.sites.now.entries ≡ None = subst (λ (p : List (List ℕ)). under p c.args.sites.now.entries ≡ None) c.as_slice.ensures.value none in
    put_first c.args.sites.now c.insert.new.self c.args.plain path c.add-2.new.self c.args.site here
    (c.in_ok-insert.ensures.entries ∙ ap (λ (m : BTreeMap (Vec (List ℕ)) (List Site)). insert_entry (λ (a b : Vec (List ℕ)). path_cmp a.items b.items) m.entries c.args.plain c.add-2.new.self) c.get_mut.follows.holds-at-none)
    (c.in_ok-add.ensures.ok ∙ ap (λ (s : List Site). s ++ c.args.site ∷ []) c.new-first.ensures)
