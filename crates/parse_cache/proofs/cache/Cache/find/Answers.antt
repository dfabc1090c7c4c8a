use Rattle.std.proofs.Common.{◌≡◌, ◌∙◌, sym, ap, Some, None, []}
use Rattle.std.specs.declared.alloc.Global.{Global}
use Rattle.std.specs.declared.rc.Rc.{Rc}
use Rattle.std.specs.Map.{lookup}
use Rattle.tcl_parse.specs.declared.tree.Script.{Script}
use Rattle.tcl_parse.specs.Outcome.{done}
use Rattle.tcl_parse.specs.Reading.{reading}
use Rattle.tcl_parse.specs.View.{script_of}
use Rattle.parse_cache.proofs.Caches.{is_text, key_found, found_read}
use Rattle.parse_cache.proofs.cache.Cache.find.Goals as goal

pub returns-in-None : goal.returns-in-None
returns-in-None c =
    key_found c.args.text.now c.self.inside.scripts c.self.inside.hits c.bytes.result.now None c.args.self.now c.bytes.ensures (rw c.in-None.is at c.peek.ensures) c.self.view_is

pub returns-in_ok-shared-in-Some : goal.returns-in_ok-shared-in-Some
returns-in_ok-shared-in-Some c =
    let found : Some c.in-Some.script.now ≡ lookup (is_text c.bytes.result.now) c.self.inside.scripts.entries = rw c.in-Some.is at c.peek.ensures in
    let kept = found_read (λ (script : Rc Script Global). script.value) c.bytes.result.now c.self.inside.scripts.entries c.in-Some.script.now c.self.invariant (sym found) in (
      key_found c.args.text.now c.self.inside.scripts c.self.inside.hits c.bytes.result.now (Some c.in-Some.script.now) c.args.self.now c.bytes.ensures found c.self.view_is,
      ap reading (sym c.bytes.ensures) ∙ kept ∙ ap (λ (s : Script). done (script_of s) []) (sym c.in_ok-shared-in-Some.ensures.cases),
    )
