use Rattle.std.proofs.Common.{◌≡◌, arith}
use Rattle.std.specs.declared.alloc.Global.{Global}
use Rattle.std.specs.declared.rc.Rc.{Rc}
use Rattle.tcl_parse.specs.declared.tree.Script.{Script}
use Rattle.parse_cache.specs.Caches.{raised}
use Rattle.parse_cache.proofs.Caches.{hit_seen, promoted_read}
use Rattle.parse_cache.proofs.cache.Cache.use_key.Goals as goal

pub invariant_of-self : goal.invariant_of-self
invariant_of-self c =
    rw c.promote.ensures.entries (promoted_read (λ (script : Rc Script Global). script.value) c.bytes.result.now c.self.inside.scripts.entries c.self.invariant)

pub returns : goal.returns
returns c =
    let counted : c.saturating_add-self-inside.result ≡ raised c.self.inside.hits = omega (arith, c.saturating_add-self-inside.ensures) in
    hit_seen c.args.text.now c.self.inside.scripts c.promote.new.self c.self.inside.hits c.saturating_add-self-inside.result c.bytes.result.now c.args.self.now c.bytes.ensures c.promote.ensures.entries counted c.self.view_is c.requires
