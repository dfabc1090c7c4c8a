use Rattle.std.proofs.Common.{◌≡◌, ◌∙◌, ap, List, ℕ}
use Rattle.std.specs.declared.alloc.Global.{Global}
use Rattle.std.specs.declared.rc.Rc.{Rc}
use Rattle.tcl_parse.specs.declared.tree.Script.{Script}
use Rattle.tcl_parse.specs.Reading.{reading}
use Rattle.parse_cache.proofs.Caches.{added_seen, put_read}
use Rattle.parse_cache.proofs.cache.Cache.keep.Goals as goal

pub invariant_of-self-2 : goal.invariant_of-self-2
invariant_of-self-2 c =
    let same_key : c.in_ok-key.key.items ≡ c.args.text.now = c.in_ok-key.ensures.items ∙ c.bytes.ensures in
    rw c.in_ok-put.ensures.entries (put_read (λ (script : Rc Script Global). script.value) c.self.inside.scripts c.in_ok-key.key c.args.script c.self.invariant (ap (λ (bs : List ℕ). reading bs) same_key ∙ c.requires.spells))

pub returns-clause-ok : goal.returns-clause-ok
returns-clause-ok c =
    let same_key : c.in_ok-key.key.items ≡ c.args.text.now = c.in_ok-key.ensures.items ∙ c.bytes.ensures in
    added_seen c.args.text.now c.self.inside.scripts c.put.new.self c.self.inside.hits c.in_ok-key.key c.args.script c.args.self.now same_key c.in_ok-put.ensures.entries c.self.view_is c.requires.absent
