-- Lists that have room taken before.
use Rattle.std.specs.Prelude.{ℕ, ◌-◌, List, vec_len, vec_capacity}
use Rattle.worker.specs.declared.stock.Stock.{Stock}

module _ {T : Type 0} where
  -- what such a list holds
  abbrev pub listed : Stock T → List T
  listed stock = stock.items.items

  -- how many items more it surely takes
  abbrev pub spare : Stock T → ℕ
  spare stock = vec_capacity stock.items - vec_len stock.items
