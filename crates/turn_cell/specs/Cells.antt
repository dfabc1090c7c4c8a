-- What a clause says of a cell and of its passes.
use Rattle.crossbeam_queue.specs.Passes.{view, IsPassOf}
use Rattle.turn_cell.specs.declared.object.Obj.{Ghosts}
use Rattle.turn_cell.specs.declared.view.View.{View}
use Rattle.turn_cell.specs.declared.cell.Pass.{Pass}
use Rattle.turn_cell.specs.declared.cell.TurnCell.{TurnCell}

module _ {S C R : Type 0} {g : Ghosts S C R} where
  -- what the pass knows
  abbrev pub pass_view : Pass S C R g → View S C R
  pass_view p = view p.seat

  -- the pass was made by this cell, by `new` or by `split`
  abbrev pub IsOf : TurnCell S C R → Pass S C R g → Type 0
  IsOf cell pass = IsPassOf cell.queue pass.seat
