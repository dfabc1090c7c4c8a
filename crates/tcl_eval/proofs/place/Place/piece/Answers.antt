use Rattle.tcl_eval.specs.Places.{tree_of, word_parts}
use Rattle.tcl_eval.proofs.Rows.{past_place, none_at_place, some_at_place}
use Rattle.tcl_eval.proofs.place.Place.piece.Goals as goal

pub returns-then-self-pieces-clause-found : goal.returns-then-self-pieces-clause-found
returns-then-self-pieces-clause-found c =
    let p = c.args.self.now in
    let whole = word_parts p.command p.word (tree_of p.script.value) in
    let is = rw (c.as_slice.ensures.value, c.word_pieces-pieces.ensures, c.deref.ensures) at c.follow-pieces.ensures in
    past_place c.follow-pieces.result.now p.next p.path.items whole is c.if-self-pieces.true

pub returns-in-None-clause-found : goal.returns-in-None-clause-found
returns-in-None-clause-found c =
    let p = c.args.self.now in
    let whole = word_parts p.command p.word (tree_of p.script.value) in
    let is = rw (c.as_slice.ensures.value, c.word_pieces-pieces.ensures, c.deref.ensures) at c.follow-pieces.ensures in
    none_at_place c.follow-pieces.result.now p.next p.path.items whole is c.in-None.ensures

pub returns-in-Some-clause-found : goal.returns-in-Some-clause-found
returns-in-Some-clause-found c =
    let p = c.args.self.now in
    let whole = word_parts p.command p.word (tree_of p.script.value) in
    let is = rw (c.as_slice.ensures.value, c.word_pieces-pieces.ensures, c.deref.ensures) at c.follow-pieces.ensures in
    some_at_place c.follow-pieces.result.now p.next p.path.items whole c.in-Some.piece.now c.look.result is c.in-Some.ensures c.look.ensures
