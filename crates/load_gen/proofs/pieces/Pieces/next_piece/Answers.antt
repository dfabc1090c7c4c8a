use Rattle.std.proofs.Common.{◌+◌, arith, sym, ap, ◌∙◌}
use Rattle.load_gen.specs.declared.pieces.Part.{Part}
use Rattle.load_gen.specs.Parts.{still}
use Rattle.load_gen.proofs.PieceBytes.{front_first, piece_some, piece_short}
use Rattle.load_gen.proofs.pieces.Pieces.next_piece.Goals as goal

pub returns-in_ok-piece-in-Front-clause-piece : goal.returns-in_ok-piece-in-Front-clause-piece
returns-in_ok-piece-in-Front-clause-piece c =
    let i = c.self.inside in
    sym c.self.view_is ∙ ap (λ (part : Part). still part i.left i.number i.drawn) c.in-Front.is
    ∙ front_first c.in_ok-piece-in-Front.piece i.left i.number i.drawn c.in_ok-piece-in-Front.ensures

pub returns-in_ok-drawn-in-Rounds-2-clause-some : goal.returns-in_ok-drawn-in-Rounds-2-clause-some
returns-in_ok-drawn-in-Rounds-2-clause-some c = λ none.
    let i = c.self.inside in
    piece_some c.push_rounds.new.file c.empty-piece.result c.args.self.now (i.number + c.min-count.result) c.min-count.result i.number i.drawn c.in_ok-drawn-in-Rounds-2.drawn
    (omega (arith, c.min-count.ensures, c.if-self-eq0.false)) c.empty-piece.ensures (c.in_ok-drawn-in-Rounds-2.ensures.rounds 0) none

pub returns-in_ok-drawn-in-Rounds-2-clause-short : goal.returns-in_ok-drawn-in-Rounds-2-clause-short
returns-in_ok-drawn-in-Rounds-2-clause-short c =
    let i = c.self.inside in
    piece_short c.push_rounds.new.file c.empty-piece.result (i.number + c.min-count.result) c.min-count.result i.number i.drawn c.in_ok-drawn-in-Rounds-2.drawn
    (omega (arith, c.min-count.ensures)) (omega (arith, c.min-count.ensures, c.self.invariant.0)) c.empty-piece.ensures (c.in_ok-drawn-in-Rounds-2.ensures.rounds 0)
