-- Pages: their texts go to the host, and their blocks are run as scripts, in a frame of variables that belongs to the page. Besides
-- the codes of scripts there are three that end pages.
use Rattle.std.specs.Prelude.{ℕ, List, [], ◌∷◌, ◌++◌, ◌==◌, ◌||◌, codes, if◌then◌else◌}
use Rattle.txt_core.specs.Names.{Bytes}
use Rattle.adp_parse.specs.declared.piece.Piece.{Piece}
use Rattle.adp_parse.specs.declared.piece.Piece.TheVariants.{Text, Script, Words}
use Rattle.adp_parse.specs.declared.piece.Pieces.{Pieces}
use Rattle.tcl_frame.specs.Frames.{pushed, popped}
use Rattle.tcl_host.specs.Codes as code_of
use Rattle.tcl_eval.specs.Going.{Inner, unread, with_host, with_frames}
use Rattle.tcl_eval.specs.State.{LeafTable, TextEnd, Rest, Next}

-- a block of words is this script
abbrev pub words_script : Bytes → Bytes
words_script words = codes "ns_adp_append " ++ words

module _ {H : Type 0} where
  -- a page ends with this code and no result, and its frame of variables goes
  abbrev pub page_end : ℕ → Next H → Rest H
  page_end code k state = k code [] (with_frames state (popped state.frames))

  -- a text of a page ends as the host says
  abbrev pub text_end : TextEnd H → Next H → Rest H
  text_end end k state = k end.code end.result (with_host state end.host)

module _ {H : Type 0} (table : LeafTable H) where
  -- the host is told of this code, and then this goes on
  abbrev pub told : ℕ → Rest H → Rest H
  told code go state = go (with_host state (table.leaves code state.host))

  -- What follows a piece of a page: behind a good end the next piece. Of any other code the host is told. Then a return of a script
  -- or of the page ends the page well; a break of pages or an abort ends it with the same code, so that the page which included it
  -- ends too; and behind any other code, that of an error among them, the next piece follows.
  abbrev pub piece_end : Rest H → Next H → Next H
  piece_end go k code result =
      if code == code_of.ok then go
      else told code
      (if (code == code_of.return) || (code == code_of.page_return) then page_end code_of.ok k
      else if (code == code_of.page_break) || (code == code_of.page_abort) then page_end code k
      else go)

  -- a piece of a page, whose blocks are run so
  abbrev pub run_piece : Inner H → Piece → Next H → Rest H
  run_piece inner (Text text) k = λ state. text_end (table.texts text state.host) k state
  run_piece inner (Script script) k = inner.run (unread script) k
  run_piece inner (Words words) k = inner.run (unread (words_script words)) k

  -- the pieces of a page in order; where none is left, the host is told so, and the page ends well
  abbrev pub run_pieces : Inner H → List Piece → Next H → Rest H
  run_pieces inner [] k = told code_of.ok (page_end code_of.ok k)
  run_pieces inner (piece ∷ pieces) k = run_piece inner piece (piece_end (run_pieces inner pieces k) k)

  -- a page, in a frame of variables of its own
  abbrev pub run_page : Inner H → Pieces → Next H → Rest H
  run_page inner pieces k state = run_pieces inner pieces.list k (with_frames state (pushed state.frames))
