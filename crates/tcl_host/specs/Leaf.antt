-- A host: what it says of the commands that the engine doesn't know, and of the pages that it entered.
use Rattle.std.specs.Prelude.{ℕ}
use Rattle.txt_core.specs.Names.{Bytes, Words}
use Rattle.adp_parse.specs.declared.piece.Pieces.{Pieces}
use Rattle.outside.specs.declared.question.Answer.{Answer}
use Rattle.outside.specs.declared.question.Question.{Question}
use Rattle.cmd_table.specs.declared.definition.Def.{Def}

-- What a host, whose state is an H, says of a command, and its state then.
pub data Leaf (H : Type 0) : Type 0 where
  -- it is done, with this code and result
  says : (code : ℕ) (result : Bytes) (host : H) → Leaf H
  -- it asks this question first
  wants : (question : Question) (host : H) → Leaf H
  -- it is this definition
  defines : (def : Def) (host : H) → Leaf H
  -- a variable is to be written, and then this is the result
  stores : (name value result : Bytes) (host : H) → Leaf H
  -- it is no command of the host's
  not_mine : (host : H) → Leaf H

-- What a host says of an answer to a question that a command asked.
pub data Onward (H : Type 0) : Type 0 where
  -- what it may say of a command
  goes : (leaf : Leaf H) → Onward H
  -- these pieces of a page, which is open now, are run
  enters : (pieces : Pieces) (host : H) → Onward H

-- What a host says of a text of a page: the end that the text comes to, and its state then.
pub record TextEnd (H : Type 0) : Type 0 where
  pub code : ℕ
  pub result : Bytes
  pub host : H

-- A host.
pub record LeafTable (H : Type 0) : Type 0 where
  -- what it says of a command's words
  pub calls : Words → H → Leaf H
  -- of an answer to a question that these words asked
  pub answers : Words → Answer → H → Onward H
  -- of a text of the innermost open page
  pub texts : Bytes → H → TextEnd H
  -- its state behind a piece of that page that ended with this code, or with 0 behind its last piece
  pub leaves : ℕ → H → H
  -- its state once all that runs left with it is taken back
  pub clears : H → H
