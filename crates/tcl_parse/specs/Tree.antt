-- Scripts as trees: a script is a list of commands, a command a list of words, and a word a list of parts.
-- The tree of a script is canonical: no text in it is empty, and no text stands next to another one in a word or an index.
-- So each way to write the same parts has one tree, and `{}` and `""` are words without parts.
use Rattle.std.specs.Prelude.{List, [], ◌∷◌, ◌++◌}
use Rattle.txt_core.specs.Names.{Bytes}

mutual
  -- A part of a word.
  pub data Part : Type 0 where
    -- these bytes
    text : Bytes → Part
    -- the value of the variable of this name
    variable : Bytes → Part
    -- the value of the element of the array of this name, whose index is made of these parts
    element : Bytes → Parts → Part
    -- the result of this script
    bracket : Commands → Part

  -- A word or an index as a part holds it.
  pub data Parts : Type 0 where
    no_parts : Parts
    part : Part → Parts → Parts

  -- A command as a part holds it.
  pub data Words : Type 0 where
    no_words : Words
    word : Parts → Words → Words

  -- A script as a part holds it.
  pub data Commands : Type 0 where
    no_commands : Commands
    command : Words → Commands → Commands

abbrev pub Word : Type 0
Word = List Part

abbrev pub Command : Type 0
Command = List Word

abbrev pub Script : Type 0
Script = List Command

-- The same lists as a part holds them.
abbrev pub parts : Word → Parts
parts [] = no_parts
parts (p ∷ ps) = part p (parts ps)

abbrev pub words : Command → Words
words [] = no_words
words (w ∷ ws) = word (parts w) (words ws)

abbrev pub commands : Script → Commands
commands [] = no_commands
commands (c ∷ cs) = command (words c) (commands cs)

-- These bytes, which are some, in front of a word: they join the text that the word begins with.
abbrev pub lead : Bytes → Word → Word
lead bs [] = text bs ∷ []
lead bs (text cs ∷ w) = text (bs ++ cs) ∷ w
lead bs (variable x ∷ w) = text bs ∷ variable x ∷ w
lead bs (element x i ∷ w) = text bs ∷ element x i ∷ w
lead bs (bracket s ∷ w) = text bs ∷ bracket s ∷ w

-- Bytes in front of a word: no bytes add no part.
abbrev pub literal : Bytes → Word → Word
literal [] w = w
literal (b ∷ bs) w = lead (b ∷ bs) w
