-- Places in a script.
use Rattle.std.specs.Prelude.{◌≡◌, ℕ, zero, suc, ◌+◌, List, [], ◌∷◌, Bool, true, false}
use Rattle.tcl_parse.specs.Tree.{Part, text, variable, element, bracket, Parts, no_parts, part, Words, no_words, word, Commands, no_commands, command, commands, parts}
use Rattle.tcl_parse.specs.View.{script_of}
use Rattle.tcl_parse.specs.declared.tree.Script.{Script}
use Rattle.tcl_expr.specs.Trees as trees
use Rattle.tcl_expr.specs.Trees.{Tree}
use Rattle.tcl_eval.specs.declared.place.Place.{Place}

-- a script of the program as a part holds it
abbrev pub tree_of : Script → Commands
tree_of script = commands (script_of script)

-- the commands from a place on
abbrev pub commands_from : ℕ → Commands → Commands
commands_from zero cs = cs
commands_from (suc at) no_commands = no_commands
commands_from (suc at) (command c cs) = commands_from at cs

abbrev pub first_command : Commands → Words
first_command no_commands = no_words
first_command (command c cs) = c

-- the words of the command at a place, none where there is no command
abbrev pub command_at : ℕ → Commands → Words
command_at at cs = first_command (commands_from at cs)

abbrev pub words_from : ℕ → Words → Words
words_from zero ws = ws
words_from (suc at) no_words = no_words
words_from (suc at) (word w ws) = words_from at ws

abbrev pub first_word : Words → Parts
first_word no_words = no_parts
first_word (word w ws) = w

abbrev pub parts_from : ℕ → Parts → Parts
parts_from zero ps = ps
parts_from (suc at) no_parts = no_parts
parts_from (suc at) (part p ps) = parts_from at ps

-- the parts of a word of a script
abbrev pub word_parts : ℕ → ℕ → Commands → Parts
word_parts at place cs = first_word (words_from place (command_at at cs))

abbrev pub index_of : Part → Parts
index_of (text bytes) = no_parts
index_of (variable name) = no_parts
index_of (element array index) = index
index_of (bracket script) = no_parts

-- the index of the first part, where that is an element of an array
abbrev pub inside : Parts → Parts
inside no_parts = no_parts
inside (part p ps) = index_of p

-- the parts to which the indexes of these parts, one in the other, lead
abbrev pub walk : List ℕ → Parts → Parts
walk [] ps = ps
walk (at ∷ path) ps = walk path (inside (parts_from at ps))

-- the parts that are still to be gone over from a place on
abbrev pub place_parts : Place → Parts
place_parts p = parts_from p.next (walk p.path.items (word_parts p.command p.word (tree_of p.script.value)))

-- the place behind the part at a place
abbrev pub behind : Place → Place
behind p = record p { next = p.next + 1 }

-- there is a command at this place, or none
abbrev pub HasCommand : Bool → ℕ → Commands → Type 0
HasCommand true at cs = commands_from at cs ≡ command (command_at at cs) (commands_from (at + 1) cs)
HasCommand false at cs = commands_from at cs ≡ no_commands

-- there is a word at this place, or none
abbrev pub HasWord : Bool → ℕ → Words → Type 0
HasWord true at ws = words_from at ws ≡ word (first_word (words_from at ws)) (words_from (at + 1) ws)
HasWord false at ws = words_from at ws ≡ no_words

-- ---- how much there is to go over

abbrev mutual
  pub part_size : Part → ℕ
  part_size (text bytes) = 1
  part_size (variable name) = 1
  part_size (element array index) = parts_size index + 4
  part_size (bracket script) = commands_size script + 3

  pub parts_size : Parts → ℕ
  parts_size no_parts = 0
  parts_size (part p ps) = part_size p + parts_size ps

  pub words_size : Words → ℕ
  words_size no_words = 0
  words_size (word w ws) = parts_size w + 2 + words_size ws

  pub commands_size : Commands → ℕ
  commands_size no_commands = 0
  commands_size (command c cs) = words_size c + 1 + commands_size cs

-- how many steps an expression takes at most, until its next text is run
abbrev pub tree_size : Tree → ℕ
tree_size (trees.value bytes) = 1
tree_size (trees.word w) = parts_size (parts w) + 3
tree_size (trees.unary op x) = tree_size x + 2
tree_size (trees.binary op x y) = tree_size x + tree_size y + 3
tree_size (trees.choice x y z) = tree_size x + tree_size y + tree_size z + 2
