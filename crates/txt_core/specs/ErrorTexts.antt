-- The texts of errors that several parts of the server give.
use Rattle.std.specs.Prelude.{ℕ, ◌++◌, codes, decimal}
use Rattle.txt_core.specs.Names.{Bytes}

-- a text that names something between two parts
abbrev pub naming : Bytes → Bytes → Bytes → Bytes
naming front name back = front ++ name ++ back

-- ---- words

-- too few or too many words
abbrev pub wrong_words : Bytes → Bytes
wrong_words command = naming (codes "wrong number of words for \"") command (codes "\"")

-- a second word that is none of the command's subcommands
abbrev pub unknown_subcommand : Bytes → Bytes → Bytes
unknown_subcommand word command = naming (codes "unknown subcommand \"") word (codes "\" of \"" ++ command ++ codes "\"")

-- a word that the command can't take
abbrev pub bad_value : Bytes → Bytes → Bytes
bad_value word command = naming (codes "bad value \"") word (codes "\" for \"" ++ command ++ codes "\"")

-- a first word that names no command
abbrev pub unknown_command : Bytes → Bytes
unknown_command name = naming (codes "invalid command name \"") name (codes "\"")

-- ---- values

-- a text that is no number
abbrev pub no_integer : Bytes → Bytes
no_integer text = naming (codes "expected integer but got \"") text (codes "\"")

-- a text that is no list, by the place where it is bad
abbrev pub no_list : ℕ → Bytes
no_list place = codes "bad list at " ++ decimal place

-- a value over the limit
abbrev pub too_long : Bytes
too_long = codes "value too long"

-- a sum that isn't a number of 64 bits with a sign
abbrev pub overflow : Bytes
overflow = codes "integer overflow"

-- ---- variables

-- a variable that isn't there
abbrev pub no_variable : Bytes → Bytes
no_variable name = naming (codes "can't read \"") name (codes "\": no such variable")

-- a scalar was wanted, and the variable is an array
abbrev pub is_an_array : Bytes → Bytes
is_an_array name = naming (codes "variable \"") name (codes "\" is an array")

-- an array was wanted, and the variable is none
abbrev pub is_no_array : Bytes → Bytes
is_no_array name = naming (codes "variable \"") name (codes "\" is no array")

-- a name to be linked that is that of a variable already
abbrev pub variable_exists : Bytes → Bytes
variable_exists name = naming (codes "variable \"") name (codes "\" exists")

-- ---- commands of the server

-- `break` or `continue` where no loop is
abbrev pub outside_loop : Bytes → Bytes
outside_loop name = naming (codes "invoked \"") name (codes "\" outside of a loop")

-- a command that needs a connection, in a run without one
abbrev pub no_connection : Bytes
no_connection = codes "no connection"

-- a command that belongs in a page, where no page is open
abbrev pub not_in_page : Bytes
not_in_page = codes "not in a page"

-- a command that makes a definition of the blueprint, in another run
abbrev pub only_in_definition_run : Bytes
only_in_definition_run = codes "only in a definition run"

-- a second response
abbrev pub response_given : Bytes
response_given = codes "response already given"

-- a page that isn't there
abbrev pub no_page : Bytes → Bytes
no_page path = naming (codes "no page \"") path (codes "\"")

-- a page that can't be read
abbrev pub page_fault : Bytes → Bytes
page_fault path = naming (codes "can't read page \"") path (codes "\"")

-- a page over the limit of a value
abbrev pub page_too_long : Bytes → Bytes
page_too_long path = naming (codes "page \"") path (codes "\" is too long")

-- an id under which nothing is scheduled
abbrev pub no_schedule : Bytes → Bytes
no_schedule id = naming (codes "no schedule \"") id (codes "\"")

-- ---- publications

-- a definition that doesn't apply, by its place in the list
abbrev pub does_not_apply : ℕ → Bytes
does_not_apply place = naming (codes "definition ") (decimal place) (codes " does not apply")

-- a command of a blueprint's script that is no definition, by its place
abbrev pub no_definition : ℕ → Bytes
no_definition place = naming (codes "command ") (decimal place) (codes " is no definition")

-- definitions over the limits of a blueprint
abbrev pub blueprint_full : Bytes
blueprint_full = codes "blueprint full"
