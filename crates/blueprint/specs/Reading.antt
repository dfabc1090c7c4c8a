-- The definitions of a script.
use Rattle.std.specs.Prelude.{◌≡◌, ℕ, ◌+◌, List, [], ◌∷◌, length, Bool, true, false, not, ◌&&◌, ◌||◌, ◌==◌, if◌then◌else◌, bytes_eq, codes, Option, Some, None}
use Rattle.std.specs.List.{list_all}
use Rattle.txt_core.specs.Names.{Bytes, Words}
use Rattle.txt_core.specs.Limits.{is_long}
pub use Rattle.txt_core.specs.Paths.{begins_with_slash}
use Rattle.txt_core.specs.Lists.{Listing, elements, bad_at}
use Rattle.txt_core.specs.Listing.{listing}
use Rattle.tcl_frame.specs.Names.{named, is_element}
use Rattle.tcl_parse.specs.Tree.{text, Word, Command, Script}
use Rattle.tcl_parse.specs.Outcome.{Outcome, done, fault}
use Rattle.tcl_parse.specs.Reading.{reading}
use Rattle.cmd_table.specs.declared.definition.Def.{Def}
use Rattle.cmd_table.specs.declared.definition.Def.TheVariants.{Proc, Rename, Route, Filter, Cleanup, Set}
use Rattle.cmd_table.specs.declared.definition.When.{When}
use Rattle.cmd_table.specs.declared.definition.When.TheVariants.{Preauth, Postauth, Trace}
use Rattle.blueprint.specs.Scripts.{command_words}

-- ---- literal words

-- a word of bytes alone is literal, and so is the empty one
abbrev pub literal_of : Word → Option Bytes
literal_of [] = Some []
literal_of (text bytes ∷ []) = Some bytes
literal_of word = None

abbrev pub put_word : Option Bytes → Option Words → Option Words
put_word (Some word) (Some words) = Some (word ∷ words)
put_word None words = None
put_word (Some word) None = None

-- the words of a command, where all are literal
abbrev pub literals_of : Command → Option Words
literals_of [] = Some []
literals_of (word ∷ words) = put_word (literal_of word) (literals_of words)

-- ---- parameters of procedures

-- the elements of a list; none where the text is no list
abbrev pub words_in : Listing → Option Words
words_in (elements words) = Some words
words_in (bad_at place) = None

abbrev pub list_of : Bytes → Option Words
list_of word = words_in (listing word)

abbrev pub is_parameter_list : Option Words → Bool
is_parameter_list None = false
is_parameter_list (Some words) = (length words == 1) || (length words == 2)

-- a parameter is, as a list, a name, or a name and a default
abbrev pub is_parameter : Bytes → Bool
is_parameter word = is_parameter_list (list_of word)

abbrev pub are_parameters_list : Option Words → Bool
are_parameters_list None = false
are_parameters_list (Some words) = list_all is_parameter words

-- a list of parameters
abbrev pub are_parameters : Bytes → Bool
are_parameters params = are_parameters_list (list_of params)

-- ---- registrations

-- the methods for which a procedure can be registered
abbrev pub is_method : Bytes → Bool
is_method word = bytes_eq word (codes "GET") || bytes_eq word (codes "POST") || bytes_eq word (codes "PUT") || bytes_eq word (codes "DELETE")

-- a filter can be registered for all methods as well
abbrev pub is_filter_method : Bytes → Bool
is_filter_method word = bytes_eq word (codes "*") || is_method word

-- the stage of this name
abbrev pub stage_named : Bytes → Option When
stage_named word =
    if bytes_eq word (codes "preauth") then Some Preauth
    else if bytes_eq word (codes "postauth") then Some Postauth
    else if bytes_eq word (codes "trace") then Some Trace
    else None

-- ---- what a command defines, by the words behind its name

-- `proc name params body`
abbrev pub proc_def : Words → Option Def
proc_def (name ∷ params ∷ body ∷ []) = if are_parameters params then Some (Proc name params body) else None
proc_def words = None

-- `rename old new`
abbrev pub rename_def : Words → Option Def
rename_def (old ∷ new ∷ []) = Some (Rename old new)
rename_def words = None

-- `set name value`, of a name that hasn't the form of an array's element
abbrev pub set_def : Words → Option Def
set_def (name ∷ value ∷ []) = if is_element (named name) then None else Some (Set name value)
set_def words = None

-- `method url proc word*`
abbrev pub route_at : Bool → Words → Option Def
route_at inherit (method ∷ url ∷ first ∷ words) = if is_method method && begins_with_slash url then Some (Route method url inherit (first ∷ words)) else None
route_at inherit words = None

-- `ns_register_proc ?-noinherit? method url proc word*`
abbrev pub route_def : Words → Option Def
route_def [] = None
route_def (word ∷ words) = if bytes_eq word (codes "-noinherit") then route_at false words else route_at true (word ∷ words)

abbrev pub filter_at : Option When → Bytes → Bytes → Words → Option Def
filter_at None method pattern words = None
filter_at (Some when) method pattern words = if is_filter_method method then Some (Filter when method pattern words) else None

-- `ns_register_filter when method glob proc word*`
abbrev pub filter_def : Words → Option Def
filter_def (when ∷ method ∷ pattern ∷ first ∷ words) = filter_at (stage_named when) method pattern (first ∷ words)
filter_def words = None

-- `ns_ictl oncleanup script`
abbrev pub cleanup_def : Words → Option Def
cleanup_def (subcommand ∷ script ∷ []) = if bytes_eq subcommand (codes "oncleanup") then Some (Cleanup script) else None
cleanup_def words = None

abbrev pub by_name : Bytes → Words → Option Def
by_name name words =
    if bytes_eq name (codes "proc") then proc_def words
    else if bytes_eq name (codes "rename") then rename_def words
    else if bytes_eq name (codes "set") then set_def words
    else if bytes_eq name (codes "ns_register_proc") then route_def words
    else if bytes_eq name (codes "ns_register_filter") then filter_def words
    else if bytes_eq name (codes "ns_ictl") then cleanup_def words
    else None

abbrev pub is_short : Bytes → Bool
is_short word = not (is_long word)

-- The definition that these words make, by themselves: none where they are no such command, or one of them is too long for a
-- word.
abbrev pub def_of : Words → Option Def
def_of [] = None
def_of (name ∷ words) = if list_all is_short (name ∷ words) then by_name name words else None

-- a definition that its own command makes
abbrev pub IsMade : Def → Type 0
IsMade def = def_of (command_words def) ≡ Some def

-- ---- a whole script

-- what comes of a script: definitions, or the number of the first command that is none
pub data Scripted : Type 0 where
  definitions : List Def → Scripted
  no_definition : ℕ → Scripted

abbrev pub def_of_literals : Option Words → Option Def
def_of_literals None = None
def_of_literals (Some words) = def_of words

-- the definition that a command is: one whose words are all literal
abbrev pub command_def : Command → Option Def
command_def command = def_of_literals (literals_of command)

abbrev pub put_def : Option Def → ℕ → Scripted → Scripted
put_def None number rest = no_definition number
put_def (Some def) number (definitions defs) = definitions (def ∷ defs)
put_def (Some def) number (no_definition later) = no_definition later

-- commands, the first of which has this number
abbrev pub commands_from : ℕ → Script → Scripted
commands_from number [] = definitions []
commands_from number (command ∷ commands) = put_def (command_def command) number (commands_from (number + 1) commands)

abbrev pub by_reading : Outcome Script → Scripted
by_reading (done script rest) = commands_from 0 script
by_reading (fault kind left) = no_definition 0

-- The definitions of a script, or the number of its first command that is none, from 0; a text that is no script names 0.
abbrev pub scripted : Bytes → Scripted
scripted script = by_reading (reading script)
