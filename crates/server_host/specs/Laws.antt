-- Which of the built-in names have a command of the host, and that it asks the shared arrays questions alone.
use Rattle.std.specs.Prelude.{◌≡◌, ◌≤◌, ◌<◌, ℕ, length, Bool, true, false, ◌||◌, is_some, bytes_eq}
use Rattle.std.specs.List.{list_any}
use Rattle.txt_core.specs.Names.{Bytes, Words, Names}
use Rattle.txt_core.specs.Limits.{bucket_count}
use Rattle.cmd_table.specs.Commands.{language_names, server_names, built_ins}
use Rattle.tcl_host.specs.Leaf.{not_mine}
use Rattle.natives.specs.Words.{arg}
use Rattle.conn_host.specs.Leaf as conn
use Rattle.adp_host.specs.Leaf as pages
use Rattle.server_host.specs.Hosts.{HostState}
use Rattle.server_host.specs.Leaf.{verb_of, host_call}
use Rattle.server_host.specs.Sharing.{is_question, names_question}

-- one of the three tables has a command of this name
abbrev pub has_doer : Bytes → Bool
has_doer name = is_some (verb_of name) || (is_some (conn.verb_of name) || is_some (pages.verb_of name))

-- a name is among these
abbrev pub is_one_of : Names → Bytes → Bool
is_one_of names name = list_any (bytes_eq name) names

-- a name is one of those that stand for the commands of the server in a new table of commands
abbrev pub is_server_name : Bytes → Bool
is_server_name name = is_one_of server_names name

-- each of these names has a command of the host, and no other name has
abbrev pub NamesHaveDoers : Type 0
NamesHaveDoers = (name : Bytes) → has_doer name ≡ is_server_name name

-- a built-in name that is no native's is one of the language, or it has a command of the host
abbrev pub BuiltInsHaveDoers : Type 0
BuiltInsHaveDoers = (name : Bytes) → is_one_of built_ins name ≡ (is_one_of language_names name || has_doer name)

-- words that begin with another name are none of the host's, and nothing changes
abbrev pub NoOtherIsDone : Type 0
NoOtherIsDone = (words : Words) (host : HostState) → is_server_name (arg words 0) ≡ false → host_call words host ≡ not_mine host

-- what `nsv_names` asks of a bucket is a question on shared arrays
abbrev pub NamesAreQuestions : Type 0
NamesAreQuestions = (words : Words) (bucket : ℕ) → length words ≤ 2 → bucket < bucket_count → is_question (names_question words bucket).words ≡ true
