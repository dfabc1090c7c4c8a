-- The words of a registration.
use Rattle.std.proofs.Common.{◌≡◌, ◌≤◌, ◌<◌, ◌+◌, ℕ, List, [], ◌∷◌, ◌++◌, length, take, drop, map, append_assoc, get_or, Option, Some, None, refl, sym, ap, ◌∙◌, arith}
use Rattle.std.specs.List.{slice_get}
use Rattle.std.proofs.lemmas.List.{take_more, drop_more}
use Rattle.std.proofs.lemmas.Option.{slice_get_within, get_or_from_slice_get, slice_get-get_or}
use Rattle.cmd_table.specs.declared.definition.Def.{Def}
use Rattle.cmd_table.specs.declared.definition.When.{When}
use Rattle.tcl_parse.specs.declared.tree.Command as code_command
use Rattle.tcl_parse.specs.declared.tree.Piece.TheViews.{out-Command}
use Rattle.tcl_parse.specs.declared.tree.Piece.TheFolds.{fold_out-Command}
use Rattle.tcl_parse.specs.Tree as tree
use Rattle.tcl_parse.specs.Tree.{Part}
use Rattle.tcl_parse.specs.View.{part_step, command_step, script_step, word_step, word_of, command_of}
use Rattle.blueprint.specs.Reading.{stage_named, filter_at, filter_def, Scripted, definitions, no_definition, command_def, put_def, commands_from}
use Rattle.blueprint.specs.Kept.{put_defs}

-- a filter, by its first three words and the others
pub filter_words : (words : List (List ℕ)) (a b d : List ℕ) (when : When) → 4 ≤ length words → a ≡ get_or words 0 a → b ≡ get_or words 1 b → d ≡ get_or words 2 d → stage_named a ≡ Some when
    → filter_at (Some when) b d (drop 3 words) ≡ filter_def words
filter_words [] a b d when h first second third stage = absurd (omega arith)
filter_words (u ∷ []) a b d when h first second third stage = absurd (omega arith)
filter_words (u ∷ v ∷ []) a b d when h first second third stage = absurd (omega arith)
filter_words (u ∷ v ∷ w ∷ []) a b d when h first second third stage = absurd (omega arith)
filter_words (u ∷ v ∷ w ∷ x ∷ words) a b d when h first second third stage =
    ap (λ (y : List ℕ). filter_at (Some when) y d (x ∷ words)) second
    ∙ ap (λ (y : List ℕ). filter_at (Some when) v y (x ∷ words)) third
    ∙ ap (λ (s : Option When). filter_at s v w (x ∷ words)) (sym stage ∙ ap stage_named first)

-- definitions in front of one more
put_more : (front : List Def) (def : Def) (number : ℕ) (rest : Scripted) → put_defs front (put_def (Some def) number rest) ≡ put_defs (front ++ def ∷ []) rest
put_more front def number (definitions defs) = ap definitions (sym (append_assoc front (def ∷ []) defs))
put_more front def number (no_definition later) = refl

-- one level of a command opened
pub command_is : (c : code_command.Command) → command_of c ≡ map word_of (out-Command c).words.items
command_is c = fold_out-Command Part tree.Command tree.Script tree.Word part_step command_step script_step word_step c

-- one command more
pub defs_more : (commands : List code_command.Command) (i : ℕ) (command : code_command.Command) (front : List Def) (def : Def) → i < length commands → command ≡ get_or commands i command → command_def (command_of command) ≡ Some def
    → put_defs (front ++ def ∷ []) (commands_from (i + 1) (map command_of (drop (i + 1) commands))) ≡ put_defs front (commands_from i (map command_of (drop i commands)))
defs_more commands i command front def lt at found =
    let rest = commands_from (i + 1) (map command_of (drop (i + 1) commands)) in
    let here : drop i commands ≡ command ∷ drop (i + 1) commands = drop_more commands i command lt ∙ ap (λ (x : code_command.Command). x ∷ drop (i + 1) commands) (sym at) in
    sym (ap (λ (cs : List code_command.Command). put_defs front (commands_from i (map command_of cs))) here
    ∙ ap (λ (o : Option Def). put_defs front (put_def o i rest)) found
    ∙ put_more front def i rest)

-- one name more
pub name_more : (names : List (List ℕ)) (i : ℕ) (name : List ℕ) → Some name ≡ slice_get names i → take (i + 1) names ≡ take i names ++ name ∷ []
name_more names i name at =
    let is : slice_get names i ≡ Some name = sym at in
    take_more names i name (slice_get_within names i name is) ∙ ap (λ (n : List ℕ). take i names ++ n ∷ []) (get_or_from_slice_get names i name name is)

-- at a place before the end there is a name
pub name_there : (names : List (List ℕ)) (i : ℕ) → i < length names → None ≡ slice_get names i → ⊥
name_there names i lt none = let is = slice_get-get_or names i [] lt in absurd (cc)
