-- Commands, words and pieces of a script by their places.
use Rattle.std.proofs.Common.{◌≡◌, ℕ, zero, suc, ◌+◌, ◌<◌, ◌≤◌, List, [], ◌∷◌, ◌++◌, map, length, Option, Some, None, Bool, true, false, refl, sym, ap, ◌∙◌, arith, add-one, nat_lt, subst}
use Rattle.std.specs.Prelude.{slice_get, unwrap_or, set, drop, bytes_eq}
use Rattle.std.proofs.lemmas.Slice.Eq.{bytes_eq-Decides}
use Rattle.std.proofs.lemmas.Bool.{ltb-true, ltb-false}
use Rattle.tcl_parse.specs.Tree.{Part, element, Parts, no_parts, part, Words, no_words, word, no_commands, command, parts, words, commands}
use Rattle.tcl_expr.specs.View.{only_word}
use Rattle.tcl_parse.specs.View.{part_step, command_step, script_step, word_step, part_of, word_of, command_of, script_of}
use Rattle.tcl_parse.specs.Tree as tree
use Rattle.tcl_parse.specs.declared.tree.Script as code_script
use Rattle.tcl_parse.specs.declared.tree.Piece.TheViews.{out-Command, out-Script, out-Word}
use Rattle.tcl_parse.specs.declared.tree.Piece.TheFolds.{fold_out-Word, fold_out-Command, fold_out-Script}
use Rattle.tcl_parse.specs.declared.tree.Piece.{Piece}
use Rattle.tcl_parse.specs.declared.tree.Command as code_command
use Rattle.tcl_parse.specs.declared.tree.Word as code_word
use Rattle.tcl_eval.specs.SeenPieces.{SeenAs, SeenAt}
use Rattle.tcl_eval.specs.declared.place.Seen.{Seen}
use Rattle.tcl_eval.specs.declared.place.Seen.TheVariants.{Bytes, Variable, Element, Bracket}
use Rattle.tcl_eval.specs.Places.{tree_of, commands_from, command_at, words_from, first_word, parts_from, index_of, inside, walk, HasCommand, HasWord}

-- ---- one level opened

word_is : (w : code_word.Word) → word_of w ≡ map part_of (out-Word w).pieces.items
word_is w = fold_out-Word Part tree.Command tree.Script tree.Word part_step command_step script_step word_step w

command_is : (c : code_command.Command) → command_of c ≡ map word_of (out-Command c).words.items
command_is c = fold_out-Command Part tree.Command tree.Script tree.Word part_step command_step script_step word_step c

script_is : (s : code_script.Script) → script_of s ≡ map command_of (out-Script s).commands.items
script_is s = fold_out-Script Part tree.Command tree.Script tree.Word part_step command_step script_step word_step s

command_there : (cs : List code_command.Command) (at : ℕ) → at < length cs → commands_from at (commands (map command_of cs)) ≡ command (command_at at (commands (map command_of cs))) (commands_from (suc at) (commands (map command_of cs)))
command_there [] at h = absurd (omega arith)
command_there (c ∷ cs) zero h = refl
command_there (c ∷ cs) (suc at) h = command_there cs at (omega arith)

command_past : (cs : List code_command.Command) (at : ℕ) → length cs ≤ at → commands_from at (commands (map command_of cs)) ≡ no_commands
command_past [] zero h = refl
command_past [] (suc at) h = refl
command_past (c ∷ cs) zero h = absurd (omega arith)
command_past (c ∷ cs) (suc at) h = command_past cs at (omega arith)

word_there : (ws : List code_word.Word) (at : ℕ) → at < length ws → words_from at (words (map word_of ws)) ≡ word (first_word (words_from at (words (map word_of ws)))) (words_from (suc at) (words (map word_of ws)))
word_there [] at h = absurd (omega arith)
word_there (w ∷ ws) zero h = refl
word_there (w ∷ ws) (suc at) h = word_there ws at (omega arith)

word_past : (ws : List code_word.Word) (at : ℕ) → length ws ≤ at → words_from at (words (map word_of ws)) ≡ no_words
word_past [] zero h = refl
word_past [] (suc at) h = refl
word_past (w ∷ ws) zero h = absurd (omega arith)
word_past (w ∷ ws) (suc at) h = word_past ws at (omega arith)

has_command_here : (cs : List code_command.Command) (at : ℕ) (b : Bool) → nat_lt at (length cs) ≡ b → HasCommand b at (commands (map command_of cs))
has_command_here cs at true e =
    command_there cs at (ltb-true at (length cs) e) ∙ ap (λ (n : ℕ). command (command_at at (commands (map command_of cs))) (commands_from n (commands (map command_of cs)))) (sym (add-one at))
has_command_here cs at false e = command_past cs at (ltb-false at (length cs) e)

pub has_command_by : (s : code_script.Script) (at : ℕ) (b : Bool) → nat_lt at (length (out-Script s).commands.items) ≡ b → HasCommand b at (tree_of s)
has_command_by s at b e =
    subst (λ (cs : tree.Script). HasCommand b at (commands cs)) (sym (script_is s)) (has_command_here (out-Script s).commands.items at b e)

pub has_word_by : (ws : List code_word.Word) (at : ℕ) (b : Bool) → nat_lt at (length ws) ≡ b → HasWord b at (words (map word_of ws))
has_word_by ws at true e =
    word_there ws at (ltb-true at (length ws) e) ∙ ap (λ (n : ℕ). word (first_word (words_from at (words (map word_of ws)))) (words_from n (words (map word_of ws)))) (sym (add-one at))
has_word_by ws at false e = word_past ws at (ltb-false at (length ws) e)

no_command_here : (cs : List code_command.Command) (at : ℕ) → None ≡ slice_get cs at → no_words ≡ command_at at (commands (map command_of cs))
no_command_here [] zero e = refl
no_command_here [] (suc at) e = refl
no_command_here (c ∷ cs) zero e = absurd (cc)
no_command_here (c ∷ cs) (suc at) e = no_command_here cs at e

some_command_here : (cs : List code_command.Command) (at : ℕ) (x : code_command.Command) → Some x ≡ slice_get cs at → words (command_of x) ≡ command_at at (commands (map command_of cs))
some_command_here [] zero x e = absurd (cc)
some_command_here [] (suc at) x e = absurd (cc)
some_command_here (c ∷ cs) zero x e = ap (λ (o : Option code_command.Command). elim o as (λ _. Words) [ None ↦ no_words | Some y ↦ words (command_of y) ]) e
some_command_here (c ∷ cs) (suc at) x e = some_command_here cs at x e

-- the command at a place, by what is found there
pub no_command : (s : code_script.Script) (at : ℕ) → None ≡ slice_get (out-Script s).commands.items at → no_words ≡ command_at at (tree_of s)
no_command s at e =
    no_command_here (out-Script s).commands.items at e ∙ sym (ap (λ (cs : tree.Script). command_at at (commands cs)) (script_is s))

pub some_command : (s : code_script.Script) (at : ℕ) (x : code_command.Command) → Some x ≡ slice_get (out-Script s).commands.items at → words (map word_of (out-Command x).words.items) ≡ command_at at (tree_of s)
some_command s at x e =
    sym (ap words (command_is x)) ∙ some_command_here (out-Script s).commands.items at x e ∙ sym (ap (λ (cs : tree.Script). command_at at (commands cs)) (script_is s))

pub no_word_there : (ws : List code_word.Word) (at : ℕ) → None ≡ slice_get ws at → no_parts ≡ first_word (words_from at (words (map word_of ws)))
no_word_there [] zero e = refl
no_word_there [] (suc at) e = refl
no_word_there (w ∷ ws) zero e = absurd (cc)
no_word_there (w ∷ ws) (suc at) e = no_word_there ws at e

some_word_here : (ws : List code_word.Word) (at : ℕ) (x : code_word.Word) → Some x ≡ slice_get ws at → parts (word_of x) ≡ first_word (words_from at (words (map word_of ws)))
some_word_here [] zero x e = absurd (cc)
some_word_here [] (suc at) x e = absurd (cc)
some_word_here (w ∷ ws) zero x e = ap (λ (o : Option code_word.Word). elim o as (λ _. Parts) [ None ↦ no_parts | Some y ↦ parts (word_of y) ]) e
some_word_here (w ∷ ws) (suc at) x e = some_word_here ws at x e

pub some_word : (ws : List code_word.Word) (at : ℕ) (x : code_word.Word) → Some x ≡ slice_get ws at → parts (map part_of (out-Word x).pieces.items) ≡ first_word (words_from at (words (map word_of ws)))
some_word ws at x e = sym (ap parts (word_is x)) ∙ some_word_here ws at x e

-- the word at a place of a command, by what is found there
pub no_word_left : (ws : List code_word.Word) (at : ℕ) → None ≡ slice_get ws at → words_from at (words (map word_of ws)) ≡ no_words
no_word_left [] zero e = refl
no_word_left [] (suc at) e = refl
no_word_left (w ∷ ws) zero e = absurd (cc)
no_word_left (w ∷ ws) (suc at) e = no_word_left ws at e

word_left_here : (ws : List code_word.Word) (at : ℕ) (x : code_word.Word) → Some x ≡ slice_get ws at → words_from at (words (map word_of ws)) ≡ word (parts (word_of x)) (words_from (suc at) (words (map word_of ws)))
word_left_here [] zero x e = absurd (cc)
word_left_here [] (suc at) x e = absurd (cc)
word_left_here (w ∷ ws) zero x e = ap (λ (o : Option code_word.Word). elim o as (λ _. Words) [ None ↦ no_words | Some y ↦ word (parts (word_of y)) (words (map word_of ws)) ]) (sym e)
word_left_here (w ∷ ws) (suc at) x e = word_left_here ws at x e

pub word_left : (ws : List code_word.Word) (at : ℕ) (x : code_word.Word) → Some x ≡ slice_get ws at → words_from at (words (map word_of ws)) ≡ word (parts (map part_of (out-Word x).pieces.items)) (words_from (at + 1) (words (map word_of ws)))
word_left ws at x e =
    word_left_here ws at x e
    ∙ ap (λ (w : tree.Word). word (parts w) (words_from (suc at) (words (map word_of ws)))) (word_is x)
    ∙ ap (λ (n : ℕ). word (parts (map part_of (out-Word x).pieces.items)) (words_from n (words (map word_of ws)))) (sym (add-one at))

pub no_piece : (ps : List Piece) (at : ℕ) → None ≡ slice_get ps at → parts_from at (parts (map part_of ps)) ≡ no_parts
no_piece [] zero e = refl
no_piece [] (suc at) e = refl
no_piece (p ∷ ps) zero e = absurd (cc)
no_piece (p ∷ ps) (suc at) e = no_piece ps at e

piece_past : (ps : List Piece) (at : ℕ) → length ps ≤ at → parts_from at (parts (map part_of ps)) ≡ no_parts
piece_past [] zero h = refl
piece_past [] (suc at) h = refl
piece_past (p ∷ ps) zero h = absurd (omega arith)
piece_past (p ∷ ps) (suc at) h = piece_past ps at (omega arith)

some_piece_here : (ps : List Piece) (at : ℕ) (x : Piece) → Some x ≡ slice_get ps at → parts_from at (parts (map part_of ps)) ≡ part (part_of x) (parts_from (suc at) (parts (map part_of ps)))
some_piece_here [] zero x e = absurd (cc)
some_piece_here [] (suc at) x e = absurd (cc)
some_piece_here (p ∷ ps) zero x e = ap (λ (o : Option Piece). elim o as (λ _. Parts) [ None ↦ no_parts | Some y ↦ part (part_of y) (parts (map part_of ps)) ]) (sym e)
some_piece_here (p ∷ ps) (suc at) x e = some_piece_here ps at x e

pub some_piece : (ps : List Piece) (at : ℕ) (x : Piece) → Some x ≡ slice_get ps at → parts_from at (parts (map part_of ps)) ≡ part (part_of x) (parts_from (at + 1) (parts (map part_of ps)))
some_piece ps at x e =
    some_piece_here ps at x e ∙ ap (λ (n : ℕ). part (part_of x) (parts_from n (parts (map part_of ps)))) (sym (add-one at))

-- the index of the piece at a place
pub no_index : (ps : List Piece) (at : ℕ) → None ≡ slice_get ps at → no_parts ≡ inside (parts_from at (parts (map part_of ps)))
no_index ps at e = sym (ap inside (no_piece ps at e))

pub some_index : (ps : List Piece) (at : ℕ) (x : Piece) → Some x ≡ slice_get ps at → index_of (part_of x) ≡ inside (parts_from at (parts (map part_of ps)))
some_index ps at x e = sym (ap inside (some_piece ps at x e))

-- a piece that is seen at the front of parts
pub seen_at : (seen : Seen) (p : Part) (ps rest : Parts) → SeenAs seen p → ps ≡ part p rest → SeenAt seen ps rest
seen_at (Bytes b) p ps rest h e = e ∙ ap (λ (x : Part). part x rest) h
seen_at (Variable x) p ps rest h e = e ∙ ap (λ (x : Part). part x rest) h
seen_at (Element x) p ps rest h e =
    e ∙ ap (λ (y : Part). part y rest) h ∙ sym (ap (λ (y : Parts). part (element x.now (inside y)) rest) e)
seen_at (Bracket s) p ps rest h e = e ∙ ap (λ (x : Part). part x rest) h

-- a path with one index more
pub walk_on : (path : List ℕ) (at : ℕ) (ps : Parts) → walk (path ++ at ∷ []) ps ≡ inside (parts_from at (walk path ps))
walk_on [] at ps = refl
walk_on (i ∷ path) at ps = walk_on path at (inside (parts_from i ps))

-- the parts of a word from a place on, by the pieces there: whole is the word, found what a path leads to
pub past_place : (found : List Piece) (at : ℕ) (path : List ℕ) (whole : Parts) → parts (map part_of found) ≡ walk path whole → length found ≤ at → parts_from at (walk path whole) ≡ no_parts
past_place found at path whole is h = sym (ap (parts_from at) is) ∙ piece_past found at h

pub none_at_place : (found : List Piece) (at : ℕ) (path : List ℕ) (whole : Parts) → parts (map part_of found) ≡ walk path whole → None ≡ slice_get found at → parts_from at (walk path whole) ≡ no_parts
none_at_place found at path whole is e = sym (ap (parts_from at) is) ∙ no_piece found at e

pub some_at_place : (found : List Piece) (at : ℕ) (path : List ℕ) (whole : Parts) (x : Piece) (seen : Seen) → parts (map part_of found) ≡ walk path whole → Some x ≡ slice_get found at → SeenAs seen (part_of x) → SeenAt seen (parts_from at (walk path whole)) (parts_from (at + 1) (walk path whole))
some_at_place found at path whole x seen is e look =
    seen_at seen (part_of x) (parts_from at (walk path whole)) (parts_from (at + 1) (walk path whole)) look
    (sym (ap (parts_from at) is) ∙ some_piece found at x e ∙ ap (λ (ps : Parts). part (part_of x) (parts_from (at + 1) ps)) is)

-- the first word is another one
pub first_set : (ws : List (List ℕ)) (name : List ℕ) → 0 < length ws → set ws 0 name ≡ name ∷ drop 1 ws
first_set [] name h = absurd (omega (arith, h))
first_set (w ∷ ws) name h = refl

pub first_put : (ws : List (List ℕ)) (name : List ℕ) → length ws ≡ 0 → ws ++ name ∷ [] ≡ name ∷ drop 1 ws
first_put [] name e = refl
first_put (w ∷ ws) name e = absurd (omega (arith, e))

-- a text that is the first word stands in front of the others
pub first_is : (ws : List (List ℕ)) (first name : List ℕ) → Some first ≡ slice_get ws 0 → bytes_eq first name ≡ true → ws ≡ name ∷ drop 1 ws
first_is [] first name there same = absurd (cc)
first_is (w ∷ ws) first name there same =
    ap (λ (o : Option (List ℕ)). unwrap_or o name ∷ ws) (sym there) ∙ ap (λ (n : List ℕ). n ∷ ws) ((bytes_eq-Decides first name).0 same)

-- ---- a script that is one word

pub only_parts : (s : tree.Script) → first_word (words_from 0 (command_at 0 (commands s))) ≡ parts (only_word s)
only_parts [] = refl
only_parts ([] ∷ cs) = refl
only_parts ((w ∷ ws) ∷ cs) = refl
