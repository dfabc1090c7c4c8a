-- The steps of the program are those of the rules, and what the program answers.
use Rattle.std.specs.Prelude.{◌≡◌, ℕ, ◌+◌, ◌<◌, [], ◌∷◌, length, Option, Result, Ok, Err}
use Rattle.txt_core.specs.Names.{Bytes}
use Rattle.txt_core.specs.Forms.{form_of}
use Rattle.tcl_parse.specs.declared.step.Mode as code_mode
use Rattle.tcl_parse.specs.declared.step.Mode.TheVariants as code_modes
use Rattle.tcl_parse.specs.declared.step.Step as code_step
use Rattle.tcl_parse.specs.declared.step.Step.TheVariants as code_steps
use Rattle.tcl_parse.specs.declared.step.Substitution as code_substitution
use Rattle.tcl_parse.specs.declared.step.Substitution.TheVariants as code_substitutions
use Rattle.tcl_parse.specs.declared.tree.Script as script_type
use Rattle.tcl_parse.specs.declared.fault.ParseFault.{ParseFault}
use Rattle.tcl_parse.specs.declared.fault.ParseFault.TheVariants as parse_fault
use Rattle.tcl_parse.specs.View.{script_of}
use Rattle.tcl_parse.specs.Steps.{Mode, bare_word, quotes, index, Substitution, named, indexed, opened, unnamed, Step, ends, bytes, substituted}
use Rattle.tcl_parse.specs.Grammar.{InBracket, InIndex, PartsAt, close_bracket, close_index, close_brace, close_quote}
use Rattle.tcl_parse.specs.Braces.{BracedAt}
use Rattle.tcl_parse.specs.Outcome.{Outcome, done, fault}
use Rattle.tcl_parse.specs.Reading.{reading}
use Rattle.tcl_parse.specs.Tree.{Part, Word, Script}

-- What parse answers: the script of the text's reading, or the reading's fault and its place, unless memory ran out.
abbrev pub Answers : Bytes → Result script_type.Script ParseFault → Type 0
Answers t (Ok s) = reading t ≡ done (script_of s) []
Answers t (Err (parse_fault.Unclosed at kind)) = (left : ℕ) × (at + left ≡ length t) × (reading t ≡ fault kind left)
Answers t (Err parse_fault.NoMemory) = Unit {0}

abbrev pub mode_of : code_mode.Mode → Mode
mode_of (code_modes.Bare nested) = bare_word nested
mode_of code_modes.Quotes = quotes
mode_of code_modes.Index = index

abbrev pub substitution_of : code_substitution.Substitution → Substitution
substitution_of (code_substitutions.Named x t) = named x.now t.now
substitution_of (code_substitutions.Indexed x t) = indexed x.now t.now
substitution_of (code_substitutions.Opened t) = opened t.now
substitution_of code_substitutions.Unnamed = unnamed

abbrev pub step_of : code_step.Step → Step
step_of code_steps.Ends = ends
step_of (code_steps.Byte b t) = bytes (b ∷ []) t.now
step_of (code_steps.Escaped f t) = bytes (form_of f) t.now
step_of (code_steps.Substituted s) = substituted (substitution_of s)

-- What is left behind it, or from its index or script on, has less than n bytes.
abbrev pub LeavesLess : ℕ → code_substitution.Substitution → Type 0
LeavesLess n (code_substitutions.Named x t) = length t.now < n
LeavesLess n (code_substitutions.Indexed x t) = length t.now < n
LeavesLess n (code_substitutions.Opened t) = length t.now < n
LeavesLess n code_substitutions.Unnamed = Unit {0}

abbrev pub IsShorter : ℕ → code_step.Step → Type 0
IsShorter n code_steps.Ends = Unit {0}
IsShorter n (code_steps.Byte b t) = length t.now < n
IsShorter n (code_steps.Escaped f t) = length t.now < n
IsShorter n (code_steps.Substituted s) = LeavesLess n s

-- A bracket as a part, from behind its opening byte on.
abbrev pub BracketGives : ℕ → Bytes → Outcome Part → Type 0
BracketGives room t o = (s : Outcome Script) × InBracket room t s × (o ≡ close_bracket (length t + 1) s)

-- An element as a part, from its index on, where left bytes are left from its dollar on.
abbrev pub IndexGives : ℕ → ℕ → Bytes → Bytes → Outcome Part → Type 0
IndexGives room left x t o = (i : Outcome Word) × InIndex room t i × (o ≡ close_index left x i)

-- A word in quotes, from behind its opening byte on.
abbrev pub QuoteGives : ℕ → Bytes → Outcome Word → Type 0
QuoteGives room t o = (w : Outcome Word) × PartsAt (InBracket room) (InIndex room) quotes t w × (o ≡ close_quote (length t + 1) w)

-- A word in braces, from behind its opening byte on.
abbrev pub BraceGives : Bytes → Outcome Word → Type 0
BraceGives t o = (x : Option (Bytes × Bytes)) × BracedAt t x × (o ≡ close_brace (length t + 1) x)
