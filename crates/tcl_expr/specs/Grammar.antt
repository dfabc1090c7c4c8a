-- What a text is as an expression, level by level. Each relation is between a text, with how many operators may still come in it, and the outcome of reading it from its front.
use Rattle.std.specs.Prelude.{◌≡◌, ℕ, zero, suc, ◌+◌, ◌-◌, [], ◌∷◌, length, drop, ◌==◌, ◌||◌, if◌then◌else◌, Option, None, Some, ◌⊎◌}
use Rattle.txt_core.specs.Names.{Bytes}
use Rattle.txt_core.specs.Number.{trimmed_front}
use Rattle.tcl_parse.specs.declared.fault.Kind.{Kind}
use Rattle.tcl_parse.specs.declared.fault.Kind.TheVariants.{Quote, Brace, Bracket, Variable, Extra, Deep}
use Rattle.tcl_parse.specs.Bytes.{dollar, left_bracket, left_parenthesis, right_parenthesis, backslash}
use Rattle.tcl_parse.specs.Tree.{Part, Word}
use Rattle.tcl_parse.specs.Outcome as script_outcome
use Rattle.tcl_parse.specs.Grammar.{InBracket, InIndex, EnclosedAt, SubstitutedAt, Opening, by_brace, by_quote, bare, opening}
use Rattle.txt_core.specs.Limits.{most_nested}
use Rattle.txt_core.specs.Texts.{begins_with}
use Rattle.tcl_expr.specs.declared.operator.Op.{Op}
use Rattle.tcl_expr.specs.Trees.{Tree, value, word, binary}
use Rattle.tcl_expr.specs.Outcome.{Outcome, done, bad, signed, chosen, Answer, tree, bad_from}
use Rattle.tcl_expr.specs.Tokens.{level, loosest, next_operator, next_sign, next_question, next_colon, stuck}
use Rattle.tcl_expr.specs.Runs.{is_word, run_at, names_value, value_front}

-- The place of a word's fault, as how many bytes are left from there on: what isn't closed can go on to the end of the text; else the fault's own place.
abbrev pub fault_place : Kind → ℕ → ℕ
fault_place Quote left = 0
fault_place Brace left = 0
fault_place Bracket left = 0
fault_place Variable left = 0
fault_place Extra left = left
fault_place Deep left = left

-- Behind a word in braces or quotes a newline could follow a backslash, and the two would end the word.
-- So where a fault stands at a backslash, the byte behind it is the first one with which nothing can go on.
abbrev pub behind_backslash : Bytes → ℕ → ℕ
behind_backslash t left = if begins_with backslash (drop (length t - left) t) then left - 1 else left

-- the bad place of a fault that reading a word of this text gives
abbrev pub bad_place : Bytes → Kind → ℕ → ℕ
bad_place t k left = behind_backslash t (fault_place k left)

-- a word in quotes or braces as an operand, from the text and what reading it gives
abbrev pub word_operand : ℕ → Bytes → script_outcome.Outcome Word → Outcome
word_operand n t (script_outcome.done w r) = done (word w) n (trimmed_front r)
word_operand n t (script_outcome.fault k left) = bad (bad_place t k left)

-- a variable, an element or a bracket as an operand
abbrev pub part_operand : ℕ → Bytes → script_outcome.Outcome Part → Outcome
part_operand n t (script_outcome.done p r) = done (word (p ∷ [])) n (trimmed_front r)
part_operand n t (script_outcome.fault k left) = bad (bad_place t k left)

-- A run of digits and letters as an operand: it must be a number or a word of truth. Else it is bad at the first byte with which none of them goes on.
abbrev pub run_operand : ℕ → Bytes → Outcome
run_operand n t = if names_value (run_at t).0 then done (value (run_at t).0) n (trimmed_front (run_at t).1) else bad (length t - value_front (run_at t).0)

-- An expression in parentheses, from what reading it gives: the closing one must follow.
abbrev pub closed : Outcome → Outcome
closed (bad b) = bad b
closed (done x n []) = bad 0
closed (done x n (b ∷ t)) = if b == right_parenthesis then done x n (trimmed_front t) else bad (stuck n (b ∷ t))

-- How an operand begins: as a word in quotes or braces, with what is substituted, as a run, with a parenthesis, or it begins with none of these.
pub data Start : Type 0 where
  enclosed : Start
  substituted : Start
  run : Start
  parenthesis : Start
  nothing : Start

abbrev pub bare_start : Bytes → Start
bare_start [] = nothing
bare_start (b ∷ t) =
    if (b == dollar) || (b == left_bracket) then substituted
    else if b == left_parenthesis then parenthesis
    else if is_word b then run
    else nothing

abbrev pub start_by : Opening → Bytes → Start
start_by by_brace t = enclosed
start_by by_quote t = enclosed
start_by bare t = bare_start t

abbrev pub start : Bytes → Start
start t = start_by (opening t) t

-- a word in quotes or braces
abbrev pub Enclosed : Bytes → script_outcome.Outcome Word → Type 0
Enclosed t w = EnclosedAt (InBracket most_nested) (InIndex most_nested) t w

-- a variable, an element or a bracket
abbrev pub Substituted : Bytes → script_outcome.Outcome Part → Type 0
Substituted t p = SubstitutedAt (InBracket most_nested) (InIndex most_nested) t p

-- Parens says what reading from behind an opening parenthesis on gives, up to what should be the closing one.
module _ (Parens : ℕ → Bytes → Outcome → Type 0) where
  -- An operand, by how it begins. A dollar that substitutes nothing is bad at the byte behind it.
  abbrev pub OperandBy : Start → ℕ → Bytes → Outcome → Type 0
  OperandBy enclosed n t o = (w : script_outcome.Outcome Word) × Enclosed t w × (o ≡ word_operand n t w)
  OperandBy substituted n t o =
      ((p : script_outcome.Outcome Part) × Substituted t p × (o ≡ part_operand n t p))
      ⊎ (((p : script_outcome.Outcome Part) → Substituted t p → ⊥) × (o ≡ bad (length t - 1)))
  OperandBy run n t o = o ≡ run_operand n t
  OperandBy parenthesis n t o = (v : Outcome) × Parens n (drop 1 t) v × (o ≡ closed v)
  OperandBy nothing n t o = o ≡ bad (length t)

  -- An operand behind its unary operators.
  pub data SignedAt : ℕ → Bytes → Outcome → Type 0 where
    no_sign : {n : ℕ} {t : Bytes} {o : Outcome} → next_sign n t ≡ None → OperandBy (start t) n t o → SignedAt n t o
    one_sign : {n m : ℕ} {t r : Bytes} {op : Op} {o : Outcome} → next_sign n t ≡ Some (op, m, r) → SignedAt m r o → SignedAt n t (signed op o)

-- the operator, where it has this level
abbrev pub of_level : ℕ → Option (Op × ℕ × Bytes) → Option (Op × ℕ × Bytes)
of_level k None = None
of_level k (Some x) = if level x.0 == k then Some x else None

-- A level over the one below it, which binds tighter: what stands left is x, and each further operand joins it from the right, so the level goes to the left.
module _ (k : ℕ) (Lower : ℕ → Bytes → Outcome → Type 0) where
  pub data ChainAt : Tree → ℕ → Bytes → Outcome → Type 0 where
    -- no operator of this level comes next
    chain_ends : {x : Tree} {n : ℕ} {t : Bytes} → of_level k (next_operator n t) ≡ None → ChainAt x n t (done x n t)
    -- an operator comes next, and its right side is bad
    chain_bad : {x : Tree} {n m b : ℕ} {t r : Bytes} {op : Op} → of_level k (next_operator n t) ≡ Some (op, m, r) → Lower m r (bad b) → ChainAt x n t (bad b)
    -- an operator comes next with its right side, and then the level goes on
    chain_goes : {x : Tree} (y : Tree) {n m i : ℕ} {t r u : Bytes} {op : Op} {o : Outcome} → of_level k (next_operator n t) ≡ Some (op, m, r) → Lower m r (done y i u) → ChainAt (binary op x y) i u o → ChainAt x n t o

-- how a level goes on behind its first operand
abbrev pub Then : (Tree → ℕ → Bytes → Outcome → Type 0) → Outcome → Outcome → Type 0
Then Chain (bad b) o = o ≡ bad b
Then Chain (done x n t) o = Chain x n t o

-- The levels of the binary operators, over the operands with their unary operators.
unfoldable pub LevelAt : (ℕ → Bytes → Outcome → Type 0) → ℕ → ℕ → Bytes → Outcome → Type 0
LevelAt Signed zero n t o = Signed n t o
LevelAt Signed (suc k) n t o = (v : Outcome) × LevelAt Signed k n t v × Then (ChainAt (suc k) (LevelAt Signed k)) v o

-- `x ? y : z`, whose first part Test reads: its middle and its last part may be such choices too, so the level goes to the right.
module _ (Test : ℕ → Bytes → Outcome → Type 0) where
  pub data ChoiceAt : ℕ → Bytes → Outcome → Type 0 where
    bad_test : {n b : ℕ} {t : Bytes} → Test n t (bad b) → ChoiceAt n t (bad b)
    -- no question mark comes next
    no_choice : (x : Tree) {n m : ℕ} {t u : Bytes} → Test n t (done x m u) → next_question m u ≡ None → ChoiceAt n t (done x m u)
    bad_middle : (x : Tree) {n m i b : ℕ} {t u r : Bytes} → Test n t (done x m u) → next_question m u ≡ Some (i, r) → ChoiceAt i r (bad b) → ChoiceAt n t (bad b)
    -- no colon comes behind the middle
    no_last : (x y : Tree) {n m i j : ℕ} {t u r v : Bytes} → Test n t (done x m u) → next_question m u ≡ Some (i, r) → ChoiceAt i r (done y j v) → next_colon v ≡ None → ChoiceAt n t (bad (stuck j v))
    one_choice : (x y : Tree) {n m i j : ℕ} {t u r v s : Bytes} {o : Outcome} → Test n t (done x m u) → next_question m u ≡ Some (i, r) → ChoiceAt i r (done y j v) → next_colon v ≡ Some s → ChoiceAt j s o → ChoiceAt n t (chosen x y o)

-- An expression, from what stands behind an opening parenthesis in it.
abbrev pub ExpressionBy : (ℕ → Bytes → Outcome → Type 0) → ℕ → Bytes → Outcome → Type 0
ExpressionBy Parens n t o = ChoiceAt (LevelAt (SignedAt Parens) loosest) n t o

-- What stands behind an opening parenthesis, where room parentheses more may stand in one another: where there is no room, it is bad at that parenthesis.
unfoldable pub InParens : ℕ → ℕ → Bytes → Outcome → Type 0
InParens zero n t o = o ≡ bad (length t + 1)
InParens (suc room) n t o = ExpressionBy (InParens room) n (trimmed_front t) o

-- how many operators an expression may have
abbrev pub most_operators : ℕ
most_operators = 1000

-- a whole text, of which nothing may be left
abbrev pub whole : Outcome → Answer
whole (bad b) = bad_from b
whole (done x n []) = tree x
whole (done x n (b ∷ t)) = bad_from (stuck n (b ∷ t))

-- What a text is: an expression, or bad from a place on.
abbrev pub Reads : Bytes → Answer → Type 0
Reads t a = (o : Outcome) × ExpressionBy (InParens most_nested) most_operators (trimmed_front t) o × (a ≡ whole o)
