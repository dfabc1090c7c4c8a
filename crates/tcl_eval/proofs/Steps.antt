-- What a stack means after a step.
use Rattle.std.proofs.Common.{◌≡◌, ◌≢◌, ℕ, zero, suc, ◌+◌, List, [], ◌∷◌, ◌++◌, length, refl, sym, ap, ◌∙◌, length-append, arith}
use Rattle.txt_core.specs.Names.{Names}
use Rattle.tcl_parse.specs.Tree.{Part, text, variable, element, bracket, Parts, no_parts, part, Words, no_words, word, Commands, no_commands, command as one_command}
use Rattle.tcl_parse.specs.declared.tree.Script as code_script
use Rattle.tcl_eval.specs.State.{State, LeafTable, Given, Out, Rest, Next}
use Rattle.tcl_eval.specs.Eval.{Inner, read, ended, give, on_ok, word_end, read_variable, element_name, run_part, run_parts, command, run_words, run_commands, run_script, nested}
use Rattle.tcl_eval.specs.Kept.{kept_value, judged, grown, run_kept, run_costly}
use Rattle.tcl_eval.specs.declared.gather.SoFar.{SoFar}
use Rattle.tcl_eval.specs.Places.{tree_of, words_from, place_parts, behind, inside}
use Rattle.tcl_eval.specs.Stack.{frame_next, stack_next}
use Rattle.tcl_eval.specs.declared.place.Place.{Place}
use Rattle.tcl_eval.specs.declared.stack.Ended.{Ended}
use Rattle.tcl_eval.specs.declared.stack.Frame.{Frame}
use Rattle.tcl_eval.specs.declared.stack.Frame.TheVariants.{Script, Word, Index}
use Rattle.tcl_eval.proofs.Alike.{After, Runs, run_words_alike, run_script_alike}
use Rattle.tcl_eval.proofs.Kept.{kept_end, next_kept, judged_word}
use Rattle.tcl_eval.proofs.Stacks.{pushed}

module _ {H : Type 0} where
  -- a code that isn't 0 is handed on
  pub other_code : (go : List ℕ → Rest H) (k : Next H) (code : ℕ) (result : List ℕ) (s : State H) (b : ℕ) (g : Given) → code ≢ 0 → k code result s b g ≡ on_ok go k code result s b g
  other_code go k zero result s b g h = absurd (h refl)
  other_code go k (suc code) result s b g h = refl

  -- code 0 goes on
  pub good_code : (go : List ℕ → Rest H) (k : Next H) (value : Ended) (s : State H) (b : ℕ) (g : Given) → value.code ≡ 0 → go value.result s b g ≡ on_ok go k value.code value.result s b g
  good_code go k value s b g z = sym (ap (λ (n : ℕ). on_ok go k n value.result s b g) z)

  -- what hands each code on comes to what it hands to
  pub handed_on : (k : Next H) (m : ℕ) → After m k (on_ok (λ v. k 0 v) k)
  handed_on k m zero result = λ s b g le. refl
  handed_on k m (suc code) result = λ s b g le. refl

module _ {H : Type 0} (ns : Names) (t : LeafTable H) where
  -- a word that is complete is one of the values
  pub taken : (inner : Inner H) (all : Words) (values values' : List (List ℕ)) (value : Ended) (k : Next H) (s : State H) (b : ℕ) (g : Given) → value.code ≡ 0 → values' ≡ values ++ value.result ∷ [] → run_words ns t inner (words_from (length values') all) values' k s b g ≡ on_ok (λ v. run_words ns t inner (words_from (length values + 1) all) (values ++ v ∷ []) k) k value.code value.result s b g
  taken inner all values values' value k s b g z is =
      let go : List ℕ → Rest H = λ v. run_words ns t inner (words_from (length values + 1) all) (values ++ v ∷ []) k in
      ap (λ (x : List (List ℕ)). run_words ns t inner (words_from (length x) all) x k s b g) is
      ∙ ap (λ (n : ℕ). run_words ns t inner (words_from n all) (values ++ value.result ∷ []) k s b g) (length-append values (value.result ∷ []))
      ∙ good_code go k value s b g z

  -- the words of a command are all there
  pub words_done : (inner : Inner H) (ws : Words) (values words : List (List ℕ)) (k : Next H) (s : State H) (b : ℕ) (g : Given) → ws ≡ no_words → words ≡ values → command ns t inner words k s b g ≡ run_words ns t inner ws values k s b g
  words_done inner ws values words k s b g is same =
      ap (λ (x : List (List ℕ)). command ns t inner x k s b g) same
      ∙ sym (ap (λ (x : Words). run_words ns t inner x values k s b g) is)

  -- pieces begin, for which a frame waits
  pub pieces_begin : (inner : Inner H) (fs fs1 : List Frame) (f : Frame) (p : Parts) (e : List ℕ) (s : State H) (b : ℕ) (g : Given) → fs1 ≡ fs ++ f ∷ [] → e ≡ [] → run_parts inner p e (judged (stack_next ns t fs1)) s b g ≡ run_parts inner p [] (judged (frame_next ns t f (stack_next ns t fs))) s b g
  pieces_begin inner fs fs1 f p e s b g push ise =
      ap (λ (x : Next H). run_parts inner p e (judged x) s b g) (pushed ns t fs fs1 f push)
      ∙ ap (λ (x : List ℕ). run_parts inner p x (judged (frame_next ns t f (stack_next ns t fs))) s b g) ise

  -- these are the pieces of a word
  pub word_begins : (inner : Inner H) (run : Runs inner) (fs : List Frame) (f : Frame) (go : Next H → List ℕ → Rest H) (w p : Parts) (s : State H) (b : ℕ) (g : Given) (x : Out H) → ((k : Next H) → frame_next ns t f k ≡ on_ok (go k) k) → p ≡ w → x ≡ run_parts inner p [] (judged (frame_next ns t f (stack_next ns t fs))) s b g → x ≡ run_parts inner w [] (word_end (go (stack_next ns t fs)) (stack_next ns t fs)) s b g
  word_begins inner run fs f go w p s b g x shape isp e =
      e
      ∙ ap (λ (y : Next H). run_parts inner p [] (judged y) s b g) (shape (stack_next ns t fs))
      ∙ ap (λ (y : Parts). run_parts inner y [] (judged (on_ok (go (stack_next ns t fs)) (stack_next ns t fs))) s b g) isp
      ∙ judged_word inner run w (go (stack_next ns t fs)) (stack_next ns t fs) s b g

  -- a command waits for its next word, which begins
  pub word_step : (inner : Inner H) (run : Runs inner) (fs : List Frame) (f : Frame) (ws rest : Words) (w p : Parts) (values : List (List ℕ)) (s : State H) (b : ℕ) (g : Given) (x : Out H) → ((k : Next H) → frame_next ns t f k ≡ on_ok (λ v. run_words ns t inner rest (values ++ v ∷ []) k) k) → ws ≡ word w rest → p ≡ w → x ≡ run_parts inner p [] (judged (frame_next ns t f (stack_next ns t fs))) s b g → x ≡ run_words ns t inner ws values (stack_next ns t fs) s b g
  word_step inner run fs f ws rest w p values s b g x shape is isp e =
      word_begins inner run fs f (λ k v. run_words ns t inner rest (values ++ v ∷ []) k) w p s b g x shape isp e
      ∙ sym (ap (λ (y : Words). run_words ns t inner y values (stack_next ns t fs) s b g) is)

  -- the same of a command that costs more than is left
  pub costly_step : (inner : Inner H) (run : Runs inner) (fs : List Frame) (f : Frame) (ws rest : Words) (w p : Parts) (s : State H) (b : ℕ) (g : Given) (x : Out H) → ((k : Next H) → frame_next ns t f k ≡ on_ok (λ v. run_costly inner rest k) k) → ws ≡ word w rest → p ≡ w → x ≡ run_parts inner p [] (judged (frame_next ns t f (stack_next ns t fs))) s b g → x ≡ run_costly inner ws (stack_next ns t fs) s b g
  costly_step inner run fs f ws rest w p s b g x shape is isp e =
      word_begins inner run fs f (λ k v. run_costly inner rest k) w p s b g x shape isp e
      ∙ sym (ap (λ (y : Words). run_costly inner y (stack_next ns t fs) s b g) is)

  -- a script waits for its next command, which begins
  pub command_step : (inner : Inner H) (fs fs1 : List Frame) (f : Frame) (cs rest : Commands) (ws ws' : Words) (none : List (List ℕ)) (value : Ended) (s : State H) (b : ℕ) (g : Given) → fs1 ≡ fs ++ f ∷ [] → ((k : Next H) → frame_next ns t f k ≡ on_ok (λ v. run_commands ns t inner rest v k) k) → value.code ≡ 0 → cs ≡ one_command ws rest → ws' ≡ ws → none ≡ [] → run_words ns t inner ws' none (stack_next ns t fs1) s b g ≡ on_ok (λ v. run_commands ns t inner cs v (stack_next ns t fs)) (stack_next ns t fs) value.code value.result s b g
  command_step inner fs fs1 f cs rest ws ws' none value s b g push shape z is isw isn =
      let k = on_ok (λ v. run_commands ns t inner rest v (stack_next ns t fs)) (stack_next ns t fs) in
      ap (λ (x : Next H). run_words ns t inner ws' none x s b g) (pushed ns t fs fs1 f push ∙ shape (stack_next ns t fs))
      ∙ ap (λ (x : Words). run_words ns t inner x none k s b g) isw
      ∙ ap (λ (x : List (List ℕ)). run_words ns t inner ws x k s b g) isn
      ∙ sym (ap (λ (x : Commands). run_commands ns t inner x value.result (stack_next ns t fs) s b g) is)
      ∙ sym (ap (λ (n : ℕ). on_ok (λ v. run_commands ns t inner cs v (stack_next ns t fs)) (stack_next ns t fs) n value.result s b g) z)

  -- the last command of a script begins, for which nothing waits
  pub last_command_step : (inner : Inner H) (run : Runs inner) (cs : Commands) (ws ws' : Words) (none : List (List ℕ)) (value : Ended) (k : Next H) (s : State H) (b : ℕ) (g : Given) → value.code ≡ 0 → cs ≡ one_command ws no_commands → ws' ≡ ws → none ≡ [] → run_words ns t inner ws' none k s b g ≡ on_ok (λ v. run_commands ns t inner cs v k) k value.code value.result s b g
  last_command_step inner run cs ws ws' none value k s b g z is isw isn =
      ap (λ (x : Words). run_words ns t inner x none k s b g) isw
      ∙ ap (λ (x : List (List ℕ)). run_words ns t inner ws x k s b g) isn
      ∙ run_words_alike ns t inner run ws [] b k (on_ok (λ v. k 0 v) k) (handed_on k b) s b g (omega arith)
      ∙ sym (ap (λ (x : Commands). run_commands ns t inner x value.result k s b g) is)
      ∙ sym (ap (λ (n : ℕ). on_ok (λ v. run_commands ns t inner cs v k) k n value.result s b g) z)

  -- an index begins, within a word that waits
  pub index_step : (inner : Inner H) (fs fs1 : List Frame) (array : List ℕ) (so_far : SoFar) (place place' : Place) (levels : ℕ) (p p' : Parts) (s : State H) (b : ℕ) (g : Given) (x : Out H) → fs1 ≡ fs ++ Word place' so_far levels ∷ [] → place' ≡ place → p ≡ p' → x ≡ run_parts inner p [] (judged (frame_next ns t (Index array) (stack_next ns t fs1))) s b g → x ≡ run_parts inner p' [] (judged (frame_next ns t (Index array) (frame_next ns t (Word place so_far levels) (stack_next ns t fs)))) s b g
  index_step inner fs fs1 array so_far place place' levels p p' s b g x push at isp e =
      let waits : Next H → Next H = λ k. judged (frame_next ns t (Index array) k) in
      e
      ∙ ap (λ (k : Next H). run_parts inner p [] (waits k) s b g) (pushed ns t fs fs1 (Word place' so_far levels) push)
      ∙ ap (λ (y : Place). run_parts inner p [] (waits (frame_next ns t (Word y so_far levels) (stack_next ns t fs))) s b g) at
      ∙ ap (λ (y : Parts). run_parts inner y [] (waits (frame_next ns t (Word place so_far levels) (stack_next ns t fs))) s b g) isp

  -- a bracket is run, within a word that waits
  pub bracket_runs : (fs fs1 : List Frame) (script : _) (so_far : SoFar) (place place' : Place) (levels less : ℕ) (value : Ended) (s : State H) (b : ℕ) (g : Given) (x : Out H) → fs1 ≡ fs ++ Word place' so_far levels ∷ [] → place' ≡ place → levels ≡ suc less → value ≡ ended 0 [] → x ≡ frame_next ns t (Script script 0 less) (stack_next ns t fs1) value.code value.result s b g → x ≡ run_script ns t levels (read (tree_of script.value)) (frame_next ns t (Word place so_far levels) (stack_next ns t fs)) s b g
  bracket_runs fs fs1 script so_far place place' levels less value s b g x push at l is e =
      e
      ∙ ap (λ (v : Ended). frame_next ns t (Script script 0 less) (stack_next ns t fs1) v.code v.result s b g) is
      ∙ sym (ap (λ (n : ℕ). run_script ns t n (read (tree_of script.value)) (stack_next ns t fs1) s b g) l)
      ∙ ap (λ (k : Next H). run_script ns t levels (read (tree_of script.value)) k s b g) (pushed ns t fs fs1 (Word place' so_far levels) push)
      ∙ ap (λ (y : Place). run_script ns t levels (read (tree_of script.value)) (frame_next ns t (Word y so_far levels) (stack_next ns t fs)) s b g) at

  -- a word goes on with its next piece
  pub piece_on : (place : Place) (p : Part) (so_far : SoFar) (levels : ℕ) (k : Next H) (s : State H) (b : ℕ) (g : Given) (x : Out H) → place_parts place ≡ part p (place_parts (behind place)) → x ≡ run_part (nested ns t levels) p (frame_next ns t (Word (behind place) so_far levels) k) s b g → x ≡ run_kept (nested ns t levels) (place_parts place) so_far k s b g
  piece_on place p so_far levels k s b g x is e =
      e ∙ next_kept (nested ns t levels) (run_script_alike ns t levels) p (place_parts (behind place)) so_far k s b g
      ∙ sym (ap (λ (ps : Parts). run_kept (nested ns t levels) ps so_far k s b g) is)

  pub no_piece_left : (place : Place) (so_far : SoFar) (value : Ended) (inner : Inner H) (k : Next H) (s : State H) (b : ℕ) (g : Given) → place_parts place ≡ no_parts → value ≡ kept_value so_far → give value k s b g ≡ run_kept inner (place_parts place) so_far k s b g
  no_piece_left place so_far value inner k s b g is same =
      ap (λ (v : Ended). give v k s b g) same
      ∙ kept_end inner so_far k s b g
      ∙ sym (ap (λ (ps : Parts). run_kept inner ps so_far k s b g) is)

  pub text_step : (place place' : Place) (bytes bytes' : List ℕ) (so_far after : SoFar) (levels : ℕ) (k : Next H) (s : State H) (b : ℕ) (g : Given) → place_parts place ≡ part (text bytes) (place_parts (behind place)) → place' ≡ behind place → after ≡ grown so_far bytes' → bytes' ≡ bytes → run_kept (nested ns t levels) (place_parts place') after k s b g ≡ run_kept (nested ns t levels) (place_parts place) so_far k s b g
  text_step place place' bytes bytes' so_far after levels k s b g is at more same =
      piece_on place (text bytes) so_far levels k s b g (run_kept (nested ns t levels) (place_parts place') after k s b g) is
      (ap (λ (p : Place). run_kept (nested ns t levels) (place_parts p) after k s b g) at
      ∙ ap (λ (x : SoFar). run_kept (nested ns t levels) (place_parts (behind place)) x k s b g) more
      ∙ ap (λ (x : List ℕ). run_kept (nested ns t levels) (place_parts (behind place)) (grown so_far x) k s b g) same)

  pub variable_step : (place place' : Place) (name name' : List ℕ) (so_far : SoFar) (levels : ℕ) (k : Next H) (s : State H) (b : ℕ) (g : Given) (x : Out H) → place_parts place ≡ part (variable name) (place_parts (behind place)) → place' ≡ behind place → name' ≡ name → x ≡ read_variable name' (frame_next ns t (Word place' so_far levels) k) s b g → x ≡ run_kept (nested ns t levels) (place_parts place) so_far k s b g
  variable_step place place' name name' so_far levels k s b g x is at same e =
      piece_on place (variable name) so_far levels k s b g x is
      (e ∙ ap (λ (n : List ℕ). read_variable n (frame_next ns t (Word place' so_far levels) k) s b g) same
      ∙ ap (λ (p : Place). read_variable name (frame_next ns t (Word p so_far levels) k) s b g) at)

  pub element_step : (place : Place) (array array' : List ℕ) (so_far : SoFar) (levels : ℕ) (k : Next H) (s : State H) (b : ℕ) (g : Given) (x : Out H) → place_parts place ≡ part (element array (inside (place_parts place))) (place_parts (behind place)) → array' ≡ array → x ≡ run_parts (nested ns t levels) (inside (place_parts place)) [] (judged (frame_next ns t (Index array') (frame_next ns t (Word (behind place) so_far levels) k))) s b g → x ≡ run_kept (nested ns t levels) (place_parts place) so_far k s b g
  element_step place array array' so_far levels k s b g x is same e =
      let waits : Next H = frame_next ns t (Word (behind place) so_far levels) k in
      piece_on place (element array (inside (place_parts place))) so_far levels k s b g x is
      (e ∙ ap (λ (n : List ℕ). run_parts (nested ns t levels) (inside (place_parts place)) [] (judged (frame_next ns t (Index n) waits)) s b g) same
      ∙ judged_word (nested ns t levels) (run_script_alike ns t levels) (inside (place_parts place)) (λ v. read_variable (element_name array v) waits) waits s b g)

  pub nested_step : (place : Place) (script script' : code_script.Script) (so_far : SoFar) (levels : ℕ) (k : Next H) (s : State H) (b : ℕ) (g : Given) (x : Out H) → place_parts place ≡ part (bracket (tree_of script)) (place_parts (behind place)) → script' ≡ script → x ≡ run_script ns t levels (read (tree_of script')) (frame_next ns t (Word (behind place) so_far levels) k) s b g → x ≡ run_kept (nested ns t levels) (place_parts place) so_far k s b g
  nested_step place script script' so_far levels k s b g x is same e =
      piece_on place (bracket (tree_of script)) so_far levels k s b g x is
      (e ∙ ap (λ (c : code_script.Script). run_script ns t levels (read (tree_of c)) (frame_next ns t (Word (behind place) so_far levels) k) s b g) same)
