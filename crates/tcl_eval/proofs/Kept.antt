-- What is kept of words under way is enough: a word that is too long is the same error whatever its bytes are, and a command whose
-- first words cost more than is left ends the run once its words are there.
use Rattle.std.proofs.Common.{◌≡◌, ◌<◌, ◌≤◌, ℕ, zero, suc, ◌+◌, ◌-◌, List, [], ◌∷◌, ◌++◌, length, sum_by, Bool, true, false, cond, refl, sym, ap, arith, length-append}
use Rattle.std.proofs.lemmas.Bool.{lt-ltb, ltb-true}
use Rattle.std.proofs.lemmas.List.Sums.{sum_by_push}
use Rattle.txt_core.specs.Limits.{most_bytes, is_long}
use Rattle.txt_core.specs.Names.{Names}
use Rattle.tcl_parse.specs.Tree.{Part, Parts, no_parts, part, Words, no_words, word}
use Rattle.tcl_eval.specs.State.{State, LeafTable, Given, spent, Rest, Next}
use Rattle.tcl_eval.specs.Messages.{too_long}
use Rattle.tcl_eval.specs.Costs.{command_cost}
use Rattle.tcl_eval.specs.Results.{ended}
use Rattle.tcl_eval.specs.Going.{Inner, on_ok, give, word_end, command_end}
use Rattle.tcl_eval.specs.Pieces.{run_part, run_parts}
use Rattle.tcl_eval.specs.Eval.{act, run_words}
use Rattle.tcl_eval.specs.Kept.{kept_word, grown, kept_value, judged, run_too_long, run_kept, run_costly}
use Rattle.tcl_eval.specs.declared.gather.SoFar.{SoFar}
use Rattle.tcl_eval.specs.declared.gather.SoFar.TheVariants.{Kept, TooLong}
use Rattle.tcl_eval.proofs.Alike.{Alike, After, Runs, run_part_alike, run_parts_alike, word_end_after}

-- a text that is too long stays so with more at its end
longer : (text piece : List ℕ) → is_long text ≡ true → is_long (text ++ piece) ≡ true
longer text piece e =
    lt-ltb most_bytes (length (text ++ piece)) (omega (arith, ltb-true most_bytes (length text) e, length-append text piece))

sum_behind : (words : List (List ℕ)) (more : List ℕ) → sum_by length (words ++ more ∷ []) ≡ sum_by length words + length more
sum_behind words more = sum_by_push length words more

-- a word more makes a command no cheaper
no_cheaper : (words : List (List ℕ)) (more : List ℕ) → command_cost words ≤ command_cost (words ++ more ∷ [])
no_cheaper words more = omega (arith, sum_behind words more)

module _ {H : Type 0} where
  -- a word may be judged before it is handed on
  judged_same : (go : List ℕ → Rest H) (k : Next H) (m : ℕ) → After m (judged (on_ok go k)) (word_end go k)
  judged_same go k m zero result = λ s b g le. refl
  judged_same go k m (suc code) result = λ s b g le. refl

  -- codes that aren't 0 pass the judgement
  cut_after : (go go' : List ℕ → Rest H) (m : ℕ) (k : Next H) → ((v : List ℕ) → Alike m (go v) (go' v)) → After m (on_ok go k) (on_ok go' (judged k))
  cut_after go go' m k on zero result = on result
  cut_after go go' m k on (suc code) result = λ s b g le. refl

  word_value : (c : Bool) (text : List ℕ) (k : Next H) (s : State H) (b : ℕ) (g : Given) → give (cond c (ended 1 too_long) (ended 0 text)) k s b g ≡ (cond c (k 1 too_long) (k 0 text)) s b g
  word_value true text k s b g = refl
  word_value false text k s b g = refl

  -- no piece is left
  pub kept_end : (inner : Inner H) (so_far : SoFar) (k : Next H) (s : State H) (b : ℕ) (g : Given) → give (kept_value so_far) k s b g ≡ run_kept inner no_parts so_far k s b g
  kept_end inner (Kept text) k s b g = word_value (is_long text) text k s b g
  kept_end inner TooLong k s b g = refl

module _ {H : Type 0} (inner : Inner H) (run : Runs inner) where
  -- the bytes of a word that is too long don't matter
  too_long_same : (ps : Parts) (text : List ℕ) (k : Next H) (m : ℕ) → is_long text ≡ true → Alike m (run_too_long inner ps k) (run_parts inner ps text (judged k))
  too_long_same no_parts text k m e = λ s b g le. sym (ap (λ (c : Bool). (cond c (k 1 too_long) (k 0 text)) s b g) e)
  too_long_same (part p ps) text k m e =
      run_part_alike inner run p m (on_ok (λ v. run_too_long inner ps k) k) (on_ok (λ v. run_parts inner ps (text ++ v) (judged k)) (judged k))
      (cut_after (λ v. run_too_long inner ps k) (λ v. run_parts inner ps (text ++ v) (judged k)) m k
      (λ v. too_long_same ps (text ++ v) k m (longer text v e)))

  word_kept : (ps : Parts) (text : List ℕ) (k : Next H) (m : ℕ) (c : Bool) → is_long text ≡ c → Alike m (run_kept inner ps (cond c TooLong (Kept text)) k) (run_parts inner ps text (judged k))
  word_kept ps text k m true e = too_long_same ps text k m e
  word_kept ps text k m false e = λ s b g le. refl

  -- a piece more
  pub next_kept : (p : Part) (ps : Parts) (so_far : SoFar) (k : Next H) (s : State H) (b : ℕ) (g : Given) → run_part inner p (on_ok (λ v. run_kept inner ps (grown so_far v) k) k) s b g ≡ run_kept inner (part p ps) so_far k s b g
  next_kept p ps (Kept text) k s b g =
      run_part_alike inner run p b (on_ok (λ v. run_kept inner ps (kept_word (text ++ v)) k) k) (on_ok (λ v. run_parts inner ps (text ++ v) (judged k)) (judged k))
      (cut_after (λ v. run_kept inner ps (kept_word (text ++ v)) k) (λ v. run_parts inner ps (text ++ v) (judged k)) b k
      (λ v. word_kept ps (text ++ v) k b (is_long (text ++ v)) refl)) s b g (omega arith)
  next_kept p ps TooLong k s b g = refl

  -- a word is judged, and what waits for it goes on
  pub judged_word : (p : Parts) (go : List ℕ → Rest H) (k : Next H) (s : State H) (b : ℕ) (g : Given) → run_parts inner p [] (judged (on_ok go k)) s b g ≡ run_parts inner p [] (word_end go k) s b g
  judged_word p go k s b g = run_parts_alike inner run p [] b (judged (on_ok go k)) (word_end go k) (judged_same go k b) s b g (omega arith)

module _ {H : Type 0} (ns : Names) (t : LeafTable H) (inner : Inner H) (run : Runs inner) where
  -- a command whose first words cost more than is left
  pub costly_same : (ws : Words) (values : List (List ℕ)) (k : Next H) (s : State H) (b : ℕ) (g : Given) → b < command_cost values → run_costly inner ws k s b g ≡ run_words ns t inner ws values k s b g
  costly_same no_words values k s b g less =
      sym (ap (λ (c : Bool). cond c (spent s) (act ns t inner values (command_end k) s (b - command_cost values) g)) (lt-ltb b (command_cost values) less))
  costly_same (word w ws) values k s b g less =
      let go : List ℕ → Rest H = λ v. run_costly inner ws k in
      let go' : List ℕ → Rest H = λ v. run_words ns t inner ws (values ++ v ∷ []) k in
      run_parts_alike inner run w [] b (word_end go k) (word_end go' k)
      (word_end_after go go' b k k (λ v s' b' g' le. costly_same ws (values ++ v ∷ []) k s' b' g' (omega (arith, le, less, no_cheaper values v))) (λ code result s' b' g' le. refl))
      s b g (omega arith)
