-- A word for which nothing is run comes to what the evaluation says.
use Rattle.std.proofs.Common.{◌≡◌, ◌<◌, ℕ, ◌+◌, List, [], ◌∷◌, ◌++◌, length, length-append, Some, refl, sym, ap, ◌∙◌, arith}
use Rattle.txt_core.specs.Names.{Names}
use Rattle.tcl_parse.specs.Tree.{Parts, Words, word}
use Rattle.tcl_eval.specs.State.{State, LeafTable, Given, Rest, Next}
use Rattle.tcl_eval.specs.Results.{ended}
use Rattle.tcl_eval.specs.Going.{on_ok, give}
use Rattle.tcl_eval.specs.Eval.{run_words, nested}
use Rattle.tcl_eval.specs.AtOnce.{word_at_once}
use Rattle.tcl_eval.specs.Places.{words_from, words_size}
use Rattle.tcl_eval.specs.declared.gather.SoFar.TheVariants.{Kept}
use Rattle.tcl_eval.specs.declared.stack.Ended.{Ended}
use Rattle.tcl_eval.proofs.Alike.{run_script_alike}
use Rattle.tcl_eval.proofs.AtOnce.{word_gives}
use Rattle.tcl_eval.proofs.Kept.{judged_word}
use Rattle.tcl_eval.proofs.Steps.{taken}

-- behind one more value less is left
pub word_shorter : (all : Words) (w : Parts) (values values' : List (List ℕ)) (value : List ℕ) → words_from (length values) all ≡ word w (words_from (length values + 1) all) → values' ≡ values ++ value ∷ [] → words_size (words_from (length values') all) < words_size (words_from (length values) all)
word_shorter all w values values' value is pushed =
    omega (arith, ap (λ (ws : Words). words_size ws) is, ap (λ (x : List (List ℕ)). words_size (words_from (length x) all)) pushed, ap (λ (n : ℕ). words_size (words_from n all)) (length-append values (value ∷ [])))

module _ {H : Type 0} (ns : Names) (t : LeafTable H) (levels : ℕ) where
  -- what the next word comes to is what the command goes on with
  pub word_given : (all : Words) (w : Parts) (values : List (List ℕ)) (value : Ended) (k : Next H) (s : State H) (b : ℕ) (g : Given) → words_from (length values) all ≡ word w (words_from (length values + 1) all) → word_at_once s.frames w ≡ Some value → give value (on_ok (λ v. run_words ns t (nested ns t levels) (words_from (length values + 1) all) (values ++ v ∷ []) k) k) s b g ≡ run_words ns t (nested ns t levels) (words_from (length values) all) values k s b g
  word_given all w values value k s b g is found =
      let inner = nested ns t levels in
      let go : List ℕ → Rest H = λ v. run_words ns t inner (words_from (length values + 1) all) (values ++ v ∷ []) k in
      word_gives ns t levels s b g w (Kept []) (on_ok go k) value found
      ∙ judged_word inner (run_script_alike ns t levels) w go k s b g
      ∙ sym (ap (λ (x : Words). run_words ns t inner x values k s b g) is)

  -- a word that has a value is one of the values
  pub word_taken : (all : Words) (w : Parts) (values values' : List (List ℕ)) (value : List ℕ) (k : Next H) (s : State H) (b : ℕ) (g : Given) → words_from (length values) all ≡ word w (words_from (length values + 1) all) → word_at_once s.frames w ≡ Some (ended 0 value) → values' ≡ values ++ value ∷ [] → run_words ns t (nested ns t levels) (words_from (length values') all) values' k s b g ≡ run_words ns t (nested ns t levels) (words_from (length values) all) values k s b g
  word_taken all w values values' value k s b g is found pushed =
      taken ns t (nested ns t levels) all values values' (ended 0 value) k s b g refl pushed
      ∙ word_given all w values (ended 0 value) k s b g is found
