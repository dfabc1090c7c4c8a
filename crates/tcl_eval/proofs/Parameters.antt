-- Parameters are read one by one.
use Rattle.std.proofs.Common.{◌≡◌, ℕ, ◌+◌, ◌<◌, List, [], ◌∷◌, ◌++◌, length, drop, get_or, Option, Result, Ok, Err, refl, ap, sym, ◌∙◌, append_assoc}
use Rattle.std.proofs.lemmas.List.{drop_more}
use Rattle.tcl_eval.specs.declared.parameter.Parameter.{Parameter}
use Rattle.tcl_eval.specs.Parameters.{Values, bound, bound_by, parameter, parameters, with_parameter, read_next, read_all}
use Rattle.tcl_eval.specs.ParametersSeen.{ValuesAre, in_front}

-- what the texts from a place on are, by what the text there is
pub from_here : (texts : List (List ℕ)) (place : ℕ) (text : List ℕ) (found : Option Parameter) → place < length texts → text ≡ get_or texts place text → found ≡ parameter text
    → read_all (drop place texts) ≡ read_next text found (read_all (drop (place + 1) texts))
from_here texts place text found within is means =
    ap read_all (drop_more texts place text within ∙ ap (λ (t : List ℕ). t ∷ drop (place + 1) texts) (sym is))
    ∙ ap (λ (f : Option Parameter). read_next text f (read_all (drop (place + 1) texts))) (sym means)

-- one more parameter in front of the others
pub one_more : (first : List Parameter) (next : Parameter) (rest : Result (List Parameter) (List ℕ)) → in_front first (with_parameter next rest) ≡ in_front (first ++ next ∷ []) rest
one_more first next (Ok rest) = ap Ok (sym (append_assoc first (next ∷ []) rest))
one_more first next (Err message) = refl

-- the values of parameters that were read are those of their text
pub bound_read : (params : List ℕ) (all : List Parameter) (name : List ℕ) (words : List (List ℕ)) (found : Result Values (List ℕ)) → parameters params ≡ Ok all → ValuesAre found (bound_by (Ok all) name words) → ValuesAre found (bound params name words)
bound_read params all name words found reads is =
    ap (λ (r : Result (List Parameter) (List ℕ)). bound_by r name words) reads ∙ is

-- what is wrong with parameters is the error of a call
pub bound_wrong : (params message name : List ℕ) (words : List (List ℕ)) → parameters params ≡ Err message → ValuesAre (Err message) (bound params name words)
bound_wrong params message name words wrong =
    ap (λ (r : Result (List Parameter) (List ℕ)). bound_by r name words) wrong
