-- Steps and ends of loops that put texts together.
use Rattle.std.proofs.Common.{◌≡◌, List, [], ◌++◌, sym, ap, ◌∙◌}
use Rattle.std.proofs.lemmas.List.{append-nil}

pub all_found : {A B : Type 0} (found : List A) (f : List B → List A) (rest all : List B) → found ++ f rest ≡ f all → rest ≡ [] → f [] ≡ [] → found ≡ f all
all_found found f rest all h e none = sym (append-nil found) ∙ ap (λ r. found ++ r) (sym none ∙ ap f (sym e)) ∙ h
