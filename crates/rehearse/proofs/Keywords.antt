-- The first words of events.
use Rattle.std.proofs.Common.{◌≡◌, ℕ, List, slice_index_or, true, refl, sym, ap, ◌∙◌}
use Rattle.std.specs.Prelude.{◌==◌, if◌then◌else◌}
use Rattle.std.specs.List.{list_all}
use Rattle.rehearse.specs.declared.keyword.Keyword.{Keyword}
use Rattle.rehearse.specs.declared.keyword.Keyword.TheVariants.{Workers, Clock, Page, Define, Connect, Step, Run}
use Rattle.rehearse.specs.Events.{name_of}
use Rattle.rehearse.specs.Reading.{is_other}

-- a keyword by two bytes of its word
decode : List ℕ → Keyword
decode word =
    if slice_index_or word 0 0 == 119 then Workers else
    (if slice_index_or word 0 0 == 112 then Page else
    (if slice_index_or word 0 0 == 100 then Define else
    (if slice_index_or word 0 0 == 115 then Step else
    (if slice_index_or word 0 0 == 114 then Run else
    (if slice_index_or word 1 0 == 108 then Clock else Connect)))))

decoded : (k : Keyword) → decode (name_of k) ≡ k
unfolding decode
decoded Workers = refl
decoded Clock = refl
decoded Page = refl
decoded Define = refl
decoded Connect = refl
decoded Step = refl
decoded Run = refl

pub same_keyword : (k l : Keyword) → name_of k ≡ name_of l → k ≡ l
same_keyword k l e = sym (decoded k) ∙ ap decode e ∙ decoded l

pub no_space : (k : Keyword) → list_all (is_other 32) (name_of k) ≡ true
no_space Workers = refl
no_space Clock = refl
no_space Page = refl
no_space Define = refl
no_space Connect = refl
no_space Step = refl
no_space Run = refl

pub no_newline : (k : Keyword) → list_all (is_other 10) (name_of k) ≡ true
no_newline Workers = refl
no_newline Clock = refl
no_newline Page = refl
no_newline Define = refl
no_newline Connect = refl
no_newline Step = refl
no_newline Run = refl
