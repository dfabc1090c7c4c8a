-- The values of words.
use Rattle.std.specs.Prelude.{[], ◌++◌}
use Rattle.txt_core.specs.Names.{Bytes}
use Rattle.tcl_parse.specs.Tree.{Part, text, variable, element, bracket, Parts, no_parts, part}
use Rattle.tcl_host.specs.Codes as code_of
use Rattle.tcl_eval.specs.State.{Rest, Next}
use Rattle.tcl_eval.specs.Results.{element_name}
use Rattle.tcl_eval.specs.Going.{Inner, read, on_ok, word_end, read_variable}

module _ {H : Type 0} where
  abbrev mutual
    -- The value of a part of a word. The index of an element is judged as a word is, before the variable is read.
    pub run_part : Inner H → Part → Next H → Rest H
    run_part inner (text bytes) k = k code_of.ok bytes
    run_part inner (variable name) k = read_variable name k
    run_part inner (element array index) k =
        run_parts inner index [] (word_end (λ value. read_variable (element_name array value) k) k)
    run_part inner (bracket script) k = inner.run (read script) k

    -- the values of parts, from left to right, joined to what is there
    pub run_parts : Inner H → Parts → Bytes → Next H → Rest H
    run_parts inner no_parts so_far k = k code_of.ok so_far
    run_parts inner (part first parts) so_far k =
        run_part inner first (on_ok (λ value. run_parts inner parts (so_far ++ value) k) k)
