-- Which filters a request passes at a stage.
use Rattle.std.specs.Prelude.{List, [], ◌∷◌, Bool, true, false, ◌&&◌, ◌||◌, bytes_eq, codes}
use Rattle.txt_core.specs.Names.{Bytes, Words}
use Rattle.txt_core.specs.PatternLaws.{matches}
use Rattle.cmd_table.specs.declared.definition.When.{When}
use Rattle.cmd_table.specs.declared.definition.When.TheVariants.{Preauth, Postauth, Trace}
use Rattle.cmd_table.specs.declared.definition.Def.{Def}
use Rattle.cmd_table.specs.declared.definition.Def.TheVariants.{Filter}
use Rattle.url_tables.specs.Serving.{route_method}

abbrev pub same_stage : When → When → Bool
same_stage Preauth Preauth = true
same_stage Postauth Postauth = true
same_stage Trace Trace = true
same_stage first second = false

-- A filter is for all methods, or for that of the request.
abbrev pub is_for : Bytes → Bytes → Bool
is_for registered method = bytes_eq registered (codes "*") || bytes_eq registered (route_method method)

-- one more in front, where it is passed
abbrev pub put_if : Bool → Words → List Words → List Words
put_if true words others = words ∷ others
put_if false words others = others

-- Whether a request passes a filter at a stage: one of this stage and for this method, whose pattern matches the path, which
-- is shown as a text.
abbrev pub is_met : When → Bytes → Bytes → When → Bytes → Bytes → Bool
is_met when method path stage registered pattern = same_stage stage when && is_for registered method && matches pattern path

-- The words of the filters that a request passes at a stage, in the order of their registration.
abbrev pub Filters : When → Bytes → Bytes → List Def → List Words
Filters when method path [] = []
Filters when method path (Filter stage registered pattern words ∷ defs) =
    put_if (is_met when method path stage registered pattern) words (Filters when method path defs)
Filters when method path (def ∷ defs) = Filters when method path defs
