-- What is kept of definitions, so that a request looks at few of them.
use Rattle.std.specs.Prelude.{◌≡◌, List, [], ◌∷◌, ◌++◌, Bool, true, false, unwrap_or}
use Rattle.std.specs.Global.{Vec}
use Rattle.std.specs.declared.cmp.Ordering.{Ordering}
use Rattle.std.specs.Ordering.{is_eq}
use Rattle.std.specs.Cmp.Lexicographic.{slice_cmp}
use Rattle.std.specs.BTreeMap.{BTreeMap, get_by}
use Rattle.txt_core.specs.Names.{Bytes, Words}
use Rattle.txt_core.specs.Order.{text_cmp}
use Rattle.cmd_table.specs.declared.definition.Def.{Def}
use Rattle.cmd_table.specs.declared.definition.Def.TheVariants.{Route, Filter}
use Rattle.url_tables.specs.declared.site.Site.{Site}
use Rattle.url_tables.specs.declared.filters.Passing.{Passing}
use Rattle.url_tables.specs.declared.routes.Routes.{Routes}
use Rattle.url_tables.specs.Urls.{segments, plain_of, suffix_of}

-- the order of lists of texts
abbrev pub path_cmp : Words → Words → Ordering
path_cmp = slice_cmp text_cmp

abbrev pub same_path : Words → Words → Bool
same_path first second = is_eq (path_cmp first second)

-- a registration under other segments isn't kept here
abbrev pub if_same : Bool → Site → List Site
if_same true site = site ∷ []
if_same false site = []

-- what is kept of a definition under these plain segments
abbrev pub kept : Words → Def → List Site
kept plain (Route method url inherit words) = if_same (same_path plain (plain_of (segments url))) (record { method = method; suffix = suffix_of (segments url); inherit = inherit; route = record { words = words } })
kept plain def = []

-- what is kept of definitions under these plain segments, in their order
abbrev pub sites_at : Words → List Def → List Site
sites_at plain [] = []
sites_at plain (def ∷ defs) = kept plain def ++ sites_at plain defs

-- what a map has under these plain segments, none where it has nothing
abbrev pub found : BTreeMap (Vec Bytes) (List Site) → Words → List Site
found table plain = unwrap_or (get_by (λ key. path_cmp plain key.items) table) []

-- what is kept of a filter
abbrev pub passing : Def → List Passing
passing (Filter when method pattern words) = record { when = when; method = method; pattern = pattern; words = words } ∷ []
passing def = []

abbrev pub passings : List Def → List Passing
passings [] = []
passings (def ∷ defs) = passing def ++ passings defs

-- The tables are those of the definitions.
pub record IsBuiltOf (routes : Routes) (defs : List Def) : Type 0 where
  pub sites : (plain : Words) → found routes.sites plain ≡ sites_at plain defs
  pub filters : routes.filters.items ≡ passings defs
