-- How the code's names and findings are seen.
use Rattle.tcl_frame.specs.declared.name.Name.{Name}
use Rattle.tcl_frame.specs.declared.name.Name.TheVariants.{Whole, Element}
use Rattle.tcl_frame.specs.Names as names

-- a name with the bytes behind its references
abbrev pub name_seen : Name → names.Named
name_seen (Whole name) = names.Whole name.now
name_seen (Element array index) = names.Element array.now index.now
