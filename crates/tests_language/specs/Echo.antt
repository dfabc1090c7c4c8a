-- A host that the tests stand on: `ask ..` asks, and what it is answered is its result; `page ..` asks for a page, which is entered;
-- `keep name value` writes a variable; `note script` is a definition; `ns_adp_append text` puts a text at the end of the output, as
-- the texts of pages do; three commands have codes that leave a page; and it has no other command. The codes that it is told stand
-- one behind another as the digits of a number, behind a 1.
use Rattle.std.specs.Prelude.{ℕ, [], ◌++◌, ◌+◌, ◌*◌, ◌%◌, ◌^◌, bytes_eq, codes, if◌then◌else◌}
use Rattle.txt_core.specs.Names.{Bytes, Words}
use Rattle.adp_parse.specs.PiecesOf.{pieces_of}
use Rattle.outside.specs.declared.question.Answer.{Answer}
use Rattle.outside.specs.declared.question.Answer.TheVariants.{Said, Failed, Page, NoPage, PageFault}
use Rattle.outside.specs.declared.question.Service.TheVariants as service
use Rattle.cmd_table.specs.declared.definition.Def.TheVariants.{Cleanup}
use Rattle.natives.specs.Words.{arg}
use Rattle.tcl_host.specs.Codes as code_of
use Rattle.tcl_host.specs.Leaf.{Leaf, says, wants, defines, stores, not_mine, Onward, goes, enters, TextEnd, LeafTable}
use Rattle.tests_language.specs.declared.echo.Echo.{Echo}

-- with a text at the end of the output
abbrev pub sent : Echo → Bytes → Echo
sent host text = record host { output = host.output ++ text }

abbrev pub calls : Words → Echo → Leaf Echo
calls words host =
    if bytes_eq (arg words 0) (codes "ask") then wants (record { service = service.Inner; words = words }) host
    else if bytes_eq (arg words 0) (codes "page") then wants (record { service = service.Page; words = words }) host
    else if bytes_eq (arg words 0) (codes "keep") then stores (arg words 1) (arg words 2) (arg words 2) host
    else if bytes_eq (arg words 0) (codes "note") then defines (Cleanup (arg words 1)) host
    else if bytes_eq (arg words 0) (codes "ns_adp_append") then says code_of.ok [] (sent host (arg words 1))
    else if bytes_eq (arg words 0) (codes "ns_adp_return") then says code_of.page_return [] host
    else if bytes_eq (arg words 0) (codes "ns_adp_break") then says code_of.page_break [] host
    else if bytes_eq (arg words 0) (codes "ns_adp_abort") then says code_of.page_abort [] host
    else not_mine host

abbrev pub answers : Words → Answer → Echo → Onward Echo
answers words (Said said) host = goes (says code_of.ok said host)
answers words (Failed why) host = goes (says code_of.error why host)
answers words (Page page) host = enters (record { list = pieces_of page; args = words }) host
answers words NoPage host = goes (wants (record { service = service.Inner; words = words }) host)
answers words PageFault host = goes (not_mine host)

abbrev pub texts : Bytes → Echo → TextEnd Echo
texts text host = record { code = code_of.ok; result = []; host = sent host text }

abbrev pub leaves : ℕ → Echo → Echo
leaves code host = record host { told = (host.told * 10 % 2 ^ 64 + code) % 2 ^ 64 }

abbrev pub clears : Echo → Echo
clears host = record host { output = []; told = 1 }

abbrev pub echo : LeafTable Echo
echo = record { calls = calls; answers = answers; texts = texts; leaves = leaves; clears = clears }
