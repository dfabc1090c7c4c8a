-- The codes with which scripts and commands end.
use Rattle.std.specs.Prelude.{ℕ}

-- a good end
abbrev pub ok : ℕ
ok = 0

-- an error, whose text is the result
abbrev pub error : ℕ
error = 1

-- a `return`, which ends a procedure
abbrev pub return : ℕ
return = 2

-- a `break`, which ends a loop
abbrev pub break : ℕ
break = 3

-- a `continue`, with which a loop goes on
abbrev pub continue : ℕ
continue = 4

-- an `ns_adp_return`, which ends a page
abbrev pub page_return : ℕ
page_return = 5

-- an `ns_adp_break`, which ends all pages
abbrev pub page_break : ℕ
page_break = 6

-- an `ns_adp_abort`, which ends all pages and drops what they put out
abbrev pub page_abort : ℕ
page_abort = 7
