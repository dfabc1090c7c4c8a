-- What a host's replies say, in the words of the rules. Want of memory says nothing.
use Rattle.std.specs.Prelude.{◌≡◌}
use Rattle.tcl_host.specs.Leaf.{Leaf, says, wants, defines, stores, not_mine, Onward, goes, enters, TextEnd}
use Rattle.tcl_host.specs.declared.host.HostReply.{HostReply}
use Rattle.tcl_host.specs.declared.host.HostReply.TheVariants.{Done, Ask, Enter, Define, Store, NotMine, NoMemory}

-- What a reply to a command says, with the host's state after it.
abbrev pub Replies : {H : Type 0} → HostReply → H → Leaf H → Type 0
Replies (Done code result) host leaf = leaf ≡ says code result host
Replies (Ask question) host leaf = leaf ≡ wants question host
Replies (Enter pieces) host leaf = ⊥
Replies (Define def) host leaf = leaf ≡ defines def host
Replies (Store name value result) host leaf = leaf ≡ stores name value result host
Replies NotMine host leaf = leaf ≡ not_mine host
Replies NoMemory host leaf = Unit {0}

-- What a reply to an answer says.
abbrev pub RepliesTo : {H : Type 0} → HostReply → H → Onward H → Type 0
RepliesTo (Done code result) host onward = onward ≡ goes (says code result host)
RepliesTo (Ask question) host onward = onward ≡ goes (wants question host)
RepliesTo (Enter pieces) host onward = onward ≡ enters pieces host
RepliesTo (Define def) host onward = onward ≡ goes (defines def host)
RepliesTo (Store name value result) host onward = onward ≡ goes (stores name value result host)
RepliesTo NotMine host onward = onward ≡ goes (not_mine host)
RepliesTo NoMemory host onward = Unit {0}

-- What a reply to a text of a page says: it is an end.
abbrev pub Ends : {H : Type 0} → HostReply → H → TextEnd H → Type 0
Ends (Done code result) host end = end ≡ record { code = code; result = result; host = host }
Ends (Ask question) host end = ⊥
Ends (Enter pieces) host end = ⊥
Ends (Define def) host end = ⊥
Ends (Store name value result) host end = ⊥
Ends NotMine host end = ⊥
Ends NoMemory host end = Unit {0}
