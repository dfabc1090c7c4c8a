-- Bytes by their names, and kinds of bytes.
use Rattle.std.specs.Prelude.{ℕ, Bool, ◌&&◌, ◌||◌, ◌==◌, nat_le}
use Rattle.txt_core.specs.Names.{Bytes}
use Rattle.txt_core.specs.Texts.{begins_with}

abbrev pub tab : ℕ
tab = 9

abbrev pub newline : ℕ
newline = 10

abbrev pub vertical_tab : ℕ
vertical_tab = 11

abbrev pub form_feed : ℕ
form_feed = 12

abbrev pub carriage_return : ℕ
carriage_return = 13

abbrev pub space : ℕ
space = 32

-- "
abbrev pub quote_mark : ℕ
quote_mark = 34

-- #
abbrev pub hash : ℕ
hash = 35

-- $
abbrev pub dollar : ℕ
dollar = 36

-- ( and )
abbrev pub left_parenthesis : ℕ
left_parenthesis = 40

abbrev pub right_parenthesis : ℕ
right_parenthesis = 41

-- ;
abbrev pub semicolon : ℕ
semicolon = 59

-- [ and ]
abbrev pub left_bracket : ℕ
left_bracket = 91

abbrev pub right_bracket : ℕ
right_bracket = 93

-- \
abbrev pub backslash : ℕ
backslash = 92

-- _
abbrev pub underscore : ℕ
underscore = 95

-- { and }
abbrev pub left_brace : ℕ
left_brace = 123

abbrev pub right_brace : ℕ
right_brace = 125

-- A blank is a space, a tab, a carriage return, a vertical tab or a form feed.
abbrev pub is_blank : ℕ → Bool
is_blank b = (b == space) || (b == tab) || (b == carriage_return) || (b == vertical_tab) || (b == form_feed)

-- A newline or a semicolon ends a command.
abbrev pub ends_command : ℕ → Bool
ends_command b = (b == newline) || (b == semicolon)

-- A name of a variable is made of ASCII letters, digits and underscores.
abbrev pub is_name : ℕ → Bool
is_name b = (nat_le 97 b && nat_le b 122) || (nat_le 65 b && nat_le b 90) || (nat_le 48 b && nat_le b 57) || (b == underscore)

-- Backslash-newline: the byte is a backslash, and a newline stands behind it.
abbrev pub joins_lines : ℕ → Bytes → Bool
joins_lines b t = (b == backslash) && begins_with newline t
