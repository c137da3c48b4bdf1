-- The ASCII characters that markup, selectors and texts give a meaning to, by name.
use Rattle.std.specs.Prelude.{ℕ}

-- tab, U+0009
abbrev pub tab : ℕ
tab = 9

-- line feed, U+000A
abbrev pub line_feed : ℕ
line_feed = 10

-- form feed, U+000C
abbrev pub form_feed : ℕ
form_feed = 12

-- carriage return, U+000D
abbrev pub carriage_return : ℕ
carriage_return = 13

-- `b' '`
abbrev pub space : ℕ
space = 32

-- `b'!'`
abbrev pub exclamation_mark : ℕ
exclamation_mark = 33

-- `b'"'`
abbrev pub double_quote : ℕ
double_quote = 34

-- `b'#'`
abbrev pub number_sign : ℕ
number_sign = 35

-- `b'$'`
abbrev pub dollar_sign : ℕ
dollar_sign = 36

-- `b'&'`
abbrev pub ampersand : ℕ
ampersand = 38

-- `b'\''`
abbrev pub single_quote : ℕ
single_quote = 39

-- `b'('`
abbrev pub left_parenthesis : ℕ
left_parenthesis = 40

-- `b')'`
abbrev pub right_parenthesis : ℕ
right_parenthesis = 41

-- `b'*'`
abbrev pub asterisk : ℕ
asterisk = 42

-- `b'+'`
abbrev pub plus_sign : ℕ
plus_sign = 43

-- `b','`
abbrev pub comma : ℕ
comma = 44

-- `b'-'`
abbrev pub hyphen : ℕ
hyphen = 45

-- `b'.'`
abbrev pub dot : ℕ
dot = 46

-- `b'/'`
abbrev pub slash : ℕ
slash = 47

-- `b'0'`
abbrev pub digit_zero : ℕ
digit_zero = 48

-- `b'9'`
abbrev pub digit_nine : ℕ
digit_nine = 57

-- `b':'`
abbrev pub colon : ℕ
colon = 58

-- `b';'`
abbrev pub semicolon : ℕ
semicolon = 59

-- `b'<'`
abbrev pub less_than : ℕ
less_than = 60

-- `b'='`
abbrev pub equals_sign : ℕ
equals_sign = 61

-- `b'>'`
abbrev pub greater_than : ℕ
greater_than = 62

-- `b'?'`
abbrev pub question_mark : ℕ
question_mark = 63

-- `b'@'`
abbrev pub at_sign : ℕ
at_sign = 64

-- `b'A'`
abbrev pub upper_a : ℕ
upper_a = 65

-- `b'D'`
abbrev pub upper_d : ℕ
upper_d = 68

-- `b'E'`
abbrev pub upper_e : ℕ
upper_e = 69

-- `b'F'`
abbrev pub upper_f : ℕ
upper_f = 70

-- `b'I'`
abbrev pub upper_i : ℕ
upper_i = 73

-- `b'N'`
abbrev pub upper_n : ℕ
upper_n = 78

-- `b'O'`
abbrev pub upper_o : ℕ
upper_o = 79

-- `b'S'`
abbrev pub upper_s : ℕ
upper_s = 83

-- `b'V'`
abbrev pub upper_v : ℕ
upper_v = 86

-- `b'X'`
abbrev pub upper_x : ℕ
upper_x = 88

-- `b'Z'`
abbrev pub upper_z : ℕ
upper_z = 90

-- `b'['`
abbrev pub left_bracket : ℕ
left_bracket = 91

-- `b'\\'`
abbrev pub backslash : ℕ
backslash = 92

-- `b']'`
abbrev pub right_bracket : ℕ
right_bracket = 93

-- `b'^'`
abbrev pub caret : ℕ
caret = 94

-- `b'_'`
abbrev pub underscore : ℕ
underscore = 95

-- `b'`'`
abbrev pub backtick : ℕ
backtick = 96

-- `b'a'`
abbrev pub lower_a : ℕ
lower_a = 97

-- `b'd'`
abbrev pub lower_d : ℕ
lower_d = 100

-- `b'e'`
abbrev pub lower_e : ℕ
lower_e = 101

-- `b'f'`
abbrev pub lower_f : ℕ
lower_f = 102

-- `b'i'`
abbrev pub lower_i : ℕ
lower_i = 105

-- `b'n'`
abbrev pub lower_n : ℕ
lower_n = 110

-- `b'o'`
abbrev pub lower_o : ℕ
lower_o = 111

-- `b's'`
abbrev pub lower_s : ℕ
lower_s = 115

-- `b'v'`
abbrev pub lower_v : ℕ
lower_v = 118

-- `b'x'`
abbrev pub lower_x : ℕ
lower_x = 120

-- `b'z'`
abbrev pub lower_z : ℕ
lower_z = 122

-- `b'|'`
abbrev pub vertical_bar : ℕ
vertical_bar = 124

-- `b'~'`
abbrev pub tilde : ℕ
tilde = 126

-- delete, U+007F
abbrev pub delete : ℕ
delete = 127
