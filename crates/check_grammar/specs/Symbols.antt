-- Symbols in core text, as identifiers of ASCII (R6RS 4.2.4).
use Rattle.std.specs.Prelude.{ℕ, Bool, List, [], ◌∷◌, ◌++◌, ◌==◌, ◌||◌, nat_eq, if◌then◌else◌, codes, encode_utf8}
use Rattle.std.specs.Char.{is_ascii_alphabetic, is_ascii_digit}
use Rattle.std.specs.Cmp.Lexicographic.{pointwise}
use Rattle.std.specs.List.{flat_map, list_any, starts_with}
use Rattle.std.specs.Str.{chars}
use Rattle.check_grammar.specs.Characters.{escape_text}

abbrev pub is_initial_sign : ℕ → Bool
is_initial_sign c = list_any (λ sign. c == sign) (codes "!$%&*/:<=>?^_~")

-- with which an identifier may begin
abbrev pub is_initial : ℕ → Bool
is_initial c = is_ascii_alphabetic c || is_initial_sign c

abbrev pub is_later_sign : ℕ → Bool
is_later_sign c = list_any (λ sign. c == sign) (codes "+-.@")

-- with which it may go on
abbrev pub is_later : ℕ → Bool
is_later c = is_initial c || is_ascii_digit c || is_later_sign c

abbrev pub initial_text : ℕ → List ℕ
initial_text c = if is_initial c then encode_utf8 c else escape_text c

abbrev pub later_character : ℕ → List ℕ
later_character c = if is_later c then encode_utf8 c else escape_text c

abbrev pub later_text : List ℕ → List ℕ
later_text cs = flat_map later_character cs

abbrev pub begun_text : List ℕ → List ℕ
begun_text [] = []
begun_text (c ∷ cs) = initial_text c ++ later_text cs

-- `+`, `-`, `...`, and what begins with `->`
abbrev pub is_peculiar : List ℕ → Bool
is_peculiar text = pointwise nat_eq text (codes "+") || pointwise nat_eq text (codes "-") || pointwise nat_eq text (codes "...")
    || starts_with nat_eq text (codes "->")

abbrev pub symbol_text : List ℕ → List ℕ
symbol_text text = if is_peculiar text then later_text (chars text) else begun_text (chars text)
