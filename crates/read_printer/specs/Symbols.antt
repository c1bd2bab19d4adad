-- Symbols as they are printed, in ASCII (R6RS 4.2.4).
use Rattle.std.specs.Prelude.{ℕ, Bool, List, [], ◌∷◌, ◌++◌, ◌==◌, ◌||◌, nat_eq, if◌then◌else◌, codes, encode_utf8}
use Rattle.std.specs.Char.{is_ascii_alphabetic, is_ascii_digit}
use Rattle.std.specs.Cmp.Lexicographic.{pointwise}
use Rattle.std.specs.List.{flat_map, list_any, starts_with}
use Rattle.std.specs.Str.{chars}
use Rattle.read_printer.specs.Escapes.{escape_text}

-- letters and ! $ % & * / : < = > ? ^ _ ~
abbrev pub is_initial : ℕ → Bool
is_initial c = is_ascii_alphabetic c || list_any (λ sign. c == sign) (codes "!$%&*/:<=>?^_~")

-- initials, digits and + - . @
abbrev pub is_subsequent : ℕ → Bool
is_subsequent c = is_initial c || is_ascii_digit c || list_any (λ sign. c == sign) (codes "+-.@")

abbrev pub initial_text : ℕ → List ℕ
initial_text c = if is_initial c then encode_utf8 c else escape_text c

abbrev pub subsequent_text : ℕ → List ℕ
subsequent_text c = if is_subsequent c then encode_utf8 c else escape_text c

abbrev pub subsequents_text : List ℕ → List ℕ
subsequents_text cs = flat_map subsequent_text cs

-- the text of a symbol of these characters
abbrev pub name_text : List ℕ → List ℕ
name_text [] = []
name_text (c ∷ cs) = initial_text c ++ subsequents_text cs

-- `+`, `-` and `...`, and what begins with `->`, are subsequents from their first character on
abbrev pub is_peculiar : List ℕ → Bool
is_peculiar text = pointwise nat_eq text (codes "+") || pointwise nat_eq text (codes "-") || pointwise nat_eq text (codes "...")
    || starts_with nat_eq text (codes "->")

abbrev pub symbol_text : List ℕ → List ℕ
symbol_text text = if is_peculiar text then subsequents_text (chars text) else name_text (chars text)
