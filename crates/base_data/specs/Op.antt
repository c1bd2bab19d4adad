-- The names that this implementation gives.
use Rattle.std.specs.Prelude.{ℕ, ◌+◌, Bool, ◌&&◌, ◌||◌, nat_le, ◌==◌, List, [], ◌∷◌, map, Option, Some, None, if◌then◌else◌}
use Rattle.std.specs.Borrow.{Bor}
use Rattle.std.specs.Cmp.Lexicographic.{pointwise}
use Rattle.std.proofs.Common.{get_or}
use Rattle.base_data.specs.OpNames.{op_names}
use Rattle.base_data.specs.declared.op.TheConstants.{NAME_COUNT}
use Rattle.base_data.specs.declared.op.names.TheConstants as names

abbrev pub now_all : List (Bor (List ℕ)) → List (List ℕ)
now_all texts = map (λ (text : Bor (List ℕ)). text.now) texts

-- how many names there are: an op is the number of one
abbrev pub name_count : ℕ
name_count = NAME_COUNT

-- the text at a place of a table, and no text past the last
abbrev pub text_at : List (Bor (List ℕ)) → ℕ → List ℕ
text_at texts n = get_or (now_all texts) n []

-- the report name of an op, and no text past the last
abbrev pub op_text : ℕ → List ℕ
op_text n = get_or op_names n []

-- the first place of a text in a table that begins at a place
abbrev pub place_from : ℕ → List ℕ → List (List ℕ) → Option ℕ
place_from place text [] = None
place_from place text (t ∷ ts) = if pointwise ◌==◌ t text then Some place else place_from (place + 1) text ts

-- the op of a report name
abbrev pub op_named : List ℕ → Option ℕ
op_named text = place_from 0 text op_names

-- `quote` to `identifier-syntax`, `when` to `case-lambda`, `syntax-case`, `syntax`, `with-syntax` to
-- `unsyntax-splicing`, and `define-record-type` to `parent-rtd`
abbrev pub is_keyword : ℕ → Bool
is_keyword n =
    nat_le n names.IDENTIFIER_SYNTAX || (nat_le names.WHEN n && nat_le n names.CASE_LAMBDA) || n == names.SYNTAX_CASE || n == names.SYNTAX
    || (nat_le names.WITH_SYNTAX n && nat_le n names.UNSYNTAX_SPLICING) || (nat_le names.DEFINE_RECORD_TYPE n && nat_le n names.PARENT_RTD)
