-- The start of a source and its gaps are refused as bytes.
use Rattle.std.proofs.Common.{ℕ, zero, suc, ◌+◌, ◌-◌, Bool, List, [], ◌∷◌, ◌++◌, length, Option, None, Result, Ok, if◌then◌else◌}
use Rattle.std.specs.Prelude.{drop, take, slice_index, is_none, ◌==◌, ◌&&◌, nat_eq, codes}
use Rattle.std.specs.List.{starts_with}
use Rattle.bstr.specs.Utf8.{Decoded}
use Rattle.base_data.specs.Gives.{◌>>=◌}
use Rattle.base_data.specs.declared.fault.Fault.{Fault}
use Rattle.read_spelling.specs.Source.{characters}
use Rattle.read_spelling.specs.Whitespace.{is_delimited}
use Rattle.read_lexer.specs.Gap.{ends_there, rest_of_line, opens_comment, closes_comment, comment_from, atmosphere_end, gap_end}
use Rattle.read_lexer.specs.Repeat.{repeated}
use Rattle.read_lexer.specs.Start.{mark_end, is_run_line, start_of}
use Rattle.read_lexer.specs.declared.gap.Until.{Until}
use Rattle.read_lexer.specs.declared.gap.Until.TheVariants as until
use Rattle.law_kinds.specs.Kinds.{IsOfReading, Tells}
use Rattle.law_kinds.proofs.Tells.{tells-if, tells-then}

pub r-if : {A : Type 0} (b : Bool) (x y : Result A Fault) → Tells IsOfReading x → Tells IsOfReading y → Tells IsOfReading (if b then x else y)
r-if b x y h k = tells-if IsOfReading b x y h k

pub r-then : {A B : Type 0} (r : Result A Fault) (go : A → Result B Fault) → Tells IsOfReading r → ((x : A) → Tells IsOfReading (go x)) → Tells IsOfReading (r >>= go)
r-then r go h k = tells-then IsOfReading r go h k

line : (file : List ℕ) (u : Until) (at : ℕ) (ps : List Decoded) → Tells IsOfReading (rest_of_line file u at ps)
line file u at [] = tt
line file u at (p ∷ ps) = r-if (is_none p.char) _ _ tt (r-if (ends_there u p.char) _ _ tt (line file u (at + p.size) ps))

comment : (file opens : List ℕ) (last : Option ℕ) (at : ℕ) (ps : List Decoded) → Tells IsOfReading (comment_from file opens last at ps)
comment file opens last at [] = tt
comment file opens last at (p ∷ ps) =
    r-if (is_none p.char) _ _ tt
    (r-if (closes_comment last p.char) _ _ (r-if (length opens == 1) _ _ tt (comment file (take (length opens - 1) opens) None (at + p.size) ps))
    (r-if (opens_comment last p.char) _ _ (comment file (opens ++ (at - 1) ∷ []) None (at + p.size) ps) (comment file opens p.char (at + p.size) ps)))

atmosphere : (file bytes : List ℕ) (at : ℕ) → Tells IsOfReading (atmosphere_end file bytes at)
unfolding atmosphere_end
atmosphere file bytes at =
    r-if (slice_index bytes 0 == 0x3B) _ _ (line file until.LineOrParagraphEnd (at + 1) (characters (drop 1 bytes)))
    (r-if (starts_with nat_eq bytes (codes "#|")) _ _ (comment file (at ∷ []) None (at + 2) (characters (drop 2 bytes)))
    (r-if (starts_with nat_eq bytes (codes "#!r6rs") && is_delimited (characters (drop 6 bytes))) _ _ tt tt))

pub tells-repeated : (step : List ℕ → ℕ → Result ℕ Fault) → ((bytes : List ℕ) (at : ℕ) → Tells IsOfReading (step bytes at)) → (k : ℕ) (bytes : List ℕ) (at : ℕ) → Tells IsOfReading (repeated step k bytes at)
unfolding repeated
tells-repeated step one zero bytes at = tt
tells-repeated step one (suc k) bytes at =
    r-then (step bytes at) (λ to. if to == at then Ok at else repeated step k (drop (to - at) bytes) to) (one bytes at) (λ to. r-if (to == at) _ _ tt (tells-repeated step one k (drop (to - at) bytes) to))

pub tells-gap : (file bytes : List ℕ) (at : ℕ) → Tells IsOfReading (gap_end file bytes at)
tells-gap file bytes at = tells-repeated (atmosphere_end file) (atmosphere file) (suc (length bytes)) bytes at

pub tells-start : (file bytes : List ℕ) → Tells IsOfReading (start_of file bytes)
tells-start file bytes =
    r-if (is_run_line (drop (mark_end bytes) bytes)) _ _ (line file until.LineEnd (mark_end bytes) (characters (drop (mark_end bytes) bytes))) tt
