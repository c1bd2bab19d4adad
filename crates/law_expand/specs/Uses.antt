-- A use of a keyword is replaced by the form that its transformer gives (R6RS 9), and a record form by the definitions or the
-- expression that it stands for (libraries report 6.2).
use Rattle.std.specs.Prelude.{◌≡◌, ◌≤◌, ℕ, suc, true, List, None, Some}
use Rattle.base_data.specs.Act.{after}
use Rattle.base_data.specs.declared.name.Label.{Label}
use Rattle.base_data.specs.declared.span.Span.{Span}
use Rattle.stx_tree.specs.Tree.{Tree, atom, leaf, pair, vector}
use Rattle.core_language.specs.declared.core_form.CoreForm.{CoreForm}
use Rattle.core_language.specs.declared.record.CompiledLibrary.{CompiledLibrary}
use Rattle.core_shapes.specs.At.{place_of}
use Rattle.core_shapes.specs.Lists.{is_leaf}
use Rattle.expand_standing.specs.Standing.{standing_of, role_of}
use Rattle.expand_standing.specs.State.{State}
use Rattle.expand_standing.specs.declared.standing.Role.{Role}
use Rattle.expand_standing.specs.declared.standing.Role.TheVariants as role
use Rattle.expand_standing.specs.declared.standing.Standing.TheVariants as standing
use Rattle.expand_heads.specs.Depth.{most_round}
use Rattle.expand_heads.specs.Items.{kept_head}
use Rattle.expand_heads.specs.Kept.{with_head}
use Rattle.expand_heads.specs.declared.plan.KeywordUse.TheVariants as keyword_use
use Rattle.expand_heads.specs.declared.taken.BodyAt.{BodyAt}
use Rattle.expand_heads.specs.declared.taken.Taken.{Taken}
use Rattle.expand_forms.specs.Expression.{inside}
use Rattle.expand_forms.specs.ExpandUses.{next_form, at_use}
use Rattle.expand_forms.specs.Site.{site_at}

-- a form is a use of a keyword: it is an identifier that stands for the keyword, or a list that begins with one
abbrev pub IsUseOf : State → Label → Tree → Type 0
IsUseOf s l (atom r a) = ⊥
IsUseOf s l (leaf r x c) = standing_of s (leaf r x c) ≡ standing.Keyword l
IsUseOf s l (pair r a d) = (is_leaf a ≡ true) × (standing_of s a ≡ standing.Keyword l)
IsUseOf s l (vector r d) = ⊥

-- It expands to what that form expands to, which has the place of the use where it has none itself. One use less is left then.
abbrev pub UsesAreReplaced : Type 0
UsesAreReplaced = (records : List CompiledLibrary) (room left : ℕ) (place : Span) (level depth : ℕ) (t : Tree) (l : Label) (s : State)
    → IsUseOf s l t → s.uses_left ≡ suc left → depth ≤ most_round
    → (inside records (suc room)).form (site_at place level depth) t s
    ≡ after (next_form records left place t (keyword_use.Macro l) None s) ((inside records (suc room)).form (site_at (place_of t place) level depth))

-- the identifier of the keyword
abbrev pub head_of : Tree → Tree
head_of (atom r a) = atom r a
head_of (leaf r x c) = leaf r x c
head_of (pair r a d) = a
head_of (vector r d) = vector r d

abbrev pub with_head_of : State → Taken → Tree → Taken
with_head_of s done t = record done { kept = with_head done.kept (kept_head s (head_of t)) }

-- So it is in a body. There the form that comes has the body's frame, and what the keyword stood for is kept.
abbrev pub BodyUsesAreReplaced : Type 0
BodyUsesAreReplaced = (records : List CompiledLibrary) (room left : ℕ) (at : BodyAt) (depth : ℕ) (done : Taken) (t : Tree) (l : Label)
    (s : State) → IsUseOf s l t → s.uses_left ≡ suc left → depth ≤ most_round
    → (inside records (suc room)).item at depth done t s
    ≡ after (next_form records left at.place t (keyword_use.Macro l) (Some at.frame) s)
    ((inside records (suc room)).item (at_use at t) depth (with_head_of s done t))

-- a form is a use of a core form: a list that begins with an identifier that stands for it
abbrev pub IsFormOf : State → CoreForm → Tree → Type 0
IsFormOf s f (atom r a) = ⊥
IsFormOf s f (leaf r x c) = ⊥
IsFormOf s f (pair r a d) = (is_leaf a ≡ true) × (standing_of s a ≡ standing.Core f)
IsFormOf s f (vector r d) = ⊥

-- A record form that is an expression expands to what the form expands to that it gives.
abbrev pub RecordFormsAreReplaced : Type 0
RecordFormsAreReplaced = (records : List CompiledLibrary) (room left : ℕ) (place : Span) (level depth : ℕ) (t : Tree) (f : CoreForm)
    (s : State) → IsFormOf s f t → role_of f ≡ role.RecordValue → s.uses_left ≡ suc left → depth ≤ most_round
    → (inside records (suc room)).form (site_at place level depth) t s
    ≡ after (next_form records left place t (keyword_use.Record f) None s) ((inside records (suc room)).form (site_at (place_of t place) level depth))

abbrev pub IsOfRecords : Role → Type 0
IsOfRecords role.Record = Unit {0}
IsOfRecords role.RecordValue = Unit {0}
IsOfRecords _ = ⊥

-- So it is in a body, where a definition of a record type may stand, too.
abbrev pub BodyRecordFormsAreReplaced : Type 0
BodyRecordFormsAreReplaced = (records : List CompiledLibrary) (room left : ℕ) (at : BodyAt) (depth : ℕ) (done : Taken) (t : Tree)
    (f : CoreForm) (s : State) → IsFormOf s f t → IsOfRecords (role_of f) → s.uses_left ≡ suc left → depth ≤ most_round
    → (inside records (suc room)).item at depth done t s
    ≡ after (next_form records left at.place t (keyword_use.Record f) (Some at.frame) s)
    ((inside records (suc room)).item (at_use at t) depth (with_head_of s done t))
