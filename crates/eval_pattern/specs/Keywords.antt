-- The identifiers that have a meaning of their own in patterns and templates.
use Rattle.std.specs.Prelude.{ℕ, suc, Bool, false, ◌&&◌, nat_eq, List, [], ◌∷◌, Option, None, Some, if◌then◌else◌}
use Rattle.base_data.specs.Same.{same_library}
use Rattle.base_data.specs.declared.library.LibName.TheVariants as library
use Rattle.base_data.specs.declared.name.Label.{Label}
use Rattle.stx_tree.specs.Tree.{Tree}
use Rattle.stx_frames.specs.Scope.{Scope}
use Rattle.stx_scope.specs.Stands.{stands}
use Rattle.core_language.specs.CoreForm.{number}
use Rattle.core_language.specs.declared.core_form.CoreForm.{CoreForm}
use Rattle.core_language.specs.declared.core_form.CoreForm.TheVariants as form

-- whether what an identifier stands for is this keyword
abbrev pub is_form : CoreForm → Option Label → Bool
is_form f None = false
is_form f (Some l) = nat_eq l.0.number (number f) && same_library l.0.library library.Core

-- what is no identifier stands for nothing
abbrev pub is_ellipsis : Scope → Tree → Bool
is_ellipsis fs t = is_form form.Ellipsis (stands fs t)

-- how many ellipses these begin with
abbrev pub leading : Scope → List Tree → ℕ
leading fs [] = 0
leading fs (t ∷ ts) = if is_ellipsis fs t then suc (leading fs ts) else 0

-- the ellipsis that these begin with
abbrev pub first_ellipsis : Scope → List Tree → Option Tree
first_ellipsis fs [] = None
first_ellipsis fs (t ∷ ts) = if is_ellipsis fs t then Some t else None
