-- What an identifier stands for.
use Rattle.std.specs.Prelude.{Bool, true, false, nat_lt, Option, None, Some, if◌then◌else◌}
use Rattle.base_data.specs.Op.{is_keyword, name_count}
use Rattle.base_data.specs.Same.{same_library}
use Rattle.base_data.specs.declared.library.LibName.TheVariants as library
use Rattle.base_data.specs.declared.name.Label.{Label}
use Rattle.stx_tree.specs.Tree.{Tree}
use Rattle.stx_scope.specs.Stands.{stands}
use Rattle.core_language.specs.CoreForm.{at_number}
use Rattle.core_language.specs.declared.binding.Binding.{Binding}
use Rattle.core_language.specs.declared.binding.Binding.TheVariants as binding
use Rattle.core_language.specs.declared.binding.VarInfo.{VarInfo}
use Rattle.core_language.specs.declared.core_form.CoreForm.{CoreForm}
use Rattle.core_language.specs.declared.core_form.CoreForm.TheVariants as core_forms
use Rattle.core_language.specs.Bindings.{bound_to}
use Rattle.expand_standing.specs.State.{State}
use Rattle.expand_standing.specs.declared.standing.Standing.{Standing}
use Rattle.expand_standing.specs.declared.standing.Standing.TheVariants as standing
use Rattle.expand_standing.specs.declared.standing.Role.{Role}
use Rattle.expand_standing.specs.declared.standing.Role.TheVariants as role

abbrev pub known_as : State → Label → VarInfo → Standing
known_as s l v = standing.Variable (record { label = l; own = same_library l.0.library s.library; level = v.level; top = v.top; assigned = v.assigned })

-- a label without a binding stands for nothing
abbrev pub bound_as : State → Label → Option Binding → Standing
bound_as s l None = standing.Nothing
bound_as s l (Some (binding.Variable v)) = known_as s l v
bound_as s l (Some (binding.PatternVariable level depth)) = standing.PatternVariable
bound_as s l (Some (binding.Macro level expression)) = standing.Keyword l
bound_as s l (Some (binding.Core f)) = standing.Core f
bound_as s l (Some (binding.Primitive op)) = standing.Primitive op

abbrev pub given_as : Label → Option CoreForm → Standing
given_as l (Some f) = standing.Core f
given_as l None = if is_keyword l.0.number then standing.Nothing else standing.Primitive (record { 0 = l.0.number })

-- the names that this implementation gives, by number; a name that the derived library defines has another label
abbrev pub numbered_as : Label → Standing
numbered_as l = if nat_lt l.0.number name_count then given_as l (at_number l.0.number) else standing.Nothing

unfoldable pub label_standing : State → Label → Standing
label_standing s l = if same_library l.0.library library.Core then numbered_as l else bound_as s l (bound_to s.bindings l)

abbrev pub standing_by : State → Option Label → Standing
standing_by s None = standing.Nothing
standing_by s (Some l) = label_standing s l

-- what an identifier stands for
unfoldable pub standing_of : State → Tree → Standing
standing_of s id = standing_by s (stands s.frames id)

abbrev pub is_keyword_standing : Standing → Bool
is_keyword_standing standing.Nothing = false
is_keyword_standing (standing.Variable v) = false
is_keyword_standing standing.PatternVariable = false
is_keyword_standing (standing.Primitive op) = false
is_keyword_standing (standing.Core f) = true
is_keyword_standing (standing.Keyword l) = true

-- what forms of a keyword do
unfoldable pub role_of : CoreForm → Role
role_of core_forms.Quote = role.Expression
role_of core_forms.Lambda = role.Expression
role_of core_forms.CaseLambda = role.Expression
role_of core_forms.If = role.Expression
role_of core_forms.Set = role.Assignment
role_of core_forms.Begin = role.Sequence
role_of core_forms.Letrec = role.Expression
role_of core_forms.LetrecStar = role.Expression
role_of core_forms.Define = role.Definition
role_of core_forms.DefineSyntax = role.Keywords
role_of core_forms.LetSyntax = role.Keywords
role_of core_forms.LetrecSyntax = role.Keywords
role_of core_forms.Quasiquote = role.Expression
role_of core_forms.Syntax = role.Expression
role_of core_forms.Quasisyntax = role.Expression
role_of core_forms.SyntaxCase = role.Expression
role_of core_forms.Else = role.Auxiliary
role_of core_forms.Arrow = role.Auxiliary
role_of core_forms.Ellipsis = role.Auxiliary
role_of core_forms.Underscore = role.Auxiliary
role_of core_forms.Unquote = role.Auxiliary
role_of core_forms.UnquoteSplicing = role.Auxiliary
role_of core_forms.Unsyntax = role.Auxiliary
role_of core_forms.UnsyntaxSplicing = role.Auxiliary
role_of core_forms.DefineRecordType = role.Record
role_of core_forms.RecordTypeDescriptor = role.RecordValue
role_of core_forms.RecordConstructorDescriptor = role.RecordValue
role_of core_forms.Fields = role.Auxiliary
role_of core_forms.Mutable = role.Auxiliary
role_of core_forms.Immutable = role.Auxiliary
role_of core_forms.Parent = role.Auxiliary
role_of core_forms.Protocol = role.Auxiliary
role_of core_forms.Sealed = role.Auxiliary
role_of core_forms.Opaque = role.Auxiliary
role_of core_forms.Nongenerative = role.Auxiliary
role_of core_forms.ParentRtd = role.Auxiliary
