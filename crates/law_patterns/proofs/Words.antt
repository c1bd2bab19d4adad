-- What the identifiers of patterns and templates stand for.
use Rattle.std.proofs.Common.{◌≡◌, Bool, true, false, Option, None, Some, refl, ap, ◌∙◌}
use Rattle.std.specs.Prelude.{nat_eq}
use Rattle.std.specs.Cmp.{unsigned_Decides, first_so, second_so}
use Rattle.base_data.specs.Same.{same_library, same_library_decides}
use Rattle.base_data.specs.declared.library.LibName.TheVariants as library
use Rattle.base_data.specs.declared.name.Label.{Label}
use Rattle.stx_tree.specs.Tree.{Tree, atom, leaf, pair, vector}
use Rattle.stx_frames.specs.Scope.{Scope}
use Rattle.stx_scope.specs.Stands.{stands}
use Rattle.core_language.specs.CoreForm.{number}
use Rattle.core_language.specs.declared.core_form.CoreForm.{CoreForm}
use Rattle.core_language.specs.declared.core_form.CoreForm.TheVariants as form
use Rattle.core_shapes.specs.Lists.{is_leaf}
use Rattle.law_shapes.specs.Grammar.{IsId}
use Rattle.law_shapes.specs.Grammar as g
use Rattle.law_shapes.specs.Records.{keyword_label, IsKeywordIdentifier}
use Rattle.eval_pattern.specs.Keywords.{is_form, is_ellipsis}

pub an-id : (t : Tree) → is_leaf t ≡ true → IsId t
an-id (atom s a) h = absurd (cc)
an-id (leaf s x c) h = g.id
an-id (pair s a d) h = absurd (cc)
an-id (vector s d) h = absurd (cc)

pub id-is : (t : Tree) → IsId t → is_leaf t ≡ true
id-is _ g.id = refl

-- what is no identifier stands for nothing
pub no-word : (fs : Scope) (t : Tree) (l : Label) → stands fs t ≡ Some l → IsId t
no-word fs (atom s a) l e = absurd (cc)
no-word fs (leaf s x c) l e = g.id
no-word fs (pair s a d) l e = absurd (cc)
no-word fs (vector s d) l e = absurd (cc)

form-label : (f : CoreForm) (l : Label) → is_form f (Some l) ≡ true → l ≡ keyword_label f
form-label f l h =
    let n = (unsigned_Decides l.0.number (number f)).0 (first_so (nat_eq l.0.number (number f)) (same_library l.0.library library.Core) h) in
    let k = (same_library_decides l.0.library library.Core).0 (second_so (nat_eq l.0.number (number f)) (same_library l.0.library library.Core) h) in
    λ i. record { 0 = record { library = k i; number = n i } }

pub form-is : (fs : Scope) (f : CoreForm) (t : Tree) → is_form f (stands fs t) ≡ true → IsKeywordIdentifier fs f t
form-is fs f t h = by (stands fs t) refl h
  where
    by : (o : Option Label) → stands fs t ≡ o → is_form f o ≡ true → IsKeywordIdentifier fs f t
    by None e k = absurd (cc)
    by (Some l) e k = record { is_id = no-word fs t l e; label = e ∙ ap Some (form-label f l k) }

-- the tests of the two words, where it is known what an identifier stands for
pub ellipsis-is : (fs : Scope) (t : Tree) → IsKeywordIdentifier fs form.Ellipsis t → is_ellipsis fs t ≡ true
ellipsis-is fs t w = ap (is_form form.Ellipsis) w.label

pub underscore-is : (fs : Scope) (t : Tree) → IsKeywordIdentifier fs form.Underscore t → is_form form.Underscore (stands fs t) ≡ true
underscore-is fs t w = ap (is_form form.Underscore) w.label

pub no-ellipsis : (fs : Scope) (t : Tree) → IsKeywordIdentifier fs form.Underscore t → is_ellipsis fs t ≡ false
no-ellipsis fs t w = ap (is_form form.Ellipsis) w.label

pub untold : (b : Bool) → (b ≡ true → ⊥) → b ≡ false
untold true h = absurd (h refl)
untold false h = refl
