-- Words and the keywords that make them.
use Rattle.std.proofs.Common.{◌≡◌, Bool, true, false, Option, None, Some, refl, ap, sym, subst, ◌∙◌}
use Rattle.std.specs.Prelude.{nat_eq, if◌then◌else◌}
use Rattle.std.specs.Cmp.{unsigned_Decides}
use Rattle.base_data.specs.Same.{same_library, same_library_decides}
use Rattle.base_data.specs.declared.library.LibName.TheVariants as library
use Rattle.base_data.specs.declared.name.Label.{Label}
use Rattle.stx_tree.specs.Tree.{Tree}
use Rattle.stx_frames.specs.Scope.{Scope}
use Rattle.stx_scope.specs.Stands.{stands}
use Rattle.core_language.specs.CoreForm.{number}
use Rattle.core_language.specs.declared.core_form.CoreForm.{CoreForm}
use Rattle.core_language.specs.declared.core_form.CoreForm.TheVariants as form
use Rattle.core_shapes.specs.Lists.{is_leaf}
use Rattle.core_quasi.specs.Words.{quote_word, syntax_word, numbered, labelled, word_of}
use Rattle.core_quasi.specs.declared.word.Family.{Family}
use Rattle.core_quasi.specs.declared.word.Family.TheVariants as family
use Rattle.core_quasi.specs.declared.word.QuasiWord.{QuasiWord}
use Rattle.core_quasi.specs.declared.word.QuasiWord.TheVariants as word
use Rattle.law_quasi_code.specs.Keywords.{keyword, NamesKeyword, IsQuasiWord, quasiquote, unquote, unquote_splicing, quasisyntax, unsyntax, unsyntax_splicing, ellipsis, HasKeyword}

labelled_is : (f : Family) (c : CoreForm) (x : QuasiWord) → IsQuasiWord f c x → labelled f (Some (keyword c)) ≡ x
labelled_is f c x quasiquote = refl
labelled_is f c x unquote = refl
labelled_is f c x unquote_splicing = refl
labelled_is f c x quasisyntax = refl
labelled_is f c x unsyntax = refl
labelled_is f c x unsyntax_splicing = refl
labelled_is f c x ellipsis = refl

pub word_is : (f : Family) (fs : Scope) (t : Tree) (c : CoreForm) (x : QuasiWord) → IsQuasiWord f c x → NamesKeyword fs c t → word_of f fs t ≡ x
word_is f fs t c x k n = (λ i. if n.identifier i then labelled f (n.bound i) else word.Plain) ∙ labelled_is f c x k

abbrev pub NotPlain : QuasiWord → Type 0
NotPlain x = x ≡ word.Plain → ⊥

module _ (fs : Scope) (t : Tree) (is : is_leaf t ≡ true) (l : Label) (bound : stands fs t ≡ Some l) (core : l.0.library ≡ library.Core) where
  by : (f : Family) (c : CoreForm) (x : QuasiWord) → IsQuasiWord f c x → l.0.number ≡ number c → HasKeyword fs f t x
  by f c x k e = record {
    form = c;
    is = k;
    names = record { identifier = is; bound = bound ∙ ap Some (λ i. record { 0 = record { library = core i; number = e i } }) };
  }

  step : (f : Family) (c : CoreForm) (y rest x : QuasiWord) → IsQuasiWord f c y → (rest ≡ x → HasKeyword fs f t x) → (if nat_eq l.0.number (number c) then y else rest) ≡ x → HasKeyword fs f t x
  step f c y rest x k next e = go (nat_eq l.0.number (number c)) refl e
    where
      go : (b : Bool) → nat_eq l.0.number (number c) ≡ b → (if b then y else rest) ≡ x → HasKeyword fs f t x
      go true h g = subst (HasKeyword fs f t) g (by f c y k ((unsigned_Decides l.0.number (number c)).0 h))
      go false h g = next g

  quote_from : (x : QuasiWord) → NotPlain x → quote_word l.0.number ≡ x → HasKeyword fs family.Quote t x
  quote_from x some e =
      step family.Quote form.Quasiquote word.Raise
      (if nat_eq l.0.number (number form.Unquote) then word.Lower else if nat_eq l.0.number (number form.UnquoteSplicing) then word.Splice else word.Plain) x quasiquote
      (λ e. step family.Quote form.Unquote word.Lower (if nat_eq l.0.number (number form.UnquoteSplicing) then word.Splice else word.Plain) x unquote
      (λ e. step family.Quote form.UnquoteSplicing word.Splice word.Plain x unquote_splicing (λ e. absurd (some (sym e))) e) e) e

  syntax_from : (x : QuasiWord) → NotPlain x → syntax_word l.0.number ≡ x → HasKeyword fs family.Syntax t x
  syntax_from x some e =
      step family.Syntax form.Quasisyntax word.Raise
      (if nat_eq l.0.number (number form.Unsyntax) then word.Lower else if nat_eq l.0.number (number form.UnsyntaxSplicing) then word.Splice
      else if nat_eq l.0.number (number form.Ellipsis) then word.Escape else word.Plain) x quasisyntax
      (λ e. step family.Syntax form.Unsyntax word.Lower
      (if nat_eq l.0.number (number form.UnsyntaxSplicing) then word.Splice else if nat_eq l.0.number (number form.Ellipsis) then word.Escape else word.Plain) x unsyntax
      (λ e. step family.Syntax form.UnsyntaxSplicing word.Splice (if nat_eq l.0.number (number form.Ellipsis) then word.Escape else word.Plain) x unsyntax_splicing
      (λ e. step family.Syntax form.Ellipsis word.Escape word.Plain x ellipsis (λ e. absurd (some (sym e))) e) e) e) e

  family_from : (f : Family) (x : QuasiWord) → NotPlain x → numbered f l.0.number ≡ x → HasKeyword fs f t x
  family_from family.Quote x some e = quote_from x some e
  family_from family.Syntax x some e = syntax_from x some e

module _ (fs : Scope) (f : Family) (t : Tree) (x : QuasiWord) (some : NotPlain x) where
  from_library : (l : Label) → is_leaf t ≡ true → stands fs t ≡ Some l → (b : Bool) → same_library l.0.library library.Core ≡ b → (if b then numbered f l.0.number else word.Plain) ≡ x → HasKeyword fs f t x
  from_library l is bound true h e = family_from fs t is l bound ((same_library_decides l.0.library library.Core).0 h) f x some e
  from_library l is bound false h e = absurd (some (sym e))

  from_label : is_leaf t ≡ true → (o : Option Label) → stands fs t ≡ o → labelled f o ≡ x → HasKeyword fs f t x
  from_label is None bound e = absurd (some (sym e))
  from_label is (Some l) bound e = from_library l is bound (same_library l.0.library library.Core) refl e

  from_leaf : (b : Bool) → is_leaf t ≡ b → (if b then labelled f (stands fs t) else word.Plain) ≡ x → HasKeyword fs f t x
  from_leaf true is e = from_label is (stands fs t) refl e
  from_leaf false is e = absurd (some (sym e))

  pub keyword_is : word_of f fs t ≡ x → HasKeyword fs f t x
  keyword_is e = from_leaf (is_leaf t) refl e
