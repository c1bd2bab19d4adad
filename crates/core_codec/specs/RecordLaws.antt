-- What is decoded was encoded so, and what is encoded is decoded.
use Rattle.std.proofs.Common.{◌≡◌, ℕ, zero, suc, ◌+◌, Bool, true, List, [], ◌∷◌, Option, Some, refl, sym, ap, ◌∙◌, arith, inl, inr}
use Rattle.std.specs.Prelude.{◌==◌, ◌&&◌, slice_get}
use Rattle.std.proofs.lemmas.Bool.{eqb-true}
use Rattle.base_bytes.specs.Laws.{Lawful, IsBytes, byte-lawful, found-lawful, both, mapped-lawful, then-lawful, text-lawful, u32-lawful, u64-lawful, bool-lawful, tagged-lawful, or-lawful, last-lawful, listed-lawful, optional-lawful, checked-lawful, all_takes, all_again}
use Rattle.base_bytes.specs.NameLaws.{library-lawful, label-lawful, imported_name-lawful, op-lawful}
use Rattle.core_codec.specs.CodeLaws.{core-lawful}
use Rattle.core_codec.specs.ContextLaws.{frame_row-lawful}
use Rattle.core_codec.specs.Records.{code, core_form, variable, LineCases, line_to, line_from, line, BindingCases, binding_to, binding_from, binding, bindings_rise, rows_rise, record_to, record_from, lib_record, encode, decode, has_spelling}
use Rattle.core_language.specs.declared.binding.Binding.{Binding}
use Rattle.core_language.specs.declared.binding.Binding.TheVariants as b
use Rattle.core_language.specs.CoreForm.{place, at_place}
use Rattle.core_language.specs.declared.core_form.CoreForm.{CoreForm}
use Rattle.core_language.specs.declared.core_form.CoreForm.TheVariants as form
use Rattle.core_language.specs.declared.core_form.TheConstants.{CORE_FORMS}
use Rattle.core_language.specs.declared.record.CompiledLibrary.{CompiledLibrary}
use Rattle.core_language.specs.declared.record.Line.{Line}
use Rattle.core_language.specs.declared.record.Line.TheVariants as l

code-lawful : Lawful code
code-lawful = core-lawful 8193

variable-lawful : Lawful variable
unfolding variable
variable-lawful = mapped-lawful _ _ (λ p e. refl) (λ s. refl)
    (then-lawful text-lawful (then-lawful (optional-lawful u64-lawful) (then-lawful u32-lawful (then-lawful bool-lawful bool-lawful))))

line_there : (q : LineCases) → line_to (line_from q) ≡ q
line_there (inl p) = refl
line_there (inr c) = refl

line_back : (x : Line) → line_from (line_to x) ≡ x
line_back (l.Define x c) = refl
line_back (l.Expr c) = refl

line-lawful : Lawful line
unfolding line
line-lawful = mapped-lawful line_to line_from (λ q e. line_there q) line_back
    (tagged-lawful (or-lawful (then-lawful label-lawful code-lawful) (last-lawful code-lawful)))

binding_there : (q : BindingCases) → binding_to (binding_from q) ≡ q
binding_there (inl v) = refl
binding_there (inr (inl p)) = refl
binding_there (inr (inr (inl p))) = refl
binding_there (inr (inr (inr (inl f)))) = refl
binding_there (inr (inr (inr (inr o)))) = refl

binding_back : (x : Binding) → binding_from (binding_to x) ≡ x
binding_back (b.Variable v) = refl
binding_back (b.PatternVariable level depth) = refl
binding_back (b.Macro level expression) = refl
binding_back (b.Core f) = refl
binding_back (b.Primitive o) = refl

-- these forms have the places from this one on
abbrev stand_from : ℕ → List CoreForm → Bool
stand_from k [] = true
stand_from k (f ∷ fs) = (place f == k) && stand_from (suc k) fs

placed_there : (k : ℕ) (fs : List CoreForm) (n : ℕ) (f : CoreForm) → stand_from k fs ≡ true → slice_get fs n ≡ Some f → place f ≡ k + n
placed_there k [] n f h e = absurd cc
placed_there k (g ∷ fs) zero f h e =
    let one : place g ≡ k = eqb-true _ _ (both (place g == k) (stand_from (suc k) fs) h).0 in
    let same : g ≡ f = form_is g f e in
    omega (arith, sym (ap place same) ∙ one)
  where
    form_is : (a b : CoreForm) → Option.Some a ≡ Option.Some b → a ≡ b
    form_is a b q = cc
placed_there k (g ∷ fs) (suc n) f h e = omega (arith, placed_there (suc k) fs n f (both (place g == k) (stand_from (suc k) fs) h).1 e)

place_there : (n : ℕ) (f : CoreForm) → at_place n ≡ Some f → place f ≡ n
place_there n f e = omega (arith, placed_there 0 CORE_FORMS n f refl e)

place_back : (f : CoreForm) → at_place (place f) ≡ Some f
place_back form.Quote = refl
place_back form.Lambda = refl
place_back form.CaseLambda = refl
place_back form.If = refl
place_back form.Set = refl
place_back form.Begin = refl
place_back form.Letrec = refl
place_back form.LetrecStar = refl
place_back form.Define = refl
place_back form.DefineSyntax = refl
place_back form.LetSyntax = refl
place_back form.LetrecSyntax = refl
place_back form.Quasiquote = refl
place_back form.Syntax = refl
place_back form.Quasisyntax = refl
place_back form.SyntaxCase = refl
place_back form.Else = refl
place_back form.Arrow = refl
place_back form.Ellipsis = refl
place_back form.Underscore = refl
place_back form.Unquote = refl
place_back form.UnquoteSplicing = refl
place_back form.Unsyntax = refl
place_back form.UnsyntaxSplicing = refl
place_back form.DefineRecordType = refl
place_back form.RecordTypeDescriptor = refl
place_back form.RecordConstructorDescriptor = refl
place_back form.Fields = refl
place_back form.Mutable = refl
place_back form.Immutable = refl
place_back form.Parent = refl
place_back form.Protocol = refl
place_back form.Sealed = refl
place_back form.Opaque = refl
place_back form.Nongenerative = refl
place_back form.ParentRtd = refl

core_form-lawful : Lawful core_form
unfolding core_form
core_form-lawful = found-lawful place at_place place_there place_back byte-lawful

binding-lawful : Lawful binding
unfolding binding
binding-lawful = mapped-lawful binding_to binding_from (λ q e. binding_there q) binding_back
    (tagged-lawful (or-lawful variable-lawful (or-lawful (then-lawful u32-lawful u32-lawful)
    (or-lawful (then-lawful u32-lawful (optional-lawful code-lawful)) (or-lawful core_form-lawful (last-lawful op-lawful))))))

pub lib_record-lawful : Lawful lib_record
unfolding lib_record
lib_record-lawful = mapped-lawful record_to record_from (λ p e. refl) (λ r. refl)
    (then-lawful text-lawful (then-lawful library-lawful
    (then-lawful (listed-lawful u64-lawful) (then-lawful (listed-lawful imported_name-lawful)
    (then-lawful (checked-lawful bindings_rise (listed-lawful (then-lawful label-lawful binding-lawful)))
    (then-lawful (checked-lawful rows_rise (listed-lawful frame_row-lawful))
    (then-lawful (listed-lawful line-lawful) (listed-lawful library-lawful))))))))

pub decodes : (r : CompiledLibrary) → has_spelling r ≡ true → decode (encode r) ≡ Some r
decodes r e = all_again lib_record-lawful r e

pub only_encoded : (bytes : List ℕ) (r : CompiledLibrary) → IsBytes bytes → decode bytes ≡ Some r → (bytes ≡ encode r) × (has_spelling r ≡ true)
only_encoded bytes r fits e = all_takes lib_record-lawful bytes r fits e

-- what is encoded of a record with a spelling is decoded to that record
abbrev pub RoundTrip : Type 0
RoundTrip = (r : CompiledLibrary) → has_spelling r ≡ true → decode (encode r) ≡ Some r

-- bytes that are decoded to a record are those that it is encoded as, and it has a spelling
abbrev pub NothingElse : Type 0
NothingElse = (bytes : List ℕ) (r : CompiledLibrary) → IsBytes bytes → decode bytes ≡ Some r → (bytes ≡ encode r) × (has_spelling r ≡ true)
