-- The codec of records.
use Rattle.std.specs.Prelude.{ℕ, ◌⊎◌, Bool, true, false, ◌&&◌, List, [], ◌∷◌, Option}
use Rattle.std.proofs.Common.{inl, inr}
use Rattle.std.specs.declared.cmp.Ordering.{Ordering}
use Rattle.std.specs.declared.cmp.Ordering.TheVariants.{Less, Equal, Greater}
use Rattle.base_data.specs.NameOrder.{name_cmp}
use Rattle.base_data.specs.declared.imported_name.ImportedName.{ImportedName}
use Rattle.base_data.specs.declared.library.LibName.{LibName}
use Rattle.base_data.specs.declared.name.FrameNo.{FrameNo}
use Rattle.base_data.specs.declared.name.Label.{Label}
use Rattle.base_data.specs.declared.op.Op.{Op}
use Rattle.base_bytes.specs.Codec.{Codec, byte, checked, found, u32, u64, bool, text, mapped, ◌then◌, optional, listed, tagged, last, ◌or◌, all_of}
use Rattle.base_bytes.specs.Names.{library, label, imported_name, op}
use Rattle.core_codec.specs.Code.{core}
use Rattle.core_codec.specs.Contexts.{frame_row}
use Rattle.core_language.specs.Core.{PlainCore}
use Rattle.core_language.specs.CoreForm.{place, at_place}
use Rattle.core_language.specs.declared.binding.Binding.{Binding}
use Rattle.core_language.specs.declared.binding.Binding.TheVariants as b
use Rattle.core_language.specs.declared.binding.VarInfo.{VarInfo}
use Rattle.core_language.specs.declared.core_form.CoreForm.{CoreForm}
use Rattle.core_language.specs.declared.record.CompiledLibrary.{CompiledLibrary}
use Rattle.core_language.specs.declared.record.Line.{Line}
use Rattle.core_language.specs.declared.record.Line.TheVariants as l
use Rattle.stx_tree.specs.declared.frame_row.FrameRow.{FrameRow}

-- core code with at most 8,192 core expressions round one
abbrev pub code : Codec PlainCore
code = core 8193

unfoldable pub variable : Codec VarInfo
variable = mapped
    (λ v. (v.symbol, (v.index, (v.level, (v.top, v.assigned)))))
    (λ p. record { symbol = p.0; index = p.1.0; level = p.1.1.0; top = p.1.1.1.0; assigned = p.1.1.1.1 })
    (text then optional u64 then u32 then bool then bool)

abbrev pub LineCases : Type 0
LineCases = (Label × PlainCore) ⊎ PlainCore

abbrev pub line_to : Line → LineCases
line_to (l.Define x c) = inl (x, c)
line_to (l.Expr c) = inr c

abbrev pub line_from : LineCases → Line
line_from (inl p) = l.Define p.0 p.1
line_from (inr c) = l.Expr c

unfoldable pub line : Codec Line
line = mapped line_to line_from (tagged ((label then code) or last code))

abbrev pub BindingCases : Type 0
BindingCases = VarInfo ⊎ ((ℕ × ℕ) ⊎ ((ℕ × Option PlainCore) ⊎ (CoreForm ⊎ Op)))

abbrev pub binding_to : Binding → BindingCases
binding_to (b.Variable v) = inl v
binding_to (b.PatternVariable level depth) = inr (inl (level, depth))
binding_to (b.Macro level expression) = inr (inr (inl (level, expression)))
binding_to (b.Core f) = inr (inr (inr (inl f)))
binding_to (b.Primitive o) = inr (inr (inr (inr o)))

abbrev pub binding_from : BindingCases → Binding
binding_from (inl v) = b.Variable v
binding_from (inr (inl p)) = b.PatternVariable p.0 p.1
binding_from (inr (inr (inl p))) = b.Macro p.0 p.1
binding_from (inr (inr (inr (inl f)))) = b.Core f
binding_from (inr (inr (inr (inr o)))) = b.Primitive o

-- a core form is its place
unfoldable pub core_form : Codec CoreForm
core_form = found place at_place byte

unfoldable pub binding : Codec Binding
binding = mapped binding_to binding_from (tagged (variable or (u32 then u32) or (u32 then optional code) or core_form or last op))

abbrev pub is_less : Ordering → Bool
is_less Less = true
is_less Equal = false
is_less Greater = false

abbrev pub is_at_most : Ordering → Bool
is_at_most Less = true
is_at_most Equal = true
is_at_most Greater = false

-- each label comes after that of the binding before it
abbrev pub bindings_rise_on : Label → List (Label × Binding) → Bool
bindings_rise_on l [] = true
bindings_rise_on l (b ∷ bs) = is_less (name_cmp l.0 b.0.0) && bindings_rise_on b.0 bs

abbrev pub bindings_rise : List (Label × Binding) → Bool
bindings_rise [] = true
bindings_rise (b ∷ bs) = bindings_rise_on b.0 bs

-- no row's frame comes before that of the row before it
abbrev pub rows_rise_on : FrameNo → List FrameRow → Bool
rows_rise_on f [] = true
rows_rise_on f (r ∷ rs) = is_at_most (name_cmp f.0 r.frame.0) && rows_rise_on r.frame rs

abbrev pub rows_rise : List FrameRow → Bool
rows_rise [] = true
rows_rise (r ∷ rs) = rows_rise_on r.frame rs

abbrev pub Fields : Type 0
Fields = List ℕ × (LibName × (List ℕ × (List ImportedName × (List (Label × Binding) × (List FrameRow × (List Line × List LibName))))))

abbrev pub record_to : CompiledLibrary → Fields
record_to r = (r.path, (r.name, (r.version, (r.exports, (r.bindings, (r.frames, (r.run, r.refs)))))))

abbrev pub record_from : Fields → CompiledLibrary
record_from p = record {
  path = p.0;
  name = p.1.0;
  version = p.1.1.0;
  exports = p.1.1.1.0;
  bindings = p.1.1.1.1.0;
  frames = p.1.1.1.1.1.0;
  run = p.1.1.1.1.1.1.0;
  refs = p.1.1.1.1.1.1.1;
}

unfoldable pub lib_record : Codec CompiledLibrary
lib_record = mapped record_to record_from (text then library then listed u64 then listed imported_name
    then checked bindings_rise (listed (label then binding)) then checked rows_rise (listed frame_row) then listed line then listed library)

-- the spelling of a record
abbrev pub encode : CompiledLibrary → List ℕ
encode r = lib_record.put r

-- the record that all of the bytes spell
abbrev pub decode : List ℕ → Option CompiledLibrary
decode bytes = all_of lib_record bytes

abbrev pub has_spelling : CompiledLibrary → Bool
has_spelling r = lib_record.fits r
