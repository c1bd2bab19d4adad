-- The bytes of each kind of value, with its tags and counts as numbers.
use Rattle.std.proofs.Common.{◌≡◌, refl}
use Rattle.std.specs.Prelude.{ℕ, ℤ, suc, ◌/◌, ◌%◌, ◌^◌, Bool, true, false, List, [], ◌∷◌, ◌++◌, length, Some, None, Option}
use Rattle.std.specs.Int.{byte_at, cast_unsigned, w128}
use Rattle.std.specs.List.{flat_map}
use Rattle.base_data.specs.Datum as d
use Rattle.base_data.specs.Datum.{PlainDatum}
use Rattle.base_data.specs.Named.{Named}
use Rattle.base_data.specs.declared.atom.Atom.{Atom}
use Rattle.base_data.specs.declared.atom.Atom.TheVariants as a
use Rattle.base_data.specs.declared.imported_name.ImportedName.{ImportedName}
use Rattle.base_data.specs.declared.library.LibName.TheVariants as n
use Rattle.base_data.specs.declared.name.CodeNo.{CodeNo}
use Rattle.base_data.specs.declared.name.FrameNo.{FrameNo}
use Rattle.base_data.specs.declared.name.Label.{Label}
use Rattle.base_data.specs.declared.name.Mark.{Mark}
use Rattle.base_data.specs.declared.op.Op.{Op}
use Rattle.base_data.specs.declared.span.Span.{Span}
use Rattle.base_bytes.specs.Codec.{Codec, bool, u16, u32, u64, int, halves, text, blob, char, optional}
use Rattle.base_bytes.specs.Names.{library, name, label, imported_name, mark, frame, code_number, op, span, atom}
use Rattle.core_codec.specs.Code.{split, item_list, core_list, init_list, case_list, clause_list}
use Rattle.core_codec.specs.Code.{formals, elements, pattern, pattern_level, items, template, template_level, core, core_level, core_parts, inits, cases, clauses}
use Rattle.core_codec.specs.Contexts.{stamp, context, frame_row}
use Rattle.core_codec.specs.Records.{variable, line, core_form, binding, lib_record}
use Rattle.core_codec.specs.Trees.{datum, datum_level, datum_node_codec, tree, tree_level, tree_node_codec}
use Rattle.core_codec.specs.Trees as trees
use Rattle.core_language.specs.Core as c
use Rattle.core_language.specs.Core.{PlainCore, PlainCores, PlainInits, PlainCases, PlainClauses}
use Rattle.core_language.specs.CoreForm.{place}
use Rattle.core_language.specs.Pattern as p
use Rattle.core_language.specs.Pattern.{PlainPattern, PlainPatterns}
use Rattle.core_language.specs.Template as m
use Rattle.core_language.specs.Template.{PlainTemplate, PlainItems}
use Rattle.core_language.specs.declared.binding.Binding.TheVariants as b
use Rattle.core_language.specs.declared.binding.VarInfo.{VarInfo}
use Rattle.core_language.specs.declared.core_form.CoreForm.{CoreForm}
use Rattle.core_language.specs.declared.formals.Formals.{Formals}
use Rattle.core_language.specs.declared.record.CompiledLibrary.{CompiledLibrary}
use Rattle.core_language.specs.declared.record.Line.TheVariants as l
use Rattle.stx_tree.specs.Context.{LeafContext}
use Rattle.stx_tree.specs.Tree as t
use Rattle.stx_tree.specs.Tree.{Tree}
use Rattle.stx_tree.specs.declared.frame_row.FrameRow.{FrameRow}
use Rattle.stx_tree.specs.declared.stamp.Stamp.{Stamp}

-- the count of the items in eight bytes, and then the items
abbrev pub counted : {A : Type 0} → (A → List ℕ) → List A → List ℕ
counted put xs = u64.put (length xs) ++ flat_map put xs

-- a number has one byte, two, four, eight or sixteen, the highest first
pub record LayoutOfNumbers : Type 0 where
  pub of_false : bool.put false ≡ 0 ∷ []
  pub of_true : bool.put true ≡ 1 ∷ []
  pub of_two : (x : ℕ) → u16.put x ≡ byte_at 1 x ∷ byte_at 0 x ∷ []
  pub of_four : (x : ℕ) → u32.put x ≡ byte_at 3 x ∷ byte_at 2 x ∷ byte_at 1 x ∷ byte_at 0 x ∷ []
  pub of_eight : (x : ℕ) → u64.put x ≡ byte_at 7 x ∷ byte_at 6 x ∷ byte_at 5 x ∷ byte_at 4 x ∷ byte_at 3 x ∷ byte_at 2 x ∷ byte_at 1 x ∷ byte_at 0 x ∷ []
  pub of_sixteen : (z : ℤ) → int.put z ≡ u64.put (cast_unsigned w128 z / 2 ^ 64) ++ u64.put (cast_unsigned w128 z % 2 ^ 64)

-- a text is its length and its bytes
pub record LayoutOfTexts : Type 0 where
  pub of_text : (x : List ℕ) → text.put x ≡ u64.put (length x) ++ x
  pub of_bytes : (x : List ℕ) → blob.put x ≡ u64.put (length x) ++ x
  pub of_char : (x : ℕ) → char.put x ≡ u32.put x

pub record LayoutOfNames : Type 0 where
  pub of_core : library.put n.Core ≡ 0 ∷ []
  pub of_derived : library.put n.Derived ≡ 1 ∷ []
  pub of_prelude : library.put n.Prelude ≡ 2 ∷ []
  pub of_program : library.put n.Program ≡ 3 ∷ []
  pub of_user : (parts : List (List ℕ)) → library.put (n.User parts) ≡ 4 ∷ counted text.put parts
  pub of_name : (x : Named) → name.put x ≡ library.put x.library ++ u64.put x.number
  pub of_label : (x : Label) → label.put x ≡ name.put x.0
  pub of_imported_name : (x : ImportedName) → imported_name.put x ≡ text.put x.name ++ label.put x.label
  pub of_mark : (x : Mark) → mark.put x ≡ name.put x.0
  pub of_frame : (x : FrameNo) → frame.put x ≡ name.put x.0
  pub of_code : (x : CodeNo) → code_number.put x ≡ name.put x.0
  pub of_op : (x : Op) → op.put x ≡ u16.put x.0
  pub of_span : (x : Span) → span.put x ≡ text.put x.file ++ (u32.put x.from ++ u32.put x.to)

pub record LayoutOfAtoms : Type 0 where
  pub of_nil : atom.put a.Nil ≡ 0 ∷ []
  pub of_boolean : (x : Bool) → atom.put (a.Bool x) ≡ 1 ∷ bool.put x
  pub of_integer : (x : ℤ) → atom.put (a.Int x) ≡ 2 ∷ int.put x
  pub of_number : (x : List ℕ) → atom.put (a.Spelt x) ≡ 3 ∷ text.put x
  pub of_character : (x : ℕ) → atom.put (a.Char x) ≡ 4 ∷ char.put x
  pub of_string : (x : List ℕ) → atom.put (a.Str x) ≡ 5 ∷ text.put x
  pub of_bytevector : (x : List ℕ) → atom.put (a.Bytes x) ≡ 6 ∷ blob.put x

-- where nothing is there 0, else 1 and then what is there
pub record LayoutOfOptions : Type 0 where
  pub no_span : (optional span).put None ≡ 0 ∷ []
  pub some_span : (x : Span) → (optional span).put (Some x) ≡ 1 ∷ span.put x
  pub no_label : (optional label).put None ≡ 0 ∷ []
  pub some_label : (x : Label) → (optional label).put (Some x) ≡ 1 ∷ label.put x
  pub no_index : (optional u64).put None ≡ 0 ∷ []
  pub some_index : (x : ℕ) → (optional u64).put (Some x) ≡ 1 ∷ u64.put x
  pub no_pattern : (k : ℕ) → (optional (pattern k)).put None ≡ 0 ∷ []
  pub some_pattern : (k : ℕ) (x : PlainPattern) → (optional (pattern k)).put (Some x) ≡ 1 ∷ (pattern k).put x
  pub no_core : (k : ℕ) → (optional (core k)).put None ≡ 0 ∷ []
  pub some_core : (k : ℕ) (x : PlainCore) → (optional (core k)).put (Some x) ≡ 1 ∷ (core k).put x

-- a datum with parts that are at most k high
pub record LayoutOfData : Type 0 where
  pub of_atom : (k : ℕ) (s : Option Span) (x : Atom) → (datum (suc k)).put (d.atom s x) ≡ (optional span).put s ++ (0 ∷ atom.put x)
  pub of_symbol : (k : ℕ) (s : Option Span) (x : List ℕ) → (datum (suc k)).put (d.symbol s x) ≡ (optional span).put s ++ (1 ∷ text.put x)
  pub of_list : (k : ℕ) (s : Option Span) (x y : PlainDatum) → (datum (suc k)).put (d.pair s x y)
      ≡ (optional span).put s ++ (2 ∷ (counted (datum k).put (x ∷ d.elements y) ++ (datum k).put (d.tail_of y)))
  pub of_vector : (k : ℕ) (s : Option Span) (y : PlainDatum) → (datum (suc k)).put (d.vector s y)
      ≡ (optional span).put s ++ (3 ∷ counted (datum k).put (d.elements y))

-- a tree with parts that are at most k high
pub record LayoutOfTrees : Type 0 where
  pub of_atom : (k : ℕ) (s : Option Span) (x : Atom) → (tree (suc k)).put (t.atom s x) ≡ (optional span).put s ++ (0 ∷ atom.put x)
  pub of_leaf : (k : ℕ) (s : Option Span) (x : List ℕ) (y : LeafContext) → (tree (suc k)).put (t.leaf s x y)
      ≡ (optional span).put s ++ (1 ∷ (text.put x ++ (counted mark.put y.marks ++ counted stamp.put y.stamps)))
  pub of_stamp : (x : Stamp) → stamp.put x ≡ frame.put x.frame ++ counted mark.put x.marks
  pub of_list : (k : ℕ) (s : Option Span) (x y : Tree) → (tree (suc k)).put (t.pair s x y)
      ≡ (optional span).put s ++ (2 ∷ (counted (tree k).put (x ∷ trees.elements y) ++ (tree k).put (trees.tail_of y)))
  pub of_vector : (k : ℕ) (s : Option Span) (y : Tree) → (tree (suc k)).put (t.vector s y)
      ≡ (optional span).put s ++ (3 ∷ counted (tree k).put (trees.elements y))

-- a pattern with parts that are at most k high: patterns are those before the ellipsis, the one that it repeats, if there is one, and those after it
pub record LayoutOfPatterns : Type 0 where
  pub of_any : (k : ℕ) → (pattern (suc k)).put p.any ≡ 0 ∷ []
  pub of_variable : (k : ℕ) (x : Label) → (pattern (suc k)).put (p.variable x) ≡ 1 ∷ label.put x
  pub of_literal : (k : ℕ) (x : Tree) → (pattern (suc k)).put (p.literal x) ≡ 2 ∷ (tree 1000).put x
  pub of_atom : (k : ℕ) (x : Atom) → (pattern (suc k)).put (p.atom x) ≡ 3 ∷ atom.put x
  pub of_list : (k : ℕ) (xs : PlainPatterns) (x : PlainPattern) → (pattern (suc k)).put (p.list xs x)
      ≡ 4 ∷ ((elements (pattern k)).put xs ++ (pattern k).put x)
  pub of_vector : (k : ℕ) (xs : PlainPatterns) → (pattern (suc k)).put (p.vector xs) ≡ 5 ∷ (elements (pattern k)).put xs
  pub of_elements : (k : ℕ) (xs : PlainPatterns) → (elements (pattern k)).put xs
      ≡ counted (pattern k).put (split xs).0 ++ ((optional (pattern k)).put (split xs).1.0 ++ counted (pattern k).put (split xs).1.1)

-- a template with parts that are at most k high: an item is a template and the count of the ellipses behind it
pub record LayoutOfTemplates : Type 0 where
  pub of_variable : (k : ℕ) (x : Label) (y : ℕ) → (template (suc k)).put (m.variable x y) ≡ 0 ∷ (label.put x ++ u32.put y)
  pub of_constant : (k : ℕ) (x : Tree) → (template (suc k)).put (m.constant x) ≡ 1 ∷ (tree 1000).put x
  pub of_list : (k : ℕ) (xs : PlainItems) (x : PlainTemplate) → (template (suc k)).put (m.list xs x)
      ≡ 2 ∷ ((items (template k)).put xs ++ (template k).put x)
  pub of_vector : (k : ℕ) (xs : PlainItems) → (template (suc k)).put (m.vector xs) ≡ 3 ∷ (items (template k)).put xs
  pub of_items : (k : ℕ) (xs : PlainItems) → (items (template k)).put xs ≡ counted (λ x. (template k).put x.0 ++ u32.put x.1) (item_list xs)

-- a core expression with parts that have at most k expressions round one
pub record LayoutOfCore : Type 0 where
  pub of_quote : (k : ℕ) (x : PlainDatum) → (core (suc k)).put (c.quoted x) ≡ 0 ∷ (datum 1000).put x
  pub of_variable : (k : ℕ) (x : Label) → (core (suc k)).put (c.variable x) ≡ 1 ∷ label.put x
  pub of_primitive : (k : ℕ) (x : Op) → (core (suc k)).put (c.primitive x) ≡ 2 ∷ op.put x
  pub of_one_armed_if : (k : ℕ) (x y : PlainCore) → (core (suc k)).put (c.one_armed x y) ≡ 3 ∷ ((core k).put x ++ ((core k).put y ++ (0 ∷ [])))
  pub of_two_armed_if : (k : ℕ) (x y z : PlainCore) → (core (suc k)).put (c.two_armed x y z)
      ≡ 3 ∷ ((core k).put x ++ ((core k).put y ++ (1 ∷ (core k).put z)))
  pub of_assignment : (k : ℕ) (x : Label) (y : PlainCore) → (core (suc k)).put (c.assignment x y) ≡ 4 ∷ (label.put x ++ (core k).put y)
  pub of_begin : (k : ℕ) (xs : PlainCores) → (core (suc k)).put (c.sequence xs) ≡ 5 ∷ counted (core k).put (core_list xs)
  pub of_procedure : (k : ℕ) (x : CodeNo) (xs : PlainCases) (y : Bool) → (core (suc k)).put (c.procedure x xs y)
      ≡ 6 ∷ (code_number.put x ++ (counted (λ z. formals.put z.0 ++ (core k).put z.1) (case_list xs) ++ bool.put y))
  pub of_formals : (x : Formals) → formals.put x ≡ counted label.put x.required ++ (optional label).put x.rest
  pub of_letrec : (k : ℕ) (x : Bool) (xs : PlainInits) (y : PlainCore) → (core (suc k)).put (c.letrec x xs y)
      ≡ 7 ∷ (bool.put x ++ (counted (λ z. label.put z.0 ++ (core k).put z.1) (init_list xs) ++ (core k).put y))
  pub of_call : (k : ℕ) (x : PlainCore) (xs : PlainCores) → (core (suc k)).put (c.call x xs) ≡ 8 ∷ ((core k).put x ++ counted (core k).put (core_list xs))
  pub of_syntax : (k : ℕ) (x : PlainTemplate) (y : Span) → (core (suc k)).put (c.instance x y) ≡ 9 ∷ ((template 2000).put x ++ span.put y)
  pub of_syntax_case : (k : ℕ) (x : PlainCore) (xs : PlainClauses) (y : Span) → (core (suc k)).put (c.matching x xs y)
      ≡ 10 ∷ ((core k).put x ++ (counted (λ z. (pattern 2000).put z.0 ++ ((optional (core k)).put z.1.0 ++ (core k).put z.1.1)) (clause_list xs) ++ span.put y))

pub record LayoutOfBindings : Type 0 where
  pub of_variable : (x : VarInfo) → binding.put (b.Variable x)
      ≡ 0 ∷ (text.put x.symbol ++ ((optional u64).put x.index ++ (u32.put x.level ++ (bool.put x.top ++ bool.put x.assigned))))
  pub of_pattern_variable : (x y : ℕ) → binding.put (b.PatternVariable x y) ≡ 1 ∷ (u32.put x ++ u32.put y)
  pub of_keyword : (x : ℕ) (y : Option PlainCore) → binding.put (b.Macro x y) ≡ 2 ∷ (u32.put x ++ (optional (core 8193)).put y)
  pub of_core_form : (x : CoreForm) → binding.put (b.Core x) ≡ 3 ∷ place x ∷ []
  pub of_primitive : (x : Op) → binding.put (b.Primitive x) ≡ 4 ∷ op.put x

-- a record is its fields in their order
pub record LayoutOfRecords : Type 0 where
  pub of_definition : (x : Label) (y : PlainCore) → line.put (l.Define x y) ≡ 0 ∷ (label.put x ++ (core 8193).put y)
  pub of_expression : (x : PlainCore) → line.put (l.Expr x) ≡ 1 ∷ (core 8193).put x
  pub of_row : (x : FrameRow) → frame_row.put x ≡ frame.put x.frame ++ (text.put x.symbol ++ (counted mark.put x.marks ++ label.put x.label))
  pub of_record : (x : CompiledLibrary) → lib_record.put x
      ≡ text.put x.path ++ (library.put x.name ++ (counted u64.put x.version ++ (counted imported_name.put x.exports
      ++ (counted (λ y. label.put y.0 ++ binding.put y.1) x.bindings ++ (counted frame_row.put x.frames
      ++ (counted line.put x.run ++ counted library.put x.refs))))))

pub numbers_laid_out : LayoutOfNumbers
unfolding bool u16 u32 u64 int halves
numbers_laid_out = record {
  of_false = refl;
  of_true = refl;
  of_two = λ x. refl;
  of_four = λ x. refl;
  of_eight = λ x. refl;
  of_sixteen = λ z. refl;
}

pub texts_laid_out : LayoutOfTexts
unfolding text blob char
texts_laid_out = record {
  of_text = λ x. refl;
  of_bytes = λ x. refl;
  of_char = λ x. refl;
}

pub names_laid_out : LayoutOfNames
unfolding library name label imported_name mark frame code_number op span
names_laid_out = record {
  of_core = refl;
  of_derived = refl;
  of_prelude = refl;
  of_program = refl;
  of_user = λ parts. refl;
  of_name = λ x. refl;
  of_label = λ x. refl;
  of_imported_name = λ x. refl;
  of_mark = λ x. refl;
  of_frame = λ x. refl;
  of_code = λ x. refl;
  of_op = λ x. refl;
  of_span = λ x. refl;
}

pub atoms_laid_out : LayoutOfAtoms
unfolding atom
atoms_laid_out = record {
  of_nil = refl;
  of_boolean = λ x. refl;
  of_integer = λ x. refl;
  of_number = λ x. refl;
  of_character = λ x. refl;
  of_string = λ x. refl;
  of_bytevector = λ x. refl;
}

pub options_laid_out : LayoutOfOptions
options_laid_out = record {
  no_span = refl;
  some_span = λ x. refl;
  no_label = refl;
  some_label = λ x. refl;
  no_index = refl;
  some_index = λ x. refl;
  no_pattern = λ k. refl;
  some_pattern = λ k x. refl;
  no_core = λ k. refl;
  some_core = λ k x. refl;
}

pub data_laid_out : LayoutOfData
unfolding datum datum_level datum_node_codec
data_laid_out = record {
  of_atom = λ k s x. refl;
  of_symbol = λ k s x. refl;
  of_list = λ k s x y. refl;
  of_vector = λ k s y. refl;
}

pub trees_laid_out : LayoutOfTrees
unfolding tree tree_level tree_node_codec stamp context
trees_laid_out = record {
  of_atom = λ k s x. refl;
  of_leaf = λ k s x y. refl;
  of_stamp = λ x. refl;
  of_list = λ k s x y. refl;
  of_vector = λ k s y. refl;
}

pub patterns_laid_out : LayoutOfPatterns
unfolding pattern pattern_level elements
patterns_laid_out = record {
  of_any = λ k. refl;
  of_variable = λ k x. refl;
  of_literal = λ k x. refl;
  of_atom = λ k x. refl;
  of_list = λ k xs x. refl;
  of_vector = λ k xs. refl;
  of_elements = λ k xs. refl;
}

pub templates_laid_out : LayoutOfTemplates
unfolding template template_level items
templates_laid_out = record {
  of_variable = λ k x y. refl;
  of_constant = λ k x. refl;
  of_list = λ k xs x. refl;
  of_vector = λ k xs. refl;
  of_items = λ k xs. refl;
}

pub core_laid_out : LayoutOfCore
unfolding core core_level core_parts inits cases clauses formals
core_laid_out = record {
  of_quote = λ k x. refl;
  of_variable = λ k x. refl;
  of_primitive = λ k x. refl;
  of_one_armed_if = λ k x y. refl;
  of_two_armed_if = λ k x y z. refl;
  of_assignment = λ k x y. refl;
  of_begin = λ k xs. refl;
  of_procedure = λ k x xs y. refl;
  of_formals = λ x. refl;
  of_letrec = λ k x xs y. refl;
  of_call = λ k x xs. refl;
  of_syntax = λ k x y. refl;
  of_syntax_case = λ k x xs y. refl;
}

pub bindings_laid_out : LayoutOfBindings
unfolding binding variable core_form
bindings_laid_out = record {
  of_variable = λ x. refl;
  of_pattern_variable = λ x y. refl;
  of_keyword = λ x y. refl;
  of_core_form = λ x. refl;
  of_primitive = λ x. refl;
}

pub records_laid_out : LayoutOfRecords
unfolding line lib_record frame_row
records_laid_out = record {
  of_definition = λ x y. refl;
  of_expression = λ x. refl;
  of_row = λ x. refl;
  of_record = λ x. refl;
}
