-- What records name once.
use Rattle.std.specs.Prelude.{List, map}
use Rattle.std.specs.List.{flat_map}
use Rattle.base_data.specs.Elements.{Each, Once}
use Rattle.core_language.specs.declared.record.CompiledLibrary.{CompiledLibrary}
use Rattle.law_core.specs.Follows.{Key, key_of, export_names, bound_labels, all_binders, all_numbers}

abbrev pub row_keys : CompiledLibrary → List Key
row_keys r = map key_of r.frames

-- Over all of these records no label has two bindings or two binders, no two codes have one number, and no frame has a symbol twice with the
-- same marks. Each record exports a name once; two records may export one name.
pub record NameOnce (records : List CompiledLibrary) : Type 0 where
  pub bindings : Once (flat_map bound_labels records)
  pub binders : Once (flat_map all_binders records)
  pub codes : Once (flat_map all_numbers records)
  pub rows : Once (flat_map row_keys records)
  pub exports : Each (λ (r : CompiledLibrary). Once (export_names r)) records
