-- A record that follows some records follows more of them, where its name is new among these, too.
use Rattle.std.proofs.Common.{List, [], ◌∷◌, ◌++◌, refl, subst, inl, inr}
use Rattle.std.specs.Prelude.{◌⊎◌}
use Rattle.std.specs.List.{flat_map}
use Rattle.base_data.proofs.ElementLemmas.{among-first, among-second, among-parts}
use Rattle.base_data.specs.Elements.{Among}
use Rattle.base_data.specs.declared.library.LibName.{LibName}
use Rattle.base_data.specs.declared.name.Label.{Label}
use Rattle.core_language.specs.Core.{PlainCore}
use Rattle.core_language.specs.declared.record.CompiledLibrary.{CompiledLibrary}
use Rattle.law_core.specs.Follows.{names_of, export_labels, row_labels, bound_labels, line_cores, keywords, IsKnown, Suits, Follows}
use Rattle.law_core.specs.Records.{defined}
use Rattle.law_core.proofs.FollowingLemmas.{closed_more}
use Rattle.law_expand.proofs.Fresh.{each-map}
use Rattle.law_run.proofs.NameLemmas.{name_among, named_among}

-- each of the first is one of the second
abbrev pub AreAmong : List CompiledLibrary → List CompiledLibrary → Type 0
AreAmong few many = (q : CompiledLibrary) → Among few q → Among many q

-- ---- what records have

module _ {B : Type 0} (of : CompiledLibrary → List B) where
  pub among_all : (rs : List CompiledLibrary) (r : CompiledLibrary) (x : B) → Among rs r → Among (of r) x → Among (flat_map of rs) x
  among_all [] r x a b = elim a [ ]
  among_all (q ∷ rs) r x (inl e) b = among-first (of q) (flat_map of rs) x (subst (λ (y : CompiledLibrary). Among (of y) x) e b)
  among_all (q ∷ rs) r x (inr a) b = among-second (of q) (flat_map of rs) x (among_all rs r x a b)

  -- what one of some records has, more records have
  pub all_wider : (few many : List CompiledLibrary) (x : B) → AreAmong few many → Among (flat_map of few) x → Among (flat_map of many) x
  all_wider [] many x w a = elim a [ ]
  all_wider (q ∷ few) many x w a = by (among-parts (of q) (flat_map of few) x a) (all_wider few many x (λ y c. w y (inr c)))
    where
      by : Among (of q) x ⊎ Among (flat_map of few) x → (Among (flat_map of few) x → Among (flat_map of many) x) → Among (flat_map of many) x
      by (inl b) rest = among_all many q x (w q (inl refl)) b
      by (inr b) rest = rest b

pub names_wider : (few many : List CompiledLibrary) (n : LibName) → AreAmong few many → Among (names_of few) n → Among (names_of many) n
names_wider few many n w a = let x = named_among few n a in subst (Among (names_of many)) x.name (name_among many x.record_of (w x.record_of x.among))

-- ---- a record behind more of them

module _ (r : CompiledLibrary) (few many : List CompiledLibrary) (w : AreAmong few many) where
  known_wider : (l : Label) → IsKnown r few l → IsKnown r many l
  known_wider l (inl a) = inl (by (among-parts (bound_labels r) (flat_map bound_labels few) l a))
    where
      by : Among (bound_labels r) l ⊎ Among (flat_map bound_labels few) l → Among (bound_labels r ++ flat_map bound_labels many) l
      by (inl b) = among-first (bound_labels r) (flat_map bound_labels many) l b
      by (inr b) = among-second (bound_labels r) (flat_map bound_labels many) l (all_wider bound_labels few many l w b)
  known_wider l (inr g) = inr g

  defined_wider : (l : Label) → Among (flat_map defined few ++ defined r) l → Among (flat_map defined many ++ defined r) l
  defined_wider l a = by (among-parts (flat_map defined few) (defined r) l a)
    where
      by : Among (flat_map defined few) l ⊎ Among (defined r) l → Among (flat_map defined many ++ defined r) l
      by (inl b) = among-first (flat_map defined many) (defined r) l (all_wider defined few many l w b)
      by (inr b) = among-second (flat_map defined many) (defined r) l b

  line_wider : (c : PlainCore) → Suits (flat_map defined few ++ defined r) c → Suits (flat_map defined many ++ defined r) c
  line_wider c h = (h.0, closed_more (flat_map defined few ++ defined r) (flat_map defined many ++ defined r) c defined_wider h.1)

  keyword_wider : (c : PlainCore) → Suits (flat_map defined few) c → Suits (flat_map defined many) c
  keyword_wider c h = (h.0, closed_more (flat_map defined few) (flat_map defined many) c (λ l a. all_wider defined few many l w a) h.1)

  pub follows_wider : (Among (names_of many) r.name → ⊥) → Follows r few → Follows r many
  follows_wider new h = record {
    named = record { new = new; no_core = h.named.no_core; no_prelude = h.named.no_prelude; exports_once = h.named.exports_once };
    own = h.own;
    bindings = h.bindings;
    labels = record {
      exports = each-map (IsKnown r few) (IsKnown r many) (export_labels r) h.labels.exports known_wider;
      rows = each-map (IsKnown r few) (IsKnown r many) (row_labels r) h.labels.rows known_wider;
    };
    code = record {
      lines = each-map (Suits (flat_map defined few ++ defined r)) (Suits (flat_map defined many ++ defined r)) (line_cores r) h.code.lines line_wider;
      indexed = h.code.indexed;
      indexed_once = h.code.indexed_once;
      transformers = each-map (Suits (flat_map defined few)) (Suits (flat_map defined many)) (keywords r) h.code.transformers keyword_wider;
    };
    references = record {
      references = h.references.references;
      known = each-map (Among (names_of few)) (Among (names_of many)) r.refs h.references.known (λ n a. names_wider few many n w a);
    };
  }
