-- Records that serve, one after another.
use Rattle.std.proofs.Common.{List, [], ◌∷◌, ◌++◌, sym, subst, inl, inr, append-nil, append_assoc}
use Rattle.base_data.specs.Elements.{Among}
use Rattle.base_data.specs.declared.library.LibName.{LibName}
use Rattle.base_data.specs.declared.name.Label.{Label}
use Rattle.core_language.specs.declared.record.CompiledLibrary.{CompiledLibrary}
use Rattle.law_core.specs.Follows.{names_of, row_labels, export_labels}
use Rattle.law_expand.specs.Serves.{IsLabelThere, Serves, AllServe}
use Rattle.law_expand.proofs.Fresh.{each-map}

-- one more at the end
pub serve-more : (earlier rs : List CompiledLibrary) (r : CompiledLibrary) → AllServe earlier rs → Serves (earlier ++ rs) r → AllServe earlier (rs ++ r ∷ [])
serve-more earlier [] r h k = (subst (λ (es : List CompiledLibrary). Serves es r) (append-nil earlier) k, tt)
serve-more earlier (x ∷ rs) r h k = (h.0, serve-more (earlier ++ x ∷ []) rs r h.1 (subst (λ (es : List CompiledLibrary). Serves es r) (sym (append_assoc earlier (x ∷ []) rs)) k))

-- only the names of the records before it count
pub serves-names : (a b : List CompiledLibrary) (r : CompiledLibrary) → ((l : LibName) → Among (names_of a) l → Among (names_of b) l) → Serves a r → Serves b r
serves-names a b r more h = record {
  own_bindings = h.own_bindings;
  kinds = h.kinds;
  tops_defined = h.tops_defined;
  own_frames = h.own_frames;
  rows = each-map (IsLabelThere a r) (IsLabelThere b r) (row_labels r) h.rows label-there;
  exports = each-map (IsLabelThere a r) (IsLabelThere b r) (export_labels r) h.exports label-there;
}
  where
    label-there : (l : Label) → IsLabelThere a r l → IsLabelThere b r l
    label-there l (inl mine) = inl mine
    label-there l (inr (inl n)) = inr (inl (more l.0.library n))
    label-there l (inr (inr i)) = inr (inr i)
