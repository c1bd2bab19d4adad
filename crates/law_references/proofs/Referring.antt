-- An identifier that is expanded refers to the binder that captures it.
use Rattle.std.proofs.Common.{◌≡◌, Option, None, Some, refl, subst, inl, inr}
use Rattle.std.specs.Prelude.{◌⊎◌, option_map}
use Rattle.base_data.specs.declared.name.Label.{Label}
use Rattle.stx_tree.specs.Tree.{leaf}
use Rattle.stx_frames.specs.Rows.{Row}
use Rattle.stx_scope.specs.Stands.{stands}
use Rattle.law_hygiene.specs.Binder.{binder_of}
use Rattle.law_hygiene.proofs.Rowing.{label_by-row}
use Rattle.law_expand.specs.Named.{RefersTo, IsUse}
use Rattle.law_expand.proofs.Named.{references-named}
use Rattle.law_references.specs.Reference.{NamesItsBinder, ReferencesAreHygienic}
use Rattle.law_references.proofs.Capturing.{captures-hygienic}
use Rattle.expand_forms.specs.ExpandUses.{linked_code}

pub references-hygienic : ReferencesAreHygienic
references-hygienic libs own n records room place level depth p x k s u c h e = by (references-named records room place level depth (leaf p x k) s u c refl e)
  where
    found : (o : Option Row) → binder_of s.frames (leaf p x k) ≡ o → RefersTo s (option_map (λ (r : Row). r.label) o) c → NamesItsBinder s p x k h.marks h.events c
    found None i j = absurd j
    found (Some r) i j = record { row = r; captures = i; refers = j; hygienic = captures-hygienic libs own n p x k h s.frames r i }

    by : (RefersTo s (stands s.frames (leaf p x k)) c × (u ≡ linked_code (leaf p x k) c s)) ⊎ IsUse s (leaf p x k) → (NamesItsBinder s p x k h.marks h.events c × (u ≡ linked_code (leaf p x k) c s)) ⊎ IsUse s (leaf p x k)
    by (inl r) = inl (found (binder_of s.frames (leaf p x k)) refl (subst (λ (o : Option Label). RefersTo s o c) (label_by-row s.frames x k.stamps) r.0), r.1)
    by (inr i) = inr i
