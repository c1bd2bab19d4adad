use Rattle.std.proofs.Common.{◌≡◌, sym, ap, ◌∙◌, ◌∷◌, ◌++◌, [], false}
use Rattle.std.specs.declared.alloc.Global.{Global}
use Rattle.std.specs.declared.rc.Rc.{Rc}
use Rattle.std.specs.Map.{lookup}
use Rattle.indexmap.proofs.CallerLemmas.{insert_entry-new}
use Rattle.base_data.specs.Same.{same_library}
use Rattle.base_data.specs.declared.library.LibName.{LibName}
use Rattle.stx_frames.specs.Given.{Part, has_part}
use Rattle.stx_frames.specs.Needed.{parts_in}
use Rattle.stx_frames.proofs.NeededLemmas.{is_owned, has_part-entry, no_entry, parts-more, shared-more}
use Rattle.stx_frames.proofs.shared.SharedFrames.push.Goals as goal

new : (c : goal.Joined-insert-2) → has_part c.given.inside.library.value (parts_in c.self.inside.parts.entries) ≡ false
new c = sym (has_part-entry c.given.inside.library.value c.self.inside.parts.entries) ∙ sym c.if-contains_key.ensures

more : (c : goal.Joined-insert-2) → c.insert.new.self.entries ≡ c.self.inside.parts.entries ++ (c.in_ok-library.library, c.in_ok-frames.frames) ∷ []
more c =
    let m = c.self.inside.parts in
    let none = no_entry c.given.inside.library.value m.entries (new c) in
    c.in-Ok.ensures.entries
    ∙ insert_entry-new (λ (x y : Rc LibName Global). same_library x.value y.value) m c.in_ok-library.library c.in_ok-frames.frames
    (ap (λ l. lookup (is_owned l) m.entries) c.in_ok-library.ensures.cases ∙ none)

abbrev part : goal.Joined-insert-2 → Part
part c = (c.given.inside.library.value, c.given.inside.frames.value)

pub invariant_of-self : goal.invariant_of-self
invariant_of-self c =
    shared-more c.self.inside.parts.entries c.insert.new.self.entries c.in_ok-library.library c.in_ok-frames.frames (part c)
    (more c) c.in_ok-library.ensures.cases c.in_ok-frames.ensures.cases c.self.invariant c.given.invariant (new c)

pub returns-in-Ok-clause-ok : goal.returns-in-Ok-clause-ok
returns-in-Ok-clause-ok c =
    parts-more c.self.inside.parts.entries c.insert.new.self.entries c.in_ok-library.library c.in_ok-frames.frames (part c)
    (more c) c.in_ok-library.ensures.cases c.in_ok-frames.ensures.cases
    ∙ (λ i. c.self.view_is i ++ c.given.view_is i ∷ [])
