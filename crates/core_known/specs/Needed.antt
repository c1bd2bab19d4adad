-- What the libraries bind that a run has completed, and those of them that one needs.
use Rattle.std.specs.Prelude.{◌≡◌, Bool, false, List, [], ◌∷◌, Option, None, Some, if◌then◌else◌}
use Rattle.std.specs.declared.alloc.Global.{Global}
use Rattle.std.specs.declared.rc.Rc.{Rc}
use Rattle.base_data.specs.declared.library.LibName.{LibName}
use Rattle.core_known.specs.Known.{LabelBindings, has_part, AreOf, Parts}

-- the entries of a table, without their owners
abbrev pub parts_in : List (Rc LibName Global × Rc LabelBindings Global) → Parts
parts_in [] = []
parts_in (e ∷ es) = (e.0.value, e.1.value) ∷ parts_in es

-- each part binds labels of its library alone, and no library has two parts
abbrev pub AreLibraries : Parts → Type 0
AreLibraries [] = Unit {0}
AreLibraries (p ∷ ps) = AreOf p.0 p.1 × (has_part p.0 ps ≡ false) × AreLibraries ps

-- the bindings at a place with this mark, if it is there
abbrev pub if_mark : Option Bool → LabelBindings → Option LabelBindings
if_mark None bs = None
if_mark (Some m) bs = if m then Some bs else None

-- the parts that are marked; those beyond the marks are not
abbrev pub needed_parts : List Bool → Parts → Parts
needed_parts [] ps = []
needed_parts (m ∷ ms) [] = []
needed_parts (m ∷ ms) (p ∷ ps) = if m then p ∷ needed_parts ms ps else needed_parts ms ps

-- the parts of those that need others, and of those that need none
abbrev pub parts_given : Option Parts → Parts
parts_given None = []
parts_given (Some ps) = ps
