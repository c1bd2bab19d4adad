-- Records whose frames and bindings lie in tables of the run, and those that a library needs.
use Rattle.std.specs.Prelude.{◌≡◌, Bool, List, [], ◌∷◌, map, if◌then◌else◌}
use Rattle.stx_frames.specs.Given as of_frames
use Rattle.stx_frames.specs.Scope.{adopted}
use Rattle.core_language.specs.declared.record.CompiledLibrary.{CompiledLibrary}
use Rattle.core_known.specs.Known.{Part, Parts}

-- the frames that a record's rows make
abbrev pub frames_part : CompiledLibrary → of_frames.Part
frames_part r = (r.name, adopted [] r.frames)

-- what a record binds
abbrev pub bindings_part : CompiledLibrary → Part
bindings_part r = (r.name, r.bindings)

-- the tables have the frames and the bindings of each record
abbrev pub AreReady : List CompiledLibrary → of_frames.Parts → Parts → Type 0
AreReady rs fs bs = (fs ≡ map frames_part rs) × (bs ≡ map bindings_part rs)

-- the records that are marked; those beyond the marks are not
abbrev pub needed_records : List Bool → List CompiledLibrary → List CompiledLibrary
needed_records [] rs = []
needed_records (m ∷ ms) [] = []
needed_records (m ∷ ms) (r ∷ rs) = if m then r ∷ needed_records ms rs else needed_records ms rs
