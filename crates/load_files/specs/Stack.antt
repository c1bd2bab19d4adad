-- What is left to do where a file is open inside others.
use Rattle.std.specs.Prelude.{ℕ, zero, suc, ◌+◌, Bool, List, [], ◌∷◌, drop, slice_get, Option, Some, None, Result, Ok, Err}
use Rattle.base_data.specs.declared.fault.Fault.{Fault}
use Rattle.base_data.specs.Gives.{◌>>=◌}
use Rattle.load_forms.specs.declared.set.Import.{Import}
use Rattle.base_outside.specs.Contents.{Paths}
use Rattle.load_files.specs.Found.{no_needs, found_of}
use Rattle.load_files.specs.Load.{Loads, Loader, refer_each, load_file, settled, known_of, open_file, too_many}
use Rattle.load_import.specs.declared.set.ImportSet.{ImportSet}
use Rattle.load_files.specs.declared.refer.Known.{Known}
use Rattle.load_files.specs.declared.found.Opened.{Opened}
use Rattle.load_files.specs.declared.found.Found.{Found}
use Rattle.load_files.specs.declared.found.Loading.{Loading}
use Rattle.load_files.specs.declared.found.Open.{Open}

-- the imports of an open file that are left
abbrev pub left : Open → List Import
left o = drop o.next o.opened.form.imports

-- a file whose imports are still to be loaded
abbrev pub first_of : ℕ → Opened → Open
first_of room o = record { opened = o; room = room; next = 0; needs = no_needs }

abbrev pub next_of : Open → List Bool → ℕ → Open
next_of o needs next = record { opened = o.opened; room = o.room; next = next; needs = needs }

-- what is known of the next import, if one is left
abbrev pub known_by : Open → Loading → Option Import → Result (Option Known) Fault
known_by o s None = Ok None
known_by o s (Some i) = known_of s o.needs i.set >>= (λ k. Ok (Some k))

abbrev pub known_next : Open → Loading → Result (Option Known) Fault
known_next o s = known_by o s (slice_get o.opened.form.imports o.next)

-- the library that a file was waiting for is loaded
abbrev pub returned_by : Open → Found → Loading → Option Import → Loads (Open × Loading)
returned_by o found s None = Ok (o, s)
returned_by o found s (Some i) = settled i.set o.needs found s >>= (λ n. Ok (next_of o n.0 (o.next + 1), n.1))

abbrev pub returned : Open → Found → Loading → Loads (Open × Loading)
returned o found s = returned_by o found s (slice_get o.opened.form.imports o.next)

module _ (files : Paths) (roots : List (List ℕ)) where
  abbrev pub inside : ℕ → Option Loader
  inside zero = None
  inside (suc room) = Some (load_file files roots room)

  -- an open file is loaded with some imports left
  abbrev pub go_on : Open → List Bool → List Import → Loading → Loads (Found × Loading)
  go_on o needs is s = refer_each files roots (inside o.room) needs s is >>= (λ n. Ok (found_of o.opened n.0 n.1, n.1))

  abbrev pub go_back : Open → List Import → Found × Loading → Loads (Found × Loading)
  go_back o [] l = go_on o o.needs [] l.1
  go_back o (i ∷ is) l = settled i.set o.needs l.0 l.1 >>= (λ n. go_on o n.0 is n.1)

  -- a file is loaded, and then those that it was opened in, the innermost first
  unfoldable pub unwind : List Open → Found × Loading → Loads (Found × Loading)
  unwind [] l = Ok l
  unwind (o ∷ os) l = go_back o (left o) l >>= unwind os

  unfoldable pub meaning : Open → List Open → Loading → Loads (Found × Loading)
  meaning o os s = go_on o o.needs (left o) s >>= unwind os

  -- the file of the next import is opened
  abbrev pub descended_in : ℕ → ImportSet → Loading → Loads (Open × Loading)
  descended_in zero set s = Err (s, too_many set)
  descended_in (suc room) set s = open_file files roots set s >>= (λ o. Ok (first_of room o.0, o.1))

  abbrev pub descended_by : Open → Loading → Option Import → Loads (Open × Loading)
  descended_by o s None = Ok (o, s)
  descended_by o s (Some i) = descended_in o.room i.set s

  abbrev pub descended : Open → Loading → Loads (Open × Loading)
  descended o s = descended_by o s (slice_get o.opened.form.imports o.next)
