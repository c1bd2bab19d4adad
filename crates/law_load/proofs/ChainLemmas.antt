-- A chain of imports leads to each library.
use Rattle.std.proofs.Common.{◌≡◌, ℕ, zero, suc, ◌<◌, ◌≤◌, List, Ok, sym, subst, inl, inr, arith}
use Rattle.std.proofs.lemmas.Option.{slice_get_within}
use Rattle.load_file_names.specs.File.{file_of}
use Rattle.base_outside.specs.Contents.{Paths}
use Rattle.load_files.specs.Load.{load}
use Rattle.load_files.specs.declared.found.Found.{Found}
use Rattle.load_files.specs.declared.found.Loading.{Loading}
use Rattle.law_load.specs.Laws.{IsAt, Needs, IsBrought}
use Rattle.law_load.specs.Chains.{LeadTo, at_once, by_others, ChainsLeadToNeeds, NeedsAll, ImportsLeadToAll}
use Rattle.law_load.proofs.Invariant.{Stands}
use Rattle.law_load.proofs.ReferLemmas.{IsSound}
use Rattle.law_load.proofs.LoadLemmas.{IsWhole, loads_all}

module _ (s : Loading) (sound : IsSound s) where
  -- each import stands before the library that imports it, so chains end
  leads : (bound : ℕ) (found : Found) → found.place ≤ bound → Stands s.done found → (place : ℕ) → Needs found place → LeadTo s.done found.opened.form.imports place
  leads zero found low stands place needed = let before = (stands.closed place needed).before in absurd (omega (arith, before, low))
  leads (suc bound) found low stands place needed =
      elim b.brings.brought [
        | inl e ↦ at_once found.opened.form.imports place b.brings.library (record { n = b.n; import = b.import; among = b.among; there = subst (λ q. IsAt s.done q (file_of b.import.set.library) b.brings.library) (sym e) b.brings.there })
        | inr m ↦ by_others found.opened.form.imports place b.brings.from b.brings.library (record { n = b.n; import = b.import; among = b.among; there = b.brings.there })
            (leads bound b.brings.library lower (sound.stand b.brings.from (file_of b.import.set.library) b.brings.library b.brings.there) place m)
      ]
    where
      b : IsBrought s.done found.opened.form.imports place
      b = stands.only place needed

      lower : b.brings.library.place ≤ bound
      lower =
          let imported = (stands.after b.n b.import b.among).loaded_before b.brings.not_given in
          let same : imported.place ≡ b.brings.from = sound.once.once imported.place b.brings.from (file_of b.import.set.library) imported.library b.brings.library imported.there b.brings.there in
          let place : b.brings.library.place ≡ b.brings.from = sound.once.in_order b.brings.from (file_of b.import.set.library) b.brings.library b.brings.there in
          let before : imported.place < found.place = imported.before in
          omega (arith, same, place, before, low)

module _ (files : Paths) (roots : List (List ℕ)) (path : List ℕ) (program : Found) (s : Loading) (h : load files roots path ≡ Ok (program, s)) where
  whole : IsWhole (program, s)
  whole = loads_all files roots path program s h

  pub needs_all : NeedsAll s.done program
  needs_all place file library at = whole.covers place (slice_get_within s.done place (file, library) at)

  pub chains_lead : ChainsLeadToNeeds s.done program
  chains_lead place needed = leads s whole.sound program.place program (omega arith) whole.stands place needed

  pub imports_lead : ImportsLeadToAll s.done program
  imports_lead place file library at = chains_lead place (needs_all place file library at)
