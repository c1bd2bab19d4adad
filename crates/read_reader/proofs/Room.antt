-- Where more forms may be nested, what was taken is taken too.
use Rattle.std.proofs.Common.{◌≡◌, ℕ, suc, List, [], ◌∷◌, refl, ap, ◌∙◌, subst}
use Rattle.base_data.specs.Datum.{PlainDatum}
use Rattle.read_lexer.specs.declared.token.Lexeme.{Lexeme}
use Rattle.read_machine.specs.declared.extent.Extent.{Extent}
use Rattle.read_machine.specs.declared.partial.OpenParts.{OpenParts}
use Rattle.read_machine.specs.declared.partial.OpenParts.TheVariants as parts
use Rattle.read_machine.specs.declared.partial.Partial.{Partial}
use Rattle.read_machine.specs.Partial.{misplaced}
use Rattle.read_reader.specs.Grammar.{IsDatum, IsNext, AreItems, AreBytes, constant, name, list, dotted, elements, bytes, abbreviation, here, past, no_items, item, skipped, no_bytes, byte, skipped_there}
use Rattle.read_reader.specs.Partial.{room_round, InsideForm, in_list, behind_dot, behind_tail, in_vector, in_bytes, behind_prefix, behind_skip, partial, Fits, ComesTo, at_top, within}

module _ (file : List ℕ) where
  mutual
    roomy : {n : ℕ} {ls : List Lexeme} {d : PlainDatum} {x : Extent} → IsDatum file n ls d x → IsDatum file (suc n) ls d x
    roomy (constant c x) = constant c x
    roomy (name w x) = name w x
    roomy (list b x y items) = list b x y (roomy_items items)
    roomy (dotted b x y dot items last skips) = dotted b x y dot (roomy_items items) (roomy_next last) (roomy_items skips)
    roomy (elements x y items) = elements x y (roomy_items items)
    roomy (bytes x y items) = bytes x y (roomy_bytes items)
    roomy (abbreviation k x next) = abbreviation k x (roomy_next next)

    roomy_next : {n : ℕ} {ls : List Lexeme} {d : PlainDatum} {x : Extent} → IsNext file n ls d x → IsNext file (suc n) ls d x
    roomy_next (here d) = here (roomy d)
    roomy_next (past skip one next) = past skip (roomy_next one) (roomy_next next)

    roomy_items : {n : ℕ} {ls : List Lexeme} {ds : List PlainDatum} → AreItems file n ls ds → AreItems file (suc n) ls ds
    roomy_items no_items = no_items
    roomy_items (item one others) = item (roomy one) (roomy_items others)
    roomy_items (skipped skip one others) = skipped skip (roomy_next one) (roomy_items others)

    roomy_bytes : {n : ℕ} {ls : List Lexeme} {ns : List ℕ} → AreBytes file n ls ns → AreBytes file (suc n) ls ns
    roomy_bytes no_bytes = no_bytes
    roomy_bytes (byte m x small others) = byte m x small (roomy_bytes others)
    roomy_bytes (skipped_there skip one others) = skipped_there skip (roomy_next one) (roomy_bytes others)

  roomy_inside : {n : ℕ} {ls : List Lexeme} {p : OpenParts} → InsideForm file n ls p → InsideForm file (suc n) ls p
  roomy_inside (in_list b items) = in_list b (roomy_items items)
  roomy_inside (behind_dot b dot items skips) = behind_dot b dot (roomy_items items) (roomy_items skips)
  roomy_inside (behind_tail b dot items next skips) = behind_tail b dot (roomy_items items) (roomy_next next) (roomy_items skips)
  roomy_inside (in_vector items) = in_vector (roomy_items items)
  roomy_inside (in_bytes items) = in_bytes (roomy_bytes items)
  roomy_inside (behind_prefix k skips) = behind_prefix k (roomy_items skips)
  roomy_inside (behind_skip skips) = behind_skip (roomy_items skips)

-- with room for one more form everywhere
abbrev pub roomier : List Partial → List Partial
roomier [] = []
roomier (f ∷ fs) = partial f.opening (suc f.room) f.parts ∷ roomier fs

pub misplaced-roomier : (fs : List Partial) (x : Extent) → misplaced (roomier fs) x ≡ misplaced fs x
misplaced-roomier [] x = refl
misplaced-roomier (f ∷ fs) x = refl

pub fits_roomier : (p : OpenParts) (x : Extent) (fs : List Partial) → Fits p x fs → Fits p x (roomier fs)
fits_roomier (parts.List b ds last) x fs h = misplaced-roomier fs x ∙ h
fits_roomier (parts.Vector ds) x fs h = misplaced-roomier fs x ∙ h
fits_roomier (parts.Bytes ns) x fs h = misplaced-roomier fs x ∙ h
fits_roomier (parts.Abbreviation k) x fs h = misplaced-roomier fs x ∙ h
fits_roomier parts.Skipped x fs h = tt

room_round-suc : (p : OpenParts) (n : ℕ) → suc (room_round p n) ≡ room_round p (suc n)
room_round-suc (parts.List b ds last) n = refl
room_round-suc (parts.Vector ds) n = refl
room_round-suc (parts.Bytes ns) n = refl
room_round-suc (parts.Abbreviation k) n = refl
room_round-suc parts.Skipped n = refl

pub held_roomier : (file : List ℕ) (nesting : ℕ) {n : ℕ} {ls : List Lexeme} {fs : List Partial} {found : List PlainDatum} → ComesTo file nesting n ls fs found
    → ComesTo file (suc nesting) (suc n) ls (roomier fs) found
held_roomier file nesting (at_top e items) = at_top (ap suc e) (roomy_items file items)
held_roomier file nesting {ls = seen} {found = found} (within {n} {ls = ls} {p = p} {fs = fs} x h fits inside) =
    within x (subst (λ (k : ℕ). ComesTo file (suc nesting) k ls (roomier fs) found) (room_round-suc p n) (held_roomier file nesting h)) (fits_roomier p x fs fits) (roomy_inside file inside)
