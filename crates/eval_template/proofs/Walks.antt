-- Walking along the elements of a list or vector.
use Rattle.std.proofs.Common.{◌≡◌, ℕ, zero, suc, Bool, List, [], ◌∷◌, ◌++◌, map, take, drop, length, Ok, Err, refl, ap, sym, ◌∙◌}
use Rattle.std.specs.Prelude.{Result}
use Rattle.base_data.specs.Gives.{Stops, ◌>>=◌}
use Rattle.base_data.specs.declared.fault.Fault.{Fault}
use Rattle.base_data.specs.declared.fault.Stop.{Stop}
use Rattle.base_data.specs.declared.fault.Stop.TheVariants as stops
use Rattle.stx_tree.specs.Tree.{Tree}
use Rattle.eval_template.specs.Compile.{TemplateScope, WalkedItems, dot_count, with_template, item_made, walked}
use Rattle.eval_template.specs.declared.compile.MadeItem.{MadeItem}
use Rattle.eval_template.proofs.Levels.{dots_are}

-- elements that are skipped
skipped : (c : TemplateScope) (escaped : Bool) (under : ℕ) (items : List MadeItem) (n : ℕ) (ts : List Tree)
    → walked c escaped under n items (map (with_template c) ts) ≡ walked c escaped under 0 items (map (with_template c) (drop n ts))
skipped c escaped under items zero ts = refl
skipped c escaped under items (suc n) [] = refl
skipped c escaped under items (suc n) (t ∷ ts) = skipped c escaped under items n ts

module _ (c : TemplateScope) (escaped : Bool) (under : ℕ) (items : List MadeItem) (left : List Tree) (t : Tree) (ts es after : List Tree) (n : ℕ)
    (total : Result (List MadeItem) Fault) (is : left ≡ t ∷ ts) (count : n ≡ dot_count c.frames escaped ts) (front : es ≡ take n ts) (many : length es ≡ n) (back : after ≡ drop n ts) where
  -- how many elements are skipped after an item, and the items then
  abbrev told : List Tree → MadeItem → Result WalkedItems Fault
  told ds i = Ok (length ds, items ++ i ∷ [])

  taken : (ds : List Tree) → ds ≡ es
      → ((item_made c escaped under (with_template c t) ds >>= told ds) >>= λ w. walked c escaped under w.0 w.1 (map (with_template c) ts))
      ≡ (item_made c escaped under (with_template c t) es >>= λ i. walked c escaped under 0 (items ++ i ∷ []) (map (with_template c) after))
  taken ds e =
      ap (λ xs. (item_made c escaped under (with_template c t) xs >>= told xs) >>= λ w. walked c escaped under w.0 w.1 (map (with_template c) ts)) e
      ∙ go (item_made c escaped under (with_template c t) es)
    where
      behind : drop (length es) ts ≡ after
      behind = ap (λ k. drop k ts) many ∙ sym back

      go : (r : Result MadeItem Fault) → ((r >>= told es) >>= λ w. walked c escaped under w.0 w.1 (map (with_template c) ts))
          ≡ (r >>= λ i. walked c escaped under 0 (items ++ i ∷ []) (map (with_template c) after))
      go (Ok i) = skipped c escaped under (items ++ i ∷ []) (length es) ts ∙ ap (λ us. walked c escaped under 0 (items ++ i ∷ []) (map (with_template c) us)) behind
      go (Err f) = refl

  here : walked c escaped under 0 items (map (with_template c) left) ≡ (item_made c escaped under (with_template c t) es >>= λ i. walked c escaped under 0 (items ++ i ∷ []) (map (with_template c) after))
  here =
      ap (λ us. walked c escaped under 0 items (map (with_template c) us)) is
      ∙ taken _ (dots_are c escaped ts ∙ ap (λ k. take k ts) (sym count) ∙ sym front)

  -- an element gave an item: the rest goes on from there
  pub forms_on : (i : MadeItem) → item_made c escaped under (with_template c t) es ≡ Ok i
      → walked c escaped under 0 items (map (with_template c) left) ≡ total → walked c escaped under 0 (items ++ i ∷ []) (map (with_template c) after) ≡ total
  forms_on i given so_far = sym (here ∙ ap (λ r. r >>= λ j. walked c escaped under 0 (items ++ j ∷ []) (map (with_template c) after)) given) ∙ so_far

  -- an element is at fault: so is the whole
  pub forms_stop : (stop : Stop) → Stops stop (item_made c escaped under (with_template c t) es) → walked c escaped under 0 items (map (with_template c) left) ≡ total → Stops stop total
  forms_stop stops.Memory given so_far = tt
  forms_stop (stops.Fault f) given so_far = sym so_far ∙ here ∙ ap (λ r. r >>= λ j. walked c escaped under 0 (items ++ j ∷ []) (map (with_template c) after)) given
