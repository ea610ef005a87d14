-- Arrays of JSON values, item by item.
use Rattle.std.proofs.Common.{◌≡◌, ℕ, ◌<◌, List, [], ◌∷◌, ◌++◌, length, map, get_or, Some, Result}
use Rattle.std.proofs.Common.{Ok, Err, zero, suc, refl, ap, sym, subst, ◌∙◌, inl, inr, arith, take}
use Rattle.std.proofs.Common.{take_all, ◌+◌, ◌≤◌, IsErrAnd, IfErr}
use Rattle.std.proofs.lemmas.List.{take_more, map-append}
use Rattle.serde_json.specs.Data.{Data, null, boolean, number, string, array, object, Items}
use Rattle.serde_json.specs.Find.{as_array}
use Rattle.serde_json.specs.View.{view, items_of, items_view}
use Rattle.serde_json.specs.declared.value.Value.{Value}
use Rattle.circle_json.specs.declared.error.JsonError.{JsonError}
use Rattle.circle_json.specs.declared.error.JsonError.TheVariants.{Memory, WrongKind}
use Rattle.circle_json.specs.Values.{ReadsItems, ReadsArray, RefusesItem, RefusesArray, residues_of}
use Rattle.circle_json.specs.Values.{residues_of_items}

module _ {T : Type 0} (Reads : Data → T → Type 0) where
  -- one more item that stands for one more value
  pub reads_more : (vs : List Value) (xs : List T) (v : Value) (x : T) →
      ReadsItems Reads (items_view vs) xs → Reads (view v) x →
      ReadsItems Reads (items_view (vs ++ v ∷ [])) (xs ++ x ∷ [])
  reads_more [] [] v x each here = (here, tt)
  reads_more [] (y ∷ xs) v x each here = absurd each
  reads_more (w ∷ vs) [] v x each here = absurd each
  reads_more (w ∷ vs) (y ∷ xs) v x each here = (each.0, reads_more vs xs v x each.1 here)

  -- what an array's items stand for, the array stands for
  pub array_reads : (value : Data) (items : Items) (xs : List T) → as_array value ≡ Some items →
      ReadsItems Reads items xs → ReadsArray Reads value xs
  array_reads null items xs e each = absurd (cc)
  array_reads (boolean b) items xs e each = absurd (cc)
  array_reads (number n) items xs e each = absurd (cc)
  array_reads (string s) items xs e each = absurd (cc)
  array_reads (array ds) items xs e each = let same : ds ≡ items = cc in
      subst (λ (is : Items). ReadsItems Reads is xs) (sym same) each
  array_reads (object ms) items xs e each = absurd (cc)

module _ {T : Type 0} (written : T → Data) (Reads : Data → T → Type 0) where
  -- one more value is written
  pub written_more : (items more : List Value) (xs : List T) (k : ℕ) (v : Value) (x : T) →
      k < length xs → x ≡ get_or xs k x →
      more ≡ items ++ v ∷ [] → view v ≡ written x → Reads (view v) x →
      map view items ≡ map written (take k xs) →
      ReadsItems Reads (items_view items) (take k xs) →
      (map view more ≡ map written (take (k + 1) xs))
      × ReadsItems Reads (items_view more) (take (k + 1) xs)
  written_more items more xs k v x h at grown shown reads before each =
      let next : take (k + 1) xs ≡ take k xs ++ x ∷ [] = take_more xs k x h
      ∙ ap (λ y. take k xs ++ y ∷ []) (sym at) in (
        ap (map view) grown ∙ map-append view items (v ∷ []) ∙ ap (λ ds. ds ++ view v ∷ []) before
            ∙ ap (λ d. map written (take k xs) ++ d ∷ []) shown
            ∙ sym (map-append written (take k xs) (x ∷ [])) ∙ sym (ap (map written) next),
        subst (λ (ys : List T). ReadsItems Reads (items_view more) ys) (sym next)
            (subst (λ (vs : List Value). ReadsItems Reads (items_view vs) (take k xs ++ x ∷ []))
            (sym grown) (reads_more Reads items (take k xs) v x each reads)),
      )

  -- all values are written
  pub written_whole : (items : List Value) (xs : List T) (k : ℕ) → length xs ≤ k →
      map view items ≡ map written (take k xs) → array (items_view items)
      ≡ array (items_of (map written xs))
  written_whole items xs k h each =
      ap (λ ds. array (items_of ds)) (each ∙ ap (map written) (take_all k xs h))

  pub reads_whole : (value : Data) (items : List Value) (xs : List T) (k : ℕ) →
      value ≡ array (items_view items) → length xs ≤ k →
      ReadsItems Reads (items_view items) (take k xs) → ReadsArray Reads value xs
  reads_whole value items xs k shown h each =
      subst (λ (d : Data). ReadsArray Reads d xs) (sym shown)
      (subst (λ (ys : List T). ReadsItems Reads (items_view items) ys) (take_all k xs h) each)

  -- one more value is read
  pub read_more : (items : List Value) (xs more : List T) (k : ℕ) (v : Value) (x : T) →
      k < length items → v ≡ get_or items k v →
      more ≡ xs ++ x ∷ [] → Reads (view v) x → ReadsItems Reads (items_view (take k items)) xs →
      ReadsItems Reads (items_view (take (k + 1) items)) more
  read_more items xs more k v x h at grown reads each =
      let next : take (k + 1) items ≡ take k items ++ v ∷ [] = take_more items k v h
      ∙ ap (λ y. take k items ++ y ∷ []) (sym at) in
      subst (λ (ys : List T). ReadsItems Reads (items_view (take (k + 1) items)) ys) (sym grown)
      (subst (λ (vs : List Value). ReadsItems Reads (items_view vs) (xs ++ x ∷ [])) (sym next)
      (reads_more Reads (take k items) xs v x each reads))

module _ (Refuses : Data → JsonError → Type 0) where
  pub refuses_at : (vs : List Value) (k : ℕ) (d : Value) (error : JsonError) → k < length vs →
      Refuses (view (get_or vs k d)) error → RefusesItem Refuses (items_view vs) error
  refuses_at [] k d error h here = absurd (omega arith)
  refuses_at (v ∷ vs) zero d error h here = inl here
  refuses_at (v ∷ vs) (suc k) d error h here = inr (refuses_at vs k d error (omega arith) here)

  -- an array is refused for want of memory or by one of its items
  pub array_refuses : (value : Data) (items : Items) (error : JsonError) →
      as_array value ≡ Some items → RefusesItem Refuses items error →
      RefusesArray Refuses value error
  array_refuses null items error e some = absurd (cc)
  array_refuses (boolean b) items error e some = absurd (cc)
  array_refuses (number n) items error e some = absurd (cc)
  array_refuses (string s) items error e some = absurd (cc)
  array_refuses (array ds) items error e some = let same : ds ≡ items = cc in
      inr (subst (λ (is : Items). RefusesItem Refuses is error) (sym same) some)
  array_refuses (object ms) items error e some = absurd (cc)

  pub array_may_lack_memory : (value : Data) (items : Items) → as_array value ≡ Some items →
      RefusesArray Refuses value Memory
  array_may_lack_memory null items e = absurd (cc)
  array_may_lack_memory (boolean b) items e = absurd (cc)
  array_may_lack_memory (number n) items e = absurd (cc)
  array_may_lack_memory (string s) items e = absurd (cc)
  array_may_lack_memory (array ds) items e = inl refl
  array_may_lack_memory (object ms) items e = absurd (cc)

-- a refusal that is handed on
pub if_err_from : {X : Type 0} (P : JsonError → Type 0) (r : Result X JsonError) (e : JsonError) →
    IsErrAnd r (λ y. y ≡ e) → P e → IfErr r P
if_err_from P (Ok x) e same here = absurd same
if_err_from P (Err y) e same here = subst P (sym same) here

residues_of-array : (value : Data) (items : Items) → as_array value ≡ Some items → residues_of value
    ≡ residues_of_items items
residues_of-array null items e = absurd (cc)
residues_of-array (boolean b) items e = absurd (cc)
residues_of-array (number n) items e = absurd (cc)
residues_of-array (string s) items e = absurd (cc)
residues_of-array (array ds) items e = let same : ds ≡ items = cc in ap residues_of_items same
residues_of-array (object ms) items e = absurd (cc)

-- an array of fewer than three
pub fewer_than_three : (value : Data) (vs : List Value) → as_array value ≡ Some (items_view vs) →
    length vs < 3 → residues_of value ≡ Err WrongKind
fewer_than_three value [] e h = residues_of-array value _ e
fewer_than_three value (a ∷ []) e h = residues_of-array value _ e
fewer_than_three value (a ∷ b ∷ []) e h = residues_of-array value _ e
fewer_than_three value (a ∷ b ∷ c ∷ vs) e h = absurd (omega arith)

-- an array of more than three
pub more_than_three : (value : Data) (vs : List Value) → as_array value ≡ Some (items_view vs) →
    3 < length vs → residues_of value ≡ Err WrongKind
more_than_three value [] e h = absurd (omega arith)
more_than_three value (a ∷ []) e h = absurd (omega arith)
more_than_three value (a ∷ b ∷ []) e h = absurd (omega arith)
more_than_three value (a ∷ b ∷ c ∷ []) e h = absurd (omega arith)
more_than_three value (a ∷ b ∷ c ∷ d ∷ vs) e h = residues_of-array value _ e
