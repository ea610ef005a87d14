-- What is read of a JSON value is one value, and isn't refused.
use Rattle.std.specs.Prelude.{◌≡◌, List, [], ◌∷◌, map, Result}
use Rattle.std.proofs.Common.{◌∙◌, ap, ⊎_elim, refl}
use Rattle.circle_field.specs.declared.cubic.Cubic.{Cubic}
use Rattle.circle_field.specs.CubicOperations.{same_residues}
use Rattle.circle_field.specs.Mersenne31.{residue}
use Rattle.circle_json.specs.declared.error.JsonError.{JsonError}
use Rattle.circle_json.specs.declared.error.JsonError.TheVariants.{Memory}
use Rattle.serde_json.specs.Data.{Data, null, boolean, number, string, array, object, Items}
use Rattle.serde_json.specs.Data.{no_items, item}
use Rattle.serde_json.specs.View.{items_of}
use Rattle.circle_json.specs.Values.{IsRead, IsRefused, ReadsItems, ReadsArray, RefusesItem}
use Rattle.circle_json.specs.Values.{RefusesArray, SameItems, coefficient_residues}

module _ {T A : Type 0} (of : Data → Result A JsonError) (shown : T → A) where
  pub refused_others : (value : Data) (x : T) (error : JsonError) → IsRead of shown value x →
      IsRefused of value error → error ≡ Memory
  refused_others value x error read refused = absurd (cc)

  pub read_one : (value : Data) (x y : T) → IsRead of shown value x → IsRead of shown value y →
      shown x ≡ shown y
  read_one value x y p q = cc

pub same_coefficients : (a b : Cubic) → coefficient_residues a ≡ coefficient_residues b → a ≡ b
same_coefficients a b e =
    let c0 : residue a.c0 ≡ residue b.c0 = cc in
    let c1 : residue a.c1 ≡ residue b.c1 = cc in
    let c2 : residue a.c2 ≡ residue b.c2 = cc in
    same_residues a b c0 c1 c2

module _ {T : Type 0} (Same : T → T → Type 0) (Reads : Data → T → Type 0)
    (one : (value : Data) (x y : T) → Reads value x → Reads value y → Same x y) where
  items_read_one : (ds : Items) (xs ys : List T) → ReadsItems Reads ds xs → ReadsItems Reads ds ys →
      SameItems Same xs ys
  items_read_one no_items [] [] p q = tt
  items_read_one no_items [] (y ∷ ys) p q = absurd q
  items_read_one no_items (x ∷ xs) ys p q = absurd p
  items_read_one (item d ds) [] ys p q = absurd p
  items_read_one (item d ds) (x ∷ xs) [] p q = absurd q
  items_read_one (item d ds) (x ∷ xs) (y ∷ ys) p q =
      (one d x y p.0 q.0, items_read_one ds xs ys p.1 q.1)

  pub array_reads_one : (value : Data) (xs ys : List T) → ReadsArray Reads value xs →
      ReadsArray Reads value ys → SameItems Same xs ys
  array_reads_one null xs ys p q = absurd p
  array_reads_one (boolean b) xs ys p q = absurd p
  array_reads_one (number n) xs ys p q = absurd p
  array_reads_one (string s) xs ys p q = absurd p
  array_reads_one (array ds) xs ys p q = items_read_one ds xs ys p q
  array_reads_one (object ms) xs ys p q = absurd p

module _ {T : Type 0} (Same : T → T → Type 0) (written : T → Data) (alike : (x y : T) → Same x y →
    written x ≡ written y) where
  map_written_alike : (xs ys : List T) → SameItems Same xs ys → map written xs ≡ map written ys
  map_written_alike [] [] same = refl
  map_written_alike [] (y ∷ ys) same = absurd same
  map_written_alike (x ∷ xs) [] same = absurd same
  map_written_alike (x ∷ xs) (y ∷ ys) same =
      ap (λ w. w ∷ map written xs) (alike x y same.0)
      ∙ ap (λ ws. written y ∷ ws) (map_written_alike xs ys same.1)

  pub items_written_alike : (xs ys : List T) → SameItems Same xs ys →
      array (items_of (map written xs)) ≡ array (items_of (map written ys))
  items_written_alike xs ys same = ap (λ ws. array (items_of ws)) (map_written_alike xs ys same)

module _ {T : Type 0} (Reads : Data → T → Type 0) (Refuses : Data → JsonError → Type 0)
    (others : (value : Data) (x : T) (error : JsonError) → Reads value x → Refuses value error →
    error ≡ Memory) where
  item_refuses_others : (ds : Items) (xs : List T) (error : JsonError) → ReadsItems Reads ds xs →
      RefusesItem Refuses ds error → error ≡ Memory
  item_refuses_others no_items xs error p r = absurd r
  item_refuses_others (item d ds) [] error p r = absurd p
  item_refuses_others (item d ds) (x ∷ xs) error p r =
      ⊎_elim (λ here. others d x error p.0 here)
      (λ after. item_refuses_others ds xs error p.1 after) r

  pub array_refuses_others : (value : Data) (xs : List T) (error : JsonError) →
      ReadsArray Reads value xs → RefusesArray Refuses value error → error ≡ Memory
  array_refuses_others null xs error p r = absurd p
  array_refuses_others (boolean b) xs error p r = absurd p
  array_refuses_others (number n) xs error p r = absurd p
  array_refuses_others (string s) xs error p r = absurd p
  array_refuses_others (array ds) xs error p r =
      ⊎_elim (λ memory. memory) (λ some. item_refuses_others ds xs error p some) r
  array_refuses_others (object ms) xs error p r = absurd p
