-- Lists that are written from the front, and lists made of two by place.
use Rattle.std.specs.Prelude.{◌≡◌, ℕ, ◌+◌, ◌<◌, ◌≤◌, List, [], ◌∷◌, ◌++◌, length, map, take, drop}
use Rattle.std.specs.Prelude.{slice_index_or, slice_set}
use Rattle.std.specs.List.{range_with_len}
use Rattle.std.proofs.Common.{zero, suc, sym, ◌∙◌, ap, refl, arith}
use Rattle.std.proofs.Math.ListN.{get_or-map}
use Rattle.std.proofs.lemmas.List.{length-map, map-set, get_or-map as read-map}
use Rattle.circle_commit.specs.DotProduct.{pairwise}

-- the first i entries are new, the others old
abbrev pub written : {T : Type 0} → ℕ → List T → List T → List T
written i new old = take i new ++ drop i old

pub written-read : {T : Type 0} (i : ℕ) (new old : List T) (d : T) → length new ≡ length old →
    slice_index_or (written i new old) i d ≡ slice_index_or old i d
written-read zero new old d e = refl
written-read (suc i) [] [] d e = refl
written-read (suc i) [] (y ∷ old) d e = absurd (omega arith)
written-read (suc i) (x ∷ new) [] d e = absurd (omega arith)
written-read (suc i) (x ∷ new) (y ∷ old) d e = written-read i new old d (omega arith)

pub written-more : {T : Type 0} (i : ℕ) (new old : List T) (d : T) → length new ≡ length old →
    i < length old →
    slice_set (written i new old) i (slice_index_or new i d) ≡ written (i + 1) new old
written-more zero [] old d e h = absurd (omega arith)
written-more zero (x ∷ new) [] d e h = absurd (omega arith)
written-more zero (x ∷ new) (y ∷ old) d e h = refl
written-more (suc i) [] old d e h = absurd (omega arith)
written-more (suc i) (x ∷ new) [] d e h = absurd (omega arith)
written-more (suc i) (x ∷ new) (y ∷ old) d e h =
    let s : suc (i + 1) ≡ suc i + 1 = omega arith in
    ap (λ rest. x ∷ rest) (written-more i new old d (omega arith) (omega arith))
    ∙ ap (λ n. written n (x ∷ new) (y ∷ old)) s

-- one entry more of a list that is mapped in place
pub mapped-more : {T : Type 0} (f : T → T) (i : ℕ) (old now : List T) (a v : T) → i < length old →
    now ≡ written i (map f old) old →
    a ≡ slice_index_or now i a → v ≡ f a → slice_set now i v ≡ written (i + 1) (map f old) old
mapped-more f i old now a v here so_far read made =
    let long = length-map old f in
    let own : a ≡ slice_index_or old i a = read ∙ ap (λ xs. slice_index_or xs i a) so_far
    ∙ written-read i (map f old) old a long in
    let entry : v ≡ slice_index_or (map f old) i (f a) = made ∙ ap f own
    ∙ sym (get_or-map f old i a) in
    ap (λ xs. slice_set xs i v) so_far ∙ ap (slice_set (written i (map f old) old) i) entry
    ∙ written-more i (map f old) old (f a) long here

pub written-all : {T : Type 0} (i : ℕ) (new old : List T) → length new ≡ length old →
    length old ≤ i → written i new old ≡ new
written-all zero [] [] e h = refl
written-all zero [] (y ∷ old) e h = absurd (omega arith)
written-all zero (x ∷ new) old e h = absurd (omega arith)
written-all (suc i) [] [] e h = refl
written-all (suc i) [] (y ∷ old) e h = absurd (omega arith)
written-all (suc i) (x ∷ new) [] e h = absurd (omega arith)
written-all (suc i) (x ∷ new) (y ∷ old) e h =
    ap (λ rest. x ∷ rest) (written-all i new old (omega arith) (omega arith))

pub length-written : {T : Type 0} (i : ℕ) (new old : List T) → length new ≡ length old →
    length (written i new old) ≡ length old
length-written zero new old e = refl
length-written (suc i) [] [] e = refl
length-written (suc i) [] (y ∷ old) e = absurd (omega arith)
length-written (suc i) (x ∷ new) [] e = absurd (omega arith)
length-written (suc i) (x ∷ new) (y ∷ old) e = ap suc (length-written i new old (omega arith))

module _ {A B C : Type 0} (f : A → B → C) where
  pub length-pairwise : (xs : List A) (ys : List B) → length xs ≡ length ys →
      length (pairwise f xs ys) ≡ length xs
  length-pairwise [] ys e = refl
  length-pairwise (x ∷ xs) [] e = absurd (omega arith)
  length-pairwise (x ∷ xs) (y ∷ ys) e = ap suc (length-pairwise xs ys (omega arith))

  pub pairwise-read : (xs : List A) (ys : List B) (i : ℕ) (a : A) (b : B) (c : C) → i < length xs →
      i < length ys →
      slice_index_or (pairwise f xs ys) i c ≡ f (slice_index_or xs i a) (slice_index_or ys i b)
  pairwise-read [] ys i a b c h g = absurd (omega arith)
  pairwise-read (x ∷ xs) [] i a b c h g = absurd (omega arith)
  pairwise-read (x ∷ xs) (y ∷ ys) zero a b c h g = refl
  pairwise-read (x ∷ xs) (y ∷ ys) (suc i) a b c h g =
      pairwise-read xs ys i a b c (omega arith) (omega arith)

-- a list of values that are known by what m shows of them, the first i already changed by f and
-- their partners
module _ {V X B : Type 0} (m : V → X) (f : X → B → X) (i : ℕ) (old now : List V) (partners : List B)
    (d : V) (paired : length old ≡ length partners) (here : i < length old)
    (kept : length now ≡ length old)
    (so_far : map m now ≡ written i (pairwise f (map m old) partners) (map m old)) where
  -- the next one is as it was
  pub partnered-read : m (slice_index_or now i d) ≡ m (slice_index_or old i d)
  partnered-read =
      let long = length-pairwise f (map m old) partners (length-map old m ∙ paired) in
      sym (read-map m now i d (m d) (omega (arith, here, kept)))
      ∙ ap (λ xs. slice_index_or xs i (m d)) so_far
      ∙ written-read i (pairwise f (map m old) partners) (map m old) (m d) long
      ∙ read-map m old i d (m d) here

  -- and so one more is changed
  pub partnered-more : (b : B) (v : V) → b ≡ slice_index_or partners i b →
      m v ≡ f (m (slice_index_or now i d)) b →
      map m (slice_set now i v) ≡ written (i + 1) (pairwise f (map m old) partners) (map m old)
  partnered-more b v own made =
      let all = pairwise f (map m old) partners in
      let listed : length (map m old) ≡ length old = length-map old m in
      let long : length all ≡ length (map m old) =
      length-pairwise f (map m old) partners (listed ∙ paired) in
      let is : m v ≡ slice_index_or all i (m v) =
      made ∙ ap (λ x. f x b) (partnered-read ∙ sym (read-map m old i d (m d) here))
      ∙ ap (f (slice_index_or (map m old) i (m d))) own
      ∙ sym (pairwise-read f (map m old) partners i (m d) b (m v) (omega (arith, here, listed))
      (omega (arith, here, paired))) in
      map-set m now i v ∙ ap (λ xs. slice_set xs i (m v)) so_far
      ∙ ap (slice_set (written i all (map m old)) i) is
      ∙ written-more i all (map m old) (m v) long (omega (arith, here, listed))

-- one more entry of a list by index
pub range-more : {X : Type 0} (f : ℕ → X) (a n : ℕ) → map f (range_with_len a (n + 1))
    ≡ map f (range_with_len a n) ++ f (a + n) ∷ []
range-more f a zero = let e : a ≡ a + 0 = omega arith in ap (λ m. f m ∷ []) e
range-more f a (suc n) =
    let e : suc n + 1 ≡ suc (n + 1) = omega arith in
    let z : a + 1 + n ≡ a + suc n = omega arith in
    ap (λ m. map f (range_with_len a m)) e
    ∙ ap (λ rest. f a ∷ rest)
    (range-more f (a + 1) n ∙ ap (λ m. map f (range_with_len (a + 1) n) ++ f m ∷ []) z)
