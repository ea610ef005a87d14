-- Lists of pairs, and the sizes of parts.
use Rattle.std.specs.Prelude.{◌≡◌, ℕ, ◌+◌, ◌-◌, ◌*◌, ◌/◌, ◌^◌, ◌≤◌, List, length, map, All}
use Rattle.std.specs.Prelude.{slice_index_or}
use Rattle.std.specs.Prelude.{Result, Ok, Err, IfOk}
use Rattle.std.proofs.Common.{suc, pow-add, sym, ◌∙◌, ap, subst, arith}
use Rattle.std.proofs.lemmas.List.{length-map, get_or-map}
use Rattle.std.proofs.Math.Nat.{pow-suc, mul-le-mul_right}
use Rattle.std.proofs.lemmas.List.FromFn.{length-map-range_with_len}
use Rattle.circle_commit.specs.Matrix.{mapped_rows}
use Rattle.circle_domain.specs.Splitting.{place_of, split_rows}
use Rattle.circle_commit.proofs.Powers.{exponent_unique, power_positive}

pub if_ok : {T E : Type 0} (P Q : T → Type 0) → ((v : T) → P v → Q v) → (r : Result T E) →
    IfOk r P → IfOk r Q
if_ok P Q f (Ok v) h = f v h
if_ok P Q f (Err e) h = tt

pub all-of-map : {A B : Type 0} (f : A → B) (P : B → Type 0) (xs : List A) (ys : List B) →
    map f xs ≡ ys → All P ys → All (λ x. P (f x)) xs
all-of-map f P xs ys e all = λ i d lt.
    subst P
    (ap (λ zs. slice_index_or zs i (f d)) (sym e) ∙ get_or-map f xs i d (f d) lt)
    (all i (f d) (omega (arith, lt, ap length e, length-map xs f)))

-- the size of a part of 2^k
pub part-size : (m n k : ℕ) → 2 ^ m * 2 ^ k ≡ 2 ^ (n + k) → m ≡ n
part-size m n k e =
    let same : m + k ≡ n + k = exponent_unique (m + k) (n + k) (pow-add 2 m k ∙ e) in
    omega (arith, same)

pub part_room : (n k : ℕ) → 1 ≤ n → 2 * 2 ^ k ≤ 2 ^ (n + k)
part_room n k positive =
    let e : suc (n - 1) ≡ n = omega (arith, positive) in
    let h : 2 ≤ 2 ^ n =
    omega (arith, ap (λ m. 2 ^ m) e, pow-suc 2 (n - 1), power_positive (n - 1)) in
    omega (arith, pow-add 2 n k, mul-le-mul_right (2 ^ k) h)

-- as many parts as were asked for
pub length-split : {T : Type 0} (c height : ℕ) (all : List (List T)) →
    length (split_rows c height all) ≡ c
length-split c height all =
    length-map-range_with_len (λ j. mapped_rows (place_of c j) (height / c) all) 0 c
