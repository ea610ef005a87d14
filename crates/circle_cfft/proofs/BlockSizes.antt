-- How many blocks a layer has in a part of the entries, and how many entries they make up.
use Rattle.std.specs.Prelude.{◌≡◌, ℕ, ◌+◌, ◌-◌, ◌*◌, ◌/◌, ◌^◌, ◌<◌, ◌≤◌, List, length, drop}
use Rattle.std.specs.Prelude.{slice_index_or, Vec}
use Rattle.std.specs.declared.alloc.Global.{Global}
use Rattle.std.proofs.Common.{zero, suc, sym, ◌∙◌, ap, refl, arith, length-drop}
use Rattle.std.proofs.Math.Nat.{pow-suc, mul-div_cancel, mul-le-mul_right, pow-le-pow_right}
use Rattle.std.proofs.lemmas.Nat.{pow_pos}
use Rattle.std.proofs.lemmas.List.{length-take, get_or-map}
use Rattle.circle_cfft.specs.Passes.{factors_at}
use Rattle.circle_cfft.specs.Parts.{part_of, factors_of_part, AreLayersOfPart}

pub cancel : (a b m : ℕ) → 0 < m → a * m ≡ b * m → a ≡ b
cancel a b m h e = sym (mul-div_cancel a h) ∙ ap (λ x. x / m) e ∙ mul-div_cancel b h

pub positive_factor : (a m n : ℕ) → a * m ≡ n → 1 ≤ n → 0 < a
positive_factor zero m n e h =
    absurd (let none : 0 * m ≡ 0 = omega arith in omega (arith, e, h, none))
positive_factor (suc a) m n e h = omega arith

-- a part with n entries is within the list
pub part-fits : {F : Type 0} (part n : ℕ) (factors : List F) → 0 < n →
    length (part_of part n factors) ≡ n → part * n + n ≤ length factors
part-fits part n factors h long =
    omega (
      arith,
      h,
      sym (length-take n (drop (part * n) factors)) ∙ long,
      length-drop (part * n) factors,
    )

pub half-more : (l width : ℕ) → 2 ^ (l + 1) * width ≡ 2 ^ l * width + 2 ^ l * width
half-more l width =
    let one : l + 1 ≡ suc l = omega arith in
    ap (λ n. 2 ^ n * width) one ∙ ap (λ n. n * width) (pow-suc 2 l)
    ∙ (let e : 2 ^ l * 2 * width ≡ 2 ^ l * width + 2 ^ l * width = omega arith in e)

pub half-positive : (l width : ℕ) → 1 ≤ width → 0 < 2 ^ l * width
half-positive l width wide =
    let least : 1 ≤ 2 ^ l = omega (arith, pow_pos l) in
    let whole : 1 * width ≤ 2 ^ l * width = mul-le-mul_right width least in
    omega (arith, whole, wide)

small-by : (k l : ℕ) → k ≡ 64 - l → 2 ^ l < 2 ^ 64 → l < 64
small-by zero l e h =
    let le : 64 ≤ l = omega (arith, e) in
    let two : 0 < 2 = omega arith in
    let least : 2 ^ 64 ≤ 2 ^ l = pow-le-pow_right two le in
    absurd (omega (arith, least, h))
small-by (suc k) l e h = omega (arith, e)

-- a shift that loses nothing is by less than a word
pub small-shift : (l width : ℕ) → 1 ≤ width → 2 ^ l * width < 2 ^ 64 → l < 64
small-shift l width wide fits =
    let whole : 1 * 2 ^ l ≤ width * 2 ^ l = mul-le-mul_right (2 ^ l) wide in
    let other : width * 2 ^ l ≡ 2 ^ l * width = omega arith in
    small-by (64 - l) l refl (omega (arith, whole, other, fits))

-- a layer's factors, read from the vector that has them
pub factors-read : {F : Type 0} (twiddles : List (Vec F Global)) (l : ℕ) (v : Vec F Global) →
    l < length twiddles → v ≡ slice_index_or twiddles l v → factors_at twiddles l ≡ v.items
factors-read twiddles l v h is_v = get_or-map (λ w. w.items) twiddles l v _ h
    ∙ ap (λ w. w.items) (sym is_v)

module _ {F : Type 0} (width count part : ℕ) (twiddles : List (Vec F Global)) (wide : 1 ≤ width)
    (some : 1 ≤ count) (layers : AreLayersOfPart width count part twiddles)
    (l : ℕ) (here : l < length twiddles) where
  pub block-positive : 0 < 2 ^ l * width + 2 ^ l * width
  block-positive = omega (arith, half-positive l width wide)

  pub blocks-count : length (factors_of_part width count part twiddles l)
      ≡ count / (2 ^ l * width + 2 ^ l * width)
  blocks-count =
      let block = 2 ^ l * width + 2 ^ l * width in
      sym (mul-div_cancel (length (factors_of_part width count part twiddles l)) {n = block}
      block-positive) ∙ ap (λ n. n / block) (layers l here)

  pub blocks-positive : 0 < length (factors_of_part width count part twiddles l)
  blocks-positive = positive_factor _ (2 ^ l * width + 2 ^ l * width) count (layers l here) some

  pub blocks-fit : part * (count / (2 ^ l * width + 2 ^ l * width))
      + count / (2 ^ l * width + 2 ^ l * width) ≤ length (factors_at twiddles l)
  blocks-fit = part-fits part (count / (2 ^ l * width + 2 ^ l * width)) (factors_at twiddles l)
      (omega (arith, blocks-positive, blocks-count)) blocks-count

  pub block-fits : 2 ^ l * width + 2 ^ l * width ≤ count
  block-fits =
      let block = 2 ^ l * width + 2 ^ l * width in
      let least : 1 ≤ length (factors_of_part width count part twiddles l) =
      omega (arith, blocks-positive) in
      let whole : 1 * block ≤ length (factors_of_part width count part twiddles l) * block =
      mul-le-mul_right block least in
      omega (arith, whole, layers l here)

module _ {F : Type 0} (width count part : ℕ) (twiddles : List (Vec F Global)) (wide : 1 ≤ width)
    (layers : AreLayersOfPart width count part twiddles)
    (l : ℕ) (here : l + 1 < length twiddles) where
  -- the blocks of two layers
  pub upper-blocks : count ≡ length (factors_of_part width count part twiddles (l + 1)) *
      ((2 ^ l * width + 2 ^ l * width) + (2 ^ l * width + 2 ^ l * width))
  upper-blocks = sym (layers (l + 1) here)
      ∙ ap (λ n. length (factors_of_part width count part twiddles (l + 1)) * (n + n))
      (half-more l width)

  pub lower-blocks : length (factors_of_part width count part twiddles l)
      ≡ length (factors_of_part width count part twiddles (l + 1))
      + length (factors_of_part width count part twiddles (l + 1))
  lower-blocks =
      let half = 2 ^ l * width + 2 ^ l * width in
      let n = length (factors_of_part width count part twiddles (l + 1)) in
      cancel (length (factors_of_part width count part twiddles l)) (n + n) half
      (omega (arith, half-positive l width wide))
      (layers l (omega (arith, here)) ∙ upper-blocks
      ∙ (let e : n * (half + half) ≡ (n + n) * half = omega arith in e))
