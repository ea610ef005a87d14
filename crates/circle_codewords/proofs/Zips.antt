-- Lists whose elements belong together, place by place.
use Rattle.std.specs.Prelude.{◌≡◌, ℕ, ◌+◌, ◌<◌, List, [], ◌∷◌, ◌++◌, length, take, All}
use Rattle.std.specs.Prelude.{slice_index_or}
use Rattle.std.specs.List.{AllZip}
use Rattle.std.proofs.Common.{◌∙◌, zero, suc, sym, ap, subst, arith}
use Rattle.std.proofs.lemmas.List.{take_more}
use Rattle.std.proofs.lemmas.List.Elements.{All-nil, All-cons}

module _ {X Y : Type 0} (R : X → Y → Type 0) where
  zip-push : (xs : List X) (ys : List Y) (x : X) (y : Y) → AllZip R xs ys → R x y →
      AllZip R (xs ++ x ∷ []) (ys ++ y ∷ [])
  zip-push [] [] x y all here = (here, tt)
  zip-push [] (b ∷ ys) x y all here = absurd all
  zip-push (a ∷ xs) [] x y all here = absurd all
  zip-push (a ∷ xs) (b ∷ ys) x y all here = (all.0, zip-push xs ys x y all.1 here)

  -- one more value that is pushed for one more item
  pub pushed-more : (xs : List X) (i : ℕ) (x : X) (old : List Y) (y : Y) → i < length xs →
      x ≡ slice_index_or xs i x → AllZip R (take i xs) old → R x y →
      AllZip R (take (i + 1) xs) (old ++ y ∷ [])
  pushed-more xs i x old y lt is so_far here =
      subst (λ l. AllZip R l (old ++ y ∷ []))
      (ap (λ z. take i xs ++ z ∷ []) is ∙ sym (take_more xs i x lt))
      (zip-push (take i xs) old x y so_far here)

  pub zip-read : (xs : List X) (ys : List Y) (i : ℕ) (d : X) (e : Y) → AllZip R xs ys →
      i < length xs → R (slice_index_or xs i d) (slice_index_or ys i e)
  zip-read [] ys i d e all lt = absurd (omega (arith, lt))
  zip-read (a ∷ xs) [] i d e all lt = absurd all
  zip-read (a ∷ xs) (b ∷ ys) zero d e all lt = all.0
  zip-read (a ∷ xs) (b ∷ ys) (suc i) d e all lt = zip-read xs ys i d e all.1 (omega (arith, lt))

  -- what holds of each second element of a pair
  pub zip-second : (P : Y → Type 0) → ((x : X) (y : Y) → R x y → P y) →
      (xs : List X) (ys : List Y) → AllZip R xs ys → All P ys
  zip-second P says [] [] all = All-nil P
  zip-second P says [] (b ∷ ys) all = absurd all
  zip-second P says (a ∷ xs) [] all = absurd all
  zip-second P says (a ∷ xs) (b ∷ ys) all =
      All-cons P b ys (says a b all.0) (zip-second P says xs ys all.1)

-- of three lists
pub zip-through : {X Y Z : Type 0} (R : X → Y → Type 0) (S : Y → Z → Type 0) (T : X → Z → Type 0) →
    ((x : X) (y : Y) (z : Z) → R x y → S y z → T x z) →
    (xs : List X) (ys : List Y) (zs : List Z) → AllZip R xs ys → AllZip S ys zs → AllZip T xs zs
zip-through R S T says [] [] [] r s = tt
zip-through R S T says [] [] (c ∷ zs) r s = absurd s
zip-through R S T says [] (b ∷ ys) zs r s = absurd r
zip-through R S T says (a ∷ xs) [] zs r s = absurd r
zip-through R S T says (a ∷ xs) (b ∷ ys) [] r s = absurd s
zip-through R S T says (a ∷ xs) (b ∷ ys) (c ∷ zs) r s =
    (says a b c r.0 s.0, zip-through R S T says xs ys zs r.1 s.1)
