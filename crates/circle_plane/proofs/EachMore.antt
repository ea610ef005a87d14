-- What holds of the entries of two lists, place by place.
use Rattle.std.specs.Prelude.{◌≡◌, ℕ, ◌<◌, List, [], ◌∷◌, ◌++◌, length, map, Vec}
use Rattle.std.specs.declared.alloc.Global.{Global}
use Rattle.std.proofs.Common.{zero, suc, arith, get_or, ap, sym, ◌∙◌}
use Rattle.std.proofs.lemmas.List.{get_or-map}

pub each-more : {A B : Type 0} (P : A → B → Type 0) (xs : List A) (ys : List B) (a : A) (b y : B) →
    length ys < length xs →
    ((c : ℕ) → c < length ys → P (get_or xs c a) (get_or ys c b)) → P (get_or xs (length ys) a) y →
    (c : ℕ) → c < length (ys ++ y ∷ []) → P (get_or xs c a) (get_or (ys ++ y ∷ []) c b)
each-more P [] ys a b y lt h p c below = absurd (omega arith)
each-more P (x ∷ xs) [] a b y lt h p zero below = p
each-more P (x ∷ xs) [] a b y lt h p (suc c) below = absurd (omega arith)
each-more P (x ∷ xs) (v ∷ ys) a b y lt h p zero below = h zero (omega arith)
each-more P (x ∷ xs) (v ∷ ys) a b y lt h p (suc c) below =
    each-more P xs ys a b y (omega arith) (λ d low. h (suc d) (omega arith)) p c (omega arith)

-- the entries of a vector in a list of vectors
pub items-at : {T : Type 0} (columns : List (Vec T Global)) (i : ℕ) (v : Vec T Global) →
    i < length columns → v ≡ get_or columns i v →
    get_or (map (λ column. column.items) columns) i [] ≡ v.items
items-at columns i v lt e = get_or-map (λ column. column.items) columns i v [] lt
    ∙ ap (λ w. w.items) (sym e)
