-- Pairs of the items of two lists.
use Rattle.std.proofs.Common.{◌≡◌, ◌∙◌, List, Iter, ap}
use Rattle.std.specs.Iterator.Adapters.{zip_first, zip_second}
use Rattle.std.specs.Slice.Iter.{iter_rest}

-- what a loop over pairs reads from
pub pair-sources : {A B : Type 0} {s z : _} {i : Iter A} {ks : List A} {vs : List B} →
    s ≡ z → zip_first z ≡ i → iter_rest i ≡ ks → iter_rest (zip_second z) ≡ vs →
    (iter_rest (zip_first s) ≡ ks) × (iter_rest (zip_second s) ≡ vs)
pair-sources same first of_first of_second = (
  ap (λ z. iter_rest (zip_first z)) same ∙ ap iter_rest first ∙ of_first,
  ap (λ z. iter_rest (zip_second z)) same ∙ of_second,
)
