-- Four lists that are combined place by place, in pairs and then in pairs again.
use Rattle.std.specs.Prelude.{◌≡◌, ℕ, ◌+◌, ◌<◌, List, length, slice_index_or, slice_set}
use Rattle.std.proofs.Common.{sym, ◌∙◌, ap, arith}
use Rattle.circle_commit.specs.DotProduct.{pairwise}
use Rattle.circle_commit.proofs.Written.{written, written-read, written-more, length-pairwise}
use Rattle.circle_commit.proofs.Written.{pairwise-read}

-- what is not yet written is as it was
pub unwritten : {F : Type 0} (new old now : List F) (i : ℕ) (x : F) → length new ≡ length old →
    now ≡ written i new old → x ≡ slice_index_or now i x → x ≡ slice_index_or old i x
unwritten new old now i x long so_far read = read ∙ ap (λ xs. slice_index_or xs i x) so_far
    ∙ written-read i new old x long

module _ {F : Type 0} (f g h : F → F → F) (ps qs rs ss : List F) (eb : length qs ≡ length ps)
    (ec : length rs ≡ length ps) (ed : length ss ≡ length ps) where
  abbrev pub combined : List F
  combined = pairwise f (pairwise g ps rs) (pairwise h qs ss)

  pub length-combined : length combined ≡ length ps
  length-combined =
      let left : length (pairwise g ps rs) ≡ length ps = length-pairwise g ps rs (sym ec) in
      let right : length (pairwise h qs ss) ≡ length ps = length-pairwise h qs ss (eb ∙ sym ed)
      ∙ eb in
      length-pairwise f (pairwise g ps rs) (pairwise h qs ss) (left ∙ sym right) ∙ left

  combined-read : (i : ℕ) (x y z w v : F) → i < length ps → x ≡ slice_index_or ps i x →
      y ≡ slice_index_or qs i y → z ≡ slice_index_or rs i z → w ≡ slice_index_or ss i w →
      slice_index_or combined i v ≡ f (g x z) (h y w)
  combined-read i x y z w v here ex ey ez ew =
      let left : length (pairwise g ps rs) ≡ length ps = length-pairwise g ps rs (sym ec) in
      let right : length (pairwise h qs ss) ≡ length ps = length-pairwise h qs ss (eb ∙ sym ed)
      ∙ eb in
      let first : slice_index_or (pairwise g ps rs) i v ≡ g x z =
      pairwise-read g ps rs i x z v here (omega (arith, here, ec))
      ∙ ap (λ a. g a (slice_index_or rs i z)) (sym ex) ∙ ap (g x) (sym ez) in
      let second : slice_index_or (pairwise h qs ss) i v ≡ h y w =
      pairwise-read h qs ss i y w v (omega (arith, here, eb)) (omega (arith, here, ed))
      ∙ ap (λ b. h b (slice_index_or ss i w)) (sym ey) ∙ ap (h y) (sym ew) in
      pairwise-read f (pairwise g ps rs) (pairwise h qs ss) i v v v (omega (arith, here, left))
      (omega (arith, here, right))
      ∙ ap (λ a. f a (slice_index_or (pairwise h qs ss) i v)) first ∙ ap (f (g x z)) second

  -- one place more is written
  pub combined-more : (old now : List F) (i : ℕ) (x y z w v : F) → length old ≡ length ps →
      i < length ps → now ≡ written i combined old →
      x ≡ slice_index_or ps i x → y ≡ slice_index_or qs i y → z ≡ slice_index_or rs i z →
      w ≡ slice_index_or ss i w →
      v ≡ f (g x z) (h y w) → slice_set now i v ≡ written (i + 1) combined old
  combined-more old now i x y z w v long here so_far ex ey ez ew made =
      ap (λ xs. slice_set xs i v) so_far
      ∙ ap (slice_set (written i combined old) i)
      (made ∙ sym (combined-read i x y z w v here ex ey ez ew))
      ∙ written-more i combined old v (length-combined ∙ sym long) (omega (arith, here, long))
