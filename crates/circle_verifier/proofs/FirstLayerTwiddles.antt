-- What the reduced codewords of a run say of their twiddles.
use Rattle.std.specs.Prelude.{◌≡◌, ℕ, ◌<◌, ◌≤◌, List, [], ◌∷◌, ◌++◌, length, map, All}
use Rattle.std.specs.Prelude.{slice_index_or}
use Rattle.std.specs.List.{flat_map}
use Rattle.std.proofs.Common.{refl, sym, ◌∙◌, ap, arith}
use Rattle.std.proofs.lemmas.List.{get_or_default, map-id}
use Rattle.circle_point.specs.Point.{coordinates}
use Rattle.circle_domain.proofs.Twiddles.{map-map}
use Rattle.circle_folding.specs.Queries.{query_point}
use Rattle.circle_verifier.specs.declared.run.OpenedRun.{OpenedRun}
use Rattle.circle_relation.specs.declared.run.QueriedWord.{QueriedWord}
use Rattle.circle_relation.specs.RunOf.{queried}
use Rattle.circle_relation.specs.Accepts.{Fields}
use Rattle.circle_verifier.specs.OfRun.{heights_of}
use Rattle.circle_verifier.specs.FirstLayer.{twiddles_of}
use Rattle.circle_verifier.specs.Sums.{word_at}
use Rattle.circle_verifier.proofs.FirstLayerRun.{IsClaimed, AreReduced, word-of, height-within}
use Rattle.circle_verifier.proofs.FirstLayerRun.{height-large, points-of}

flat_map-map : {A B C : Type 0} (f : B → List C) (h : A → B) (xs : List A) →
    flat_map (λ x. f (h x)) xs ≡ flat_map f (map h xs)
flat_map-map f h [] = refl
flat_map-map f h (x ∷ xs) = ap (λ rest. f (h x) ++ rest) (flat_map-map f h xs)

module _ {F E I W IC ID IP IE WC WD WP WE : Type 0} {g ext over inputs ic ip ie words wc wp we : _}
    {o : OpenedRun F E I W IC ID IP IE WC WD WP WE g ext over inputs ic ip ie words wc wp we}
    {f : _} {listed : List (QueriedWord F E f)} (a : AreReduced o listed) where
  abbrev k : Fields F E
  k = over.fields

  module _ (i : ℕ) (d : QueriedWord F E f) (within : i < length listed) where
    abbrev here : QueriedWord F E f
    here = slice_index_or listed i d

    word-here : IsClaimed o i here.log_height × (queried here ≡ word_at o here.log_height)
    word-here = word-of a i here within (get_or_default listed i d here within)

  pub heights-fit : All (λ w. (1 ≤ w.log_height) × (w.log_height ≤ o.log_max_height)) listed
  heights-fit i d within =
      let w = (word-here i d within).0 in
      (omega (arith, height-large w), height-within w)

  pub points-fit : All (λ w. map coordinates w.points.items
      ≡ map (query_point k.field k.gen w.log_height o.log_max_height) o.indices.now) listed
  points-fit i d within =
      let w = word-here i d within in
      points-of w.0 (map coordinates (slice_index_or listed i d).points.items) (ap (λ p. p.1.0) w.1)

  heights-are : map (λ w. w.log_height) listed ≡ heights_of o
  heights-are =
      sym (map-map (λ p. p.0) queried listed) ∙ ap (map (λ p. p.0)) a.reduced
      ∙ map-map (λ p. p.0) (word_at o) (heights_of o) ∙ map-id (heights_of o)

  pub twiddles-are : flat_map (λ w. twiddles_of o w.log_height) listed
      ≡ flat_map (twiddles_of o) (heights_of o)
  twiddles-are = flat_map-map (twiddles_of o) (λ w. w.log_height) listed
      ∙ ap (flat_map (twiddles_of o)) heights-are
