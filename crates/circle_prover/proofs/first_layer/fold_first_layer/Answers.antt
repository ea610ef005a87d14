use Rattle.std.proofs.Common.{◌≡◌, ◌-◌, ◌++◌, ◌∷◌, [], ◌∙◌, ℕ, List, Vec, Global, sym, ap, arith}
use Rattle.std.proofs.Common.{length, map}
use Rattle.std.proofs.lemmas.List.{length-map, map-append}
use Rattle.std.proofs.lemmas.Simd.{map-map}
use Rattle.std.specs.Option.{option_to_list}
use Rattle.circle_commit.specs.RowMajorMatrix.{rows, height_of}
use Rattle.circle_commit.proofs.Written.{length-pairwise}
use Rattle.circle_folding.specs.Fold.{y_folds}
use Rattle.circle_prover.proofs.FoldedLengths.{folded-lengths}
use Rattle.circle_prover.proofs.first_layer.fold_first_layer.Goals as goal

pub unwrap-tallest-requires : goal.unwrap-tallest-requires
unwrap-tallest-requires g c =
    let hs = c.args.heights.now in
    let ms = c.get_matrices.result.now in
    let folded = c.in_ok-folded.folded in
    let f : ℕ → List (List g.row.EF.Denot) → List g.row.EF.Denot =
    λ h rs. y_folds g.F.Operations.ops g.F.ComplexExtendable.generators g.EF.Operations.ops
    g.EF.ExtensionField.embed (h - 1) c.args.bivariate rs in
    let count : length ms ≡ length hs = ap length c.get_matrices.ensures
    ∙ c.requires.shapes.count in
    let long : length folded.items ≡ length hs =
    sym (length-map folded.items (λ w. w.items)) ∙ ap length c.in_ok-folded.ensures
    ∙ length-pairwise f hs (map rows ms) (sym (length-map ms rows ∙ count)) in
    c.pop.ensures.variant.1 (omega (arith, long, folded.ok.0, c.requires.some))

pub returns-clause-lengths : goal.returns-clause-lengths
returns-clause-lengths g c =
    let hs = c.args.heights.now in
    let ms = c.get_matrices.result.now in
    let folded = c.in_ok-folded.folded.items in
    let rest = c.pop.new.self.items in
    let last = c.unwrap-tallest.result in
    let size : Vec g.row.EF.Denot Global → ℕ = λ w. length w.items in
    let all : folded ≡ rest ++ last ∷ [] = c.pop.ensures.items
    ∙ ap (λ o. rest ++ option_to_list o) c.unwrap-tallest.ensures in
    sym (ap (map size) all ∙ map-append size rest (last ∷ []))
    ∙ sym (map-map length (λ (w : Vec g.row.EF.Denot Global). w.items) folded)
    ∙ ap (map length) c.in_ok-folded.ensures
    ∙ folded-lengths g.F.Operations.ops g.F.ComplexExtendable.generators g.EF.Operations.ops
    g.EF.ExtensionField.embed c.args.bivariate hs ms (ap (map height_of) c.get_matrices.ensures
    ∙ c.requires.shapes.height)
