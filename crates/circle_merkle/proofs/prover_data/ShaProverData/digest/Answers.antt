use Rattle.std.proofs.Common.{◌≡◌, ◌-◌, ◌<◌, ◌^◌, ◌∙◌, ap, sym, length, vec_len, suc, arith, get_or}
use Rattle.std.proofs.lemmas.List.FromFn.{length-map-range_with_len, get_or-map-range_with_len}
use Rattle.sha2.specs.Sha256.{sha256}
use Rattle.circle_merkle.specs.Tree.{digest}
use Rattle.circle_merkle.specs.Rows.{matrix_rows}
use Rattle.circle_merkle.proofs.KeptTree.{kept-digest}
use Rattle.circle_merkle.proofs.prover_data.ShaProverData.digest.Goals as goal

pub index-requires-in-Some : goal.index-requires-in-Some
index-requires-in-Some g c =
    let d = c.args.self.now in
    let count = vec_len d.upper in
    let above = c.in-Some.above in
    let level = c.index.result.now in
    let same : c.args.level ≡ suc above = omega (arith, c.in-Some.ensures.0, c.in-Some.ensures.1) in
    let whole = kept-digest sha256 g.T.ElementBytes.bytes d.matrices.items count d.upper.items
    d.tree above (omega (arith, c.requires.below)) level c.index.ensures in
    let long = level.ok.0 ∙ ap length whole
    ∙ length-map-range_with_len
    (digest sha256 (matrix_rows g.T.ElementBytes.bytes d.matrices.items) (suc above)) 0
    (2 ^ (count - suc above)) in
    omega (arith, long, ap (λ k. 2 ^ (count - k)) same, c.requires.within)

pub returns-in-Some : goal.returns-in-Some
returns-in-Some g c =
    let d = c.args.self.now in
    let count = vec_len d.upper in
    let above = c.in-Some.above in
    let i = c.args.position in
    let r = c.index-in-Some.result.now in
    let at = digest sha256 (matrix_rows g.T.ElementBytes.bytes d.matrices.items) in
    let same : c.args.level ≡ suc above = omega (arith, c.in-Some.ensures.0, c.in-Some.ensures.1) in
    let within : i < 2 ^ (count - suc above) =
    omega (arith, ap (λ k. 2 ^ (count - k)) same, c.requires.within) in
    c.index-in-Some.ensures
    ∙ ap (λ ds. get_or ds i r)
    (kept-digest sha256 g.T.ElementBytes.bytes d.matrices.items count d.upper.items d.tree above
    (omega (arith, c.requires.below)) c.index.result.now c.index.ensures)
    ∙ get_or-map-range_with_len (at (suc above)) 0 (2 ^ (count - suc above)) i i r within
    (omega arith)
    ∙ ap (λ k. at k i) (sym same)
