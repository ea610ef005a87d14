use Rattle.std.proofs.Common.{◌≡◌, ℕ, ◌-◌, ◌++◌, ◌<◌, ◌^◌, ◌∙◌, ap, sym, subst, map, All, vec_len}
use Rattle.std.proofs.Common.{add-one, arith}
use Rattle.std.specs.Prelude.{max}
use Rattle.std.proofs.lemmas.List.Elements.{All-same}
use Rattle.sha2.specs.Sha256.{sha256}
use Rattle.circle_merkle.specs.Tree.{digest, known, taken, proof_of}
use Rattle.circle_merkle.specs.Walk.{parents_of, siblings_of}
use Rattle.circle_merkle.specs.Rows.{matrix_rows}
use Rattle.circle_merkle.proofs.Known.{parents-known, siblings-known}
use Rattle.circle_merkle.proofs.KeptTree.{taken-within, kept-proof}
use Rattle.circle_merkle.proofs.prover_data.ShaProverData.siblings.Goals as goal

max_positive : {m : ℕ} (n : ℕ) → m ≡ max n 1 → 0 < m
max_positive n e = omega arith

pub climb_past-requires-clause-within : goal.climb_past-requires-clause-within
climb_past-requires-clause-within g c =
    let d = c.args.self.now in
    let count = vec_len d.upper in
    let level = c.loop-level.level in
    let indices = c.args.indices.now in
    let below : level < count = omega (arith, c.len-level-end.ensures) in
    let positions = ap siblings_of (c.deref.ensures.value ∙ c.loop-level.invariant.known)
    ∙ siblings-known indices count level below in
    All-same (λ i. i < 2 ^ (count - level)) (siblings_of c.deref.result.now)
    (taken indices count level) positions
    (taken-within sha256 g.T.ElementBytes.bytes d.matrices.items count indices level)

pub loop-level-preserved : goal.loop-level-preserved
loop-level-preserved g c =
    let d = c.args.self.now in
    let count = vec_len d.upper in
    let level = c.loop-level.level in
    let indices = c.args.indices.now in
    let at = digest sha256 (matrix_rows g.T.ElementBytes.bytes d.matrices.items) in
    let known-is = c.deref.ensures.value ∙ c.loop-level.invariant.known in
    let below : level < count = omega (arith, c.len-level-end.ensures) in
    let positions = siblings_of c.deref.result.now in
    record {
      known = ap (λ v. v.items) c.swap.ensures.x_after ∙ c.in_ok-climb_past.ensures.parents
          ∙ ap parents_of known-is ∙ parents-known indices count level below
          ∙ ap (known indices count) (sym (add-one level));
      proof =
          c.in_ok-climb_past.ensures.proof
          ∙ ap (λ before. before ++ map (at level) positions) c.loop-level.invariant.proof
          ∙ kept-proof sha256 g.T.ElementBytes.bytes d.matrices.items count indices level positions
          (ap siblings_of known-is ∙ siblings-known indices count level below)
          ∙ ap (proof_of at indices count) (sym (add-one level));
    }

pub loop-level-init : goal.loop-level-init
loop-level-init g c =
    let d = c.args.self.now in
    let below : All (λ i. i < 2 ^ vec_len d.upper) c.args.indices.now =
    subst (λ n. All (λ i. i < n) c.args.indices.now) (sym d.greatest ∙ d.levels) c.requires in
    record {
      known = c.in_ok-known.ensures (vec_len d.upper) below;
      proof = c.in_ok-proof.ensures.items;
    }

pub returns : goal.returns
returns g c =
    let d = c.args.self.now in
    let count = vec_len d.upper in
    let end : c.loop-level.level ≡ count = omega (arith, c.len-level-end.ensures) in
    c.loop-level.invariant.proof
    ∙ ap (proof_of (digest sha256 (matrix_rows g.T.ElementBytes.bytes d.matrices.items))
    c.args.indices.now count) end

pub ilog2-requires : goal.ilog2-requires
ilog2-requires g c = max_positive _ c.max.ensures
