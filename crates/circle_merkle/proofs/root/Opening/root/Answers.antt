use Rattle.std.proofs.Common.{◌≡◌, ◌+◌, ◌^◌, ◌<◌, ◌∙◌, refl, ap, sym, subst, length, drop, map}
use Rattle.std.proofs.Common.{add-one, arith, All, get_or}
use Rattle.sha2.specs.Sha256.{sha256}
use Rattle.circle_commit.specs.Mmcs.{opened_rows}
use Rattle.circle_merkle.specs.Tree.{taken_below}
use Rattle.circle_merkle.specs.Walk.{siblings_of}
use Rattle.circle_merkle.specs.Climb.{climbed, positions_of}
use Rattle.circle_merkle.specs.Opening.{lowest_node, level_nodes, parent_in}
use Rattle.circle_merkle.specs.Authentication.{opened_root}
use Rattle.circle_merkle.proofs.LevelNodes.{nodes-lowest, nodes-fit, nodes-left, nodes-climbed}
use Rattle.circle_merkle.proofs.LevelNodes.{nodes-root}
use Rattle.circle_merkle.proofs.root.Opening.root.Goals as goal

pub loop-level-init : goal.loop-level-init
loop-level-init g c =
    let o = c.args.self.now in
    let count = c.log2_strict-count.result in
    let power : 2 ^ count ≡ o.top = c.log2_strict-count.ensures.power in
    let bytes = g.T.ElementBytes.bytes in
    record {
      nodes = c.in_ok-nodes.ensures
          ∙ ap (map (lowest_node bytes o)) (c.requires.firsts count (sym power))
          ∙ nodes-lowest bytes o c.args.proof.now count;
      given = refl;
    }

pub climb-requires-clause-enough : goal.climb-requires-clause-enough
climb-requires-clause-enough g c =
    let o = c.args.self.now in
    let count = c.log2_strict-count.result in
    let power : 2 ^ count ≡ o.top = c.log2_strict-count.ensures.power in
    let fit =
    nodes-fit g.T.ElementBytes.bytes o c.args.proof.now count
    (c.requires.count count (sym power)) c.loop-level.level (omega arith) in
    let nodes : length (siblings_of (positions_of c.deref.result.now)) ≡ length
    (siblings_of
    (positions_of
    (level_nodes g.T.ElementBytes.bytes o c.args.proof.now count c.loop-level.level))) =
    ap (λ ns. length (siblings_of (positions_of ns)))
    (c.deref.ensures.value ∙ c.loop-level.invariant.nodes) in
    let left : length c.loop-level.given.now ≡ length
    (drop (taken_below o.indices.now count c.loop-level.level) c.args.proof.now) =
    ap length c.loop-level.invariant.given in
    omega (arith, fit, nodes, left)

pub loop-level-preserved : goal.loop-level-preserved
loop-level-preserved g c =
    let o = c.args.self.now in
    let bytes = g.T.ElementBytes.bytes in
    let proof = c.args.proof.now in
    let level = c.loop-level.level in
    let count = c.log2_strict-count.result in
    let power : 2 ^ count ≡ o.top = c.log2_strict-count.ensures.power in
    let whole = c.requires.count count (sym power) in
    let here = c.deref.ensures.value ∙ c.loop-level.invariant.nodes in
    record {
      nodes =
          c.in_ok-parents.ensures.parents
          ∙ ap (λ ns. climbed (parent_in bytes o (level + 1)) ns c.loop-level.given.now) here
          ∙ ap (climbed (parent_in bytes o (level + 1)) (level_nodes bytes o proof count level))
          c.loop-level.invariant.given
          ∙ ap
          (λ k. climbed (parent_in bytes o k) (level_nodes bytes o proof count level)
          (drop (taken_below o.indices.now count level) proof)) (add-one level)
          ∙ nodes-climbed bytes o proof count whole level (omega arith)
          ∙ ap (level_nodes bytes o proof count) (sym (add-one level));
      given =
          c.in_ok-parents.ensures.rest
          ∙ ap (λ ns. drop (length (siblings_of (positions_of ns))) c.loop-level.given.now) here
          ∙ ap (drop (length (siblings_of (positions_of (level_nodes bytes o proof count level)))))
          c.loop-level.invariant.given
          ∙ nodes-left bytes o proof count whole level (omega arith)
          ∙ ap (λ k. drop (taken_below o.indices.now count k) proof) (sym (add-one level));
    }

pub index-requires : goal.index-requires
index-requires g c =
    let o = c.args.self.now in
    let bytes = g.T.ElementBytes.bytes in
    let proof = c.args.proof.now in
    let count = c.log2_strict-count.result in
    let power : 2 ^ count ≡ o.top = c.log2_strict-count.ensures.power in
    let below : All (λ i. i < 2 ^ count) o.indices.now =
    subst (λ n. All (λ i. i < n) o.indices.now) (sym power) c.requires.in_range in
    let end : c.loop-level.level ≡ count = omega arith in
    let one : length c.loop-level.nodes.items ≡ 1 =
    ap length (c.loop-level.invariant.nodes ∙ ap (level_nodes bytes o proof count) end
    ∙ nodes-root bytes o proof count c.requires.some below) in
    omega (arith, one, c.loop-level.nodes.ok.0)

pub returns : goal.returns
returns g c levels e =
    let o = c.args.self.now in
    let bytes = g.T.ElementBytes.bytes in
    let proof = c.args.proof.now in
    let count = c.log2_strict-count.result in
    let power : 2 ^ count ≡ o.top = c.log2_strict-count.ensures.power in
    let below : All (λ i. i < 2 ^ count) o.indices.now =
    subst (λ n. All (λ i. i < n) o.indices.now) (sym power) c.requires.in_range in
    let end : c.loop-level.level ≡ count = omega arith in
    let same : count ≡ levels = c.log2_strict-count.ensures.only levels e in
    let nodes = c.loop-level.invariant.nodes ∙ ap (level_nodes bytes o proof count) end
    ∙ nodes-root bytes o proof count c.requires.some below in
    ap (λ n. n.digest) c.index.ensures
    ∙ ap (λ ns. (get_or ns 0 c.index.result.now).digest) nodes
    ∙ ap (opened_root sha256 bytes o.dimensions.now o.indices.now (opened_rows o.opened.now) proof)
    same
