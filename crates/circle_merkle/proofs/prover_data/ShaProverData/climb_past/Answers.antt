use Rattle.std.proofs.Common.{◌++◌, ◌∷◌, [], ◌/◌, ◌-◌, ◌<◌, ◌^◌, ◌∙◌, append-nil, ap, sym, subst}
use Rattle.std.proofs.Common.{map, All, List, ℕ, vec_len}
use Rattle.std.proofs.lemmas.List.{nil_from_length}
use Rattle.sha2.specs.Sha256.{sha256}
use Rattle.circle_merkle.specs.Tree.{digest}
use Rattle.circle_merkle.specs.Rows.{matrix_rows}
use Rattle.circle_merkle.specs.Walk.{parents_of, siblings_of}
use Rattle.circle_merkle.proofs.Maps.{moved_over}
use Rattle.circle_merkle.proofs.SplitPair.{siblings-lone, siblings-both, lone-within, after-within}
use Rattle.circle_merkle.proofs.prover_data.ShaProverData.climb_past.Goals as goal

pub digest-requires-clause-within : goal.digest-requires-clause-within
digest-requires-clause-within g c =
    lone-within c.loop-position.rest.now c.in-Some.others.now c.split_pair-missing.result.1.now
    c.in-Some.position.now c.split_pair-missing.result.0 c.in-Some.ensures.cases.0
    c.split_pair-missing.ensures.siblings
    (2 ^ (vec_len c.args.self.now.upper - c.args.level)) c.loop-position.invariant.within
    c.in-Some-missing.sibling c.in-Some-missing.is

pub loop-position-preserved-in_ok-push-2 : goal.loop-position-preserved-in_ok-push-2
loop-position-preserved-in_ok-push-2 g c =
    let rest = c.loop-position.rest.now in
    let position = c.in-Some.position.now in
    let others = c.in-Some.others.now in
    let after = c.split_pair-missing.result.1.now in
    let missing = c.split_pair-missing.result.0 in
    let sibling = c.in-Some-missing.sibling in
    let at = digest sha256 (matrix_rows g.T.ElementBytes.bytes c.args.self.now.matrices.items)
    c.args.level in
    let whole = c.in-Some.ensures.cases.0 in
    let split = c.split_pair-missing.ensures.siblings in
    record {
      parents = moved_over c.loop-position.parents.items c.push.new.self.items (position / 2)
          (parents_of after) (parents_of rest) (parents_of c.args.known.now)
          c.in_ok-push.ensures.items (ap parents_of whole ∙ c.split_pair-missing.ensures.parents)
          c.loop-position.invariant.parents;
      proof = moved_over c.loop-position.proof.items c.push-in-Some-missing.new.self.items
          (at sibling) (map at (siblings_of after)) (map at (siblings_of rest))
          (c.args.proof.now.items ++ map at (siblings_of c.args.known.now))
          (c.in_ok-push-2.ensures.items ∙ ap (λ digest. c.loop-position.proof.items ++ digest ∷ [])
          c.digest.ensures)
          (ap (map at)
          (siblings-lone rest others after position missing whole split sibling
          c.in-Some-missing.is)) c.loop-position.invariant.proof;
      within = after-within
          rest others after position missing whole split
          (2 ^ (vec_len c.args.self.now.upper - c.args.level)) c.loop-position.invariant.within
          sibling c.in-Some-missing.is;
    }

pub loop-position-preserved : goal.loop-position-preserved
loop-position-preserved g c =
    let rest = c.loop-position.rest.now in
    let position = c.in-Some.position.now in
    let after = c.split_pair-missing.result.1.now in
    let at = digest sha256 (matrix_rows g.T.ElementBytes.bytes c.args.self.now.matrices.items)
    c.args.level in
    let whole = c.in-Some.ensures.cases.0 in
    let siblings =
    siblings-both rest c.in-Some.others.now after position c.split_pair-missing.result.0 whole
    c.split_pair-missing.ensures.siblings c.in_default-missing.is in
    record {
      parents = moved_over c.loop-position.parents.items c.push.new.self.items (position / 2)
          (parents_of after) (parents_of rest) (parents_of c.args.known.now)
          c.in_ok-push.ensures.items (ap parents_of whole ∙ c.split_pair-missing.ensures.parents)
          c.loop-position.invariant.parents;
      proof = ap (λ is. c.loop-position.proof.items ++ map at is) (sym siblings)
          ∙ c.loop-position.invariant.proof;
      within =
          subst (λ (is : List ℕ). All (λ i. i < 2 ^ (vec_len c.args.self.now.upper - c.args.level))
          is) siblings c.loop-position.invariant.within;
    }

pub digest-requires-clause-below : goal.digest-requires-clause-below
digest-requires-clause-below g c = c.requires.below

pub returns-clause-parents : goal.returns-clause-parents
returns-clause-parents g c =
    let parents = c.loop-position.parents.items in
    let none = nil_from_length c.loop-position.rest.now c.in_default.ensures.cases in
    sym (append-nil parents) ∙ ap (λ ps. parents ++ parents_of ps) (sym none)
    ∙ c.loop-position.invariant.parents

pub returns-clause-proof : goal.returns-clause-proof
returns-clause-proof g c =
    let proof = c.loop-position.proof.items in
    let at = digest sha256 (matrix_rows g.T.ElementBytes.bytes c.args.self.now.matrices.items)
    c.args.level in
    let none = nil_from_length c.loop-position.rest.now c.in_default.ensures.cases in
    sym (append-nil proof) ∙ ap (λ ps. proof ++ map at (siblings_of ps)) (sym none)
    ∙ c.loop-position.invariant.proof
