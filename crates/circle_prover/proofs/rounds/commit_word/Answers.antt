use Rattle.std.proofs.Common.{◌≡◌, ◌-◌, ◌/◌, ◌^◌, ◌++◌, ◌∷◌, [], ◌∙◌, sym, ap, arith, length}
use Rattle.circle_commit.specs.Matrix.{IsPowerOfTwo}
use Rattle.circle_commit.specs.RowFacts.{length-rows_from}
use Rattle.circle_commit.specs.RowMajorMatrix.{height_of, length-rows}
use Rattle.circle_prover.proofs.Growing.{all_of_one, half_power, positive_power, whole_pairs}
use Rattle.circle_prover.proofs.rounds.commit_word.Goals as goal

pub new-requires-clause-whole : goal.new-requires-clause-whole
new-requires-clause-whole g c =
    let word = c.args.word in
    let power = c.requires.power in
    whole_pairs power.0 word.len (omega (arith, word.ok.0, power.1))
    (omega (arith, word.ok.0, c.requires.pairs))

pub commit-requires-clause-powers_of_two : goal.commit-requires-clause-powers_of_two
commit-requires-clause-powers_of_two g c =
    let m = c.requires.power.0 in
    let word = c.args.word in
    let matrix = c.new.result in
    let pushed : c.push.new.self.items ≡ matrix ∷ [] = c.in_ok-push.ensures.items
    ∙ ap (λ v. v ++ matrix ∷ []) c.in_ok-words.ensures.items in
    let height : height_of matrix ≡ 2 ^ (m - 1) =
    sym (length-rows matrix) ∙ ap length c.new.ensures.content ∙ length-rows_from 2 (word.len / 2) _
    ∙ half_power m word.len
    (positive_power m (length word.items) c.requires.power.1 c.requires.pairs)
    (omega (arith, word.ok.0, c.requires.power.1)) in
    all_of_one (λ v. IsPowerOfTwo (height_of v)) matrix _ pushed (m - 1, height)
