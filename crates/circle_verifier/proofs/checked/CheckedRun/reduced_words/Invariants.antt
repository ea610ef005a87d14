use Rattle.std.proofs.Common.{◌≡◌, map, take, All}
use Rattle.circle_relation.specs.RunOf.{queried}
use Rattle.circle_verifier.specs.Sums.{word_at, IsApartIn}
use Rattle.circle_verifier.proofs.checked.CheckedRun.reduced_words.Given as goal

abbrev pub invariant-loop-log_height : goal.invariant-loop-log_height
invariant-loop-log_height g l =
    let done = take l.log_height-index l.heights in
    record {
      words : map queried l.words.items ≡ map (word_at l.self.run) done;
      apart : All (IsApartIn l.self.run) done;
    }
