use Rattle.std.proofs.Common.{◌≡◌, length, map, take, drop}
use Rattle.std.specs.List.{flat_map}
use Rattle.circle_commit.specs.Mmcs.{opened_rows}
use Rattle.circle_relation.specs.RunOf.{joining_of}
use Rattle.circle_verifier.specs.OfRun.{fields_of, heights_of, folded_words}
use Rattle.circle_verifier.specs.FirstLayer.{twiddles_of}
use Rattle.circle_verifier.proofs.FirstLayerRun.{pairs_up_to}
use Rattle.circle_verifier.proofs.reduced.ReducedWords.fold_first_layer.Given as goal

abbrev pub invariant-loop-word : goal.invariant-loop-word
invariant-loop-word g l =
    let run = l.run.run in
    let k = fields_of run in
    let done = length l.yielded in
    record {
      count : l.folded.len ≡ done;
      folded : map joining_of l.folded.items ≡ take done (folded_words run);
      pairs : opened_rows l.pairs.items ≡ pairs_up_to run done;
      later : l.later
          ≡ map k.field.inv (flat_map (twiddles_of run) (drop done (heights_of run)));
    }
