-- A run with its challenges as clauses see it.
use Rattle.circle_commit.specs.declared.error.FriError.{FriError}
use Rattle.circle_relation.specs.declared.error.InputError.{InputError}
use Rattle.circle_relation.specs.Accepts.{Fields, Run, Accepts}
use Rattle.circle_relation.specs.Reasons.{IsReason}
use Rattle.circle_relation.specs.RunOf.{run_with}
use Rattle.circle_relation.specs.Taken.{challenges_of}
use Rattle.circle_verifier.specs.declared.drawn.DrawnRun.{DrawnRun}

-- I and W are the schemes of the batches and of the codewords, each with its commitments, data,
-- proofs and errors; what is known of the fields is in `over`, what is of the schemes in `inputs`
-- and `words`
module _ {F E I W IC ID IP IE WC WD WP WE : Type 0} {g ext over inputs ic ip ie words wc wp we : _}
    (d : DrawnRun F E I W IC ID IP IE WC WD WP WE g ext over inputs ic ip ie words wc wp we) where
  abbrev pub fields_of : Fields F E
  fields_of = over.fields

  -- the run, as the relation has it
  abbrev pub drawn_run : Run F E WC IC IP WP
  drawn_run = run_with d.run.claims.now d.run.proof.now (challenges_of d.draws)

  -- the relation accepts it under the scheme of the batches
  abbrev pub IsAccepted : I → Type 0
  IsAccepted mmcs =
      Accepts fields_of d.run.params.now drawn_run (inputs.authenticates mmcs)
      (words.authenticates d.run.params.now.mmcs)

  -- there is this reason to refuse it
  abbrev pub IsRefused : I → FriError WE (InputError IE WE) → Type 0
  IsRefused mmcs e =
      IsReason fields_of d.run.params.now drawn_run (inputs.authenticates mmcs)
      (words.authenticates d.run.params.now.mmcs) inputs.is_memory words.is_memory e
