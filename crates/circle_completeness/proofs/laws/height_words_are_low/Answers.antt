use Rattle.circle_completeness.proofs.LastWords.{words-split, words-corrected}
use Rattle.circle_completeness.proofs.laws.height_words_are_low.Goals as goal

pub returns : goal.returns
returns g c =
    record {
      split =
          λ ms. words-split _ g.F.Operations.laws g.EF.Operations.laws
          g.met.EF.ExtensionField.embedding g.F.PartialEq.eq g.met.F.Field.eq_law g.EF.PartialEq.eq
          g.met.EF.Field.eq_law
          g.met.F.ComplexExtendable.generators_law c.args.log_blowup c.requires.blowup c.args.alpha
          ms;
      corrected = λ ms. words-corrected _ g.F.Operations.laws g.EF.Operations.laws
          g.met.EF.ExtensionField.embedding g.F.PartialEq.eq g.met.F.Field.eq_law g.EF.PartialEq.eq
          g.met.EF.Field.eq_law
          g.met.F.ComplexExtendable.generators_law c.args.log_blowup c.requires.blowup c.args.alpha
          ms;
    }
