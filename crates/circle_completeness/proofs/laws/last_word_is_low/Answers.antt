use Rattle.circle_completeness.proofs.LastWords.{folds-low, rounds-low, last-low}
use Rattle.circle_completeness.proofs.laws.last_word_is_low.Goals as goal

pub returns : goal.returns
returns g c =
    record {
      folds =
          λ ms. folds-low _ g.F.Operations.laws g.EF.Operations.laws
          g.met.EF.ExtensionField.embedding g.F.PartialEq.eq g.met.F.Field.eq_law g.EF.PartialEq.eq
          g.met.EF.Field.eq_law
          g.met.F.ComplexExtendable.generators_law c.args.log_blowup c.requires.blowup c.args.alpha
          ms c.args.bivariate;
      rounds =
          λ ms. rounds-low _ g.F.Operations.laws g.EF.Operations.laws
          g.met.EF.ExtensionField.embedding g.F.PartialEq.eq g.met.F.Field.eq_law g.EF.PartialEq.eq
          g.met.EF.Field.eq_law
          g.met.F.ComplexExtendable.generators_law c.args.log_blowup c.requires.blowup c.args.alpha
          ms c.args.bivariate c.args.betas.now;
      last =
          λ ms. last-low _ g.F.Operations.laws g.EF.Operations.laws
          g.met.EF.ExtensionField.embedding g.F.PartialEq.eq g.met.F.Field.eq_law g.EF.PartialEq.eq
          g.met.EF.Field.eq_law
          g.met.F.ComplexExtendable.generators_law c.args.log_blowup c.requires.blowup c.args.alpha
          ms c.args.bivariate c.args.log_final_poly_len c.args.betas.now;
    }
