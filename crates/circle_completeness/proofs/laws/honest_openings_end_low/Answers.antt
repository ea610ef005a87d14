use Rattle.circle_completeness.proofs.TrueAnswers.{ends-low, never-too-high}
use Rattle.circle_completeness.proofs.laws.honest_openings_end_low.Goals as goal

pub returns : goal.returns
returns g c =
    let o = c.args.requests.now in record {
      ends = ends-low _ g.Val.Operations.laws g.EF.Operations.laws g.met.EF.ExtensionField.embedding
          g.Val.PartialEq.eq g.met.Val.Field.eq_law g.EF.PartialEq.eq g.met.EF.Field.eq_law
          g.met.Val.ComplexExtendable.generators_law g.InputMmcs.Mmcs.matrices o.params.now
          o.requests.now o.fit o.openable;
      never = λ m.
          never-too-high _ g.Val.Operations.laws g.EF.Operations.laws
          g.met.EF.ExtensionField.embedding g.Val.PartialEq.eq g.met.Val.Field.eq_law
          g.EF.PartialEq.eq g.met.EF.Field.eq_law g.met.Val.ComplexExtendable.generators_law
          g.InputMmcs.Mmcs.matrices o.params.now o.requests.now o.fit o.openable m
          (g.FriMmcs.Mmcs.commits o.params.now.mmcs);
    }
