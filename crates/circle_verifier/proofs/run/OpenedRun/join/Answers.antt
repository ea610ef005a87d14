use Rattle.std.proofs.Common.{◌∷◌, [], ◌∙◌, sym, ap, length, map}
use Rattle.std.proofs.lemmas.List.{map-append, length-map}
use Rattle.circle_commit.specs.DotProduct.{pairwise}
use Rattle.circle_relation.specs.RunOf.{joining_of}
use Rattle.circle_verifier.specs.Rounds.{folds_in}
use Rattle.circle_verifier.proofs.RoundsValues.{length-folds_in, length-due, left-due}
use Rattle.circle_verifier.proofs.RoundsValues.{values-due, left-later, values-later, left-none}
use Rattle.circle_verifier.proofs.RoundsValues.{values-none}
use Rattle.circle_verifier.specs.OfRun.{fields_of}
use Rattle.circle_verifier.proofs.run.OpenedRun.join.Goals as goal

pub add_each-requires : goal.add_each-requires
add_each-requires g c =
    let o = c.args.self.now in
    let word = c.in-Some.word.now in
    let rest = c.in-Some.rest.now in
    let split = map-append joining_of rest (word ∷ []) in
    let e = sym split ∙ ap (map joining_of) (sym c.in-Some.ensures.cases.0) ∙ c.requires.waiting in
    ap length c.deref.ensures.value ∙ length-due o c.args.round c.requires.round
    (map joining_of rest) (joining_of word) e c.if-word-height.true
    ∙ sym (ap length c.requires.values ∙ length-folds_in o c.args.round)

pub returns-in-Some-clause-left : goal.returns-in-Some-clause-left
returns-in-Some-clause-left g c =
    let o = c.args.self.now in
    let word = c.in-Some.word.now in
    let rest = c.in-Some.rest.now in
    let split = map-append joining_of rest (word ∷ []) in
    let e = sym split ∙ ap (map joining_of) (sym c.in-Some.ensures.cases.0) ∙ c.requires.waiting in
    left-due o c.args.round c.requires.round
    (map joining_of rest) (joining_of word) e c.if-word-height.true

pub returns-in-Some-clause-values : goal.returns-in-Some-clause-values
returns-in-Some-clause-values g c =
    let o = c.args.self.now in
    let k = fields_of o in
    let word = c.in-Some.word.now in
    let rest = c.in-Some.rest.now in
    let split = map-append joining_of rest (word ∷ []) in
    let e = sym split ∙ ap (map joining_of) (sym c.in-Some.ensures.cases.0) ∙ c.requires.waiting in
    let add = k.extension.add in
    c.add_each.ensures ∙ ap (λ vs. pairwise add vs c.deref.result.now) c.requires.values
    ∙ ap (pairwise add (folds_in o c.args.round)) c.deref.ensures.value
    ∙ values-due o c.args.round c.requires.round
    (map joining_of rest) (joining_of word) e c.if-word-height.true

pub returns-in_default-clause-left : goal.returns-in_default-clause-left
returns-in_default-clause-left g c =
    let o = c.args.self.now in
    let word = c.in-Some.word.now in
    let rest = c.in-Some.rest.now in
    let split = map-append joining_of rest (word ∷ []) in
    let e = sym split ∙ ap (map joining_of) (sym c.in-Some.ensures.cases.0) ∙ c.requires.waiting in
    ap (map joining_of) c.in-Some.ensures.cases.0 ∙ split
    ∙ left-later o c.args.round c.requires.round
    (map joining_of rest) (joining_of word) e c.if-word-height.false

pub returns-in_default-clause-values : goal.returns-in_default-clause-values
returns-in_default-clause-values g c =
    let o = c.args.self.now in
    let word = c.in-Some.word.now in
    let rest = c.in-Some.rest.now in
    let split = map-append joining_of rest (word ∷ []) in
    let e = sym split ∙ ap (map joining_of) (sym c.in-Some.ensures.cases.0) ∙ c.requires.waiting in
    c.requires.values ∙ values-later o c.args.round c.requires.round
    g.EF.Operations.laws.ring (map joining_of rest) (joining_of word) e c.if-word-height.false

pub returns-in_default-2-clause-left : goal.returns-in_default-2-clause-left
returns-in_default-2-clause-left g c =
    let o = c.args.self.now in
    let waiting = map joining_of c.args.waiting.now in
    let none = rw c.in_default.is at c.split_last.ensures.cases in
    left-none o c.args.round c.requires.round
    waiting (length-map c.args.waiting.now joining_of ∙ none) c.requires.waiting

pub returns-in_default-2-clause-values : goal.returns-in_default-2-clause-values
returns-in_default-2-clause-values g c =
    let o = c.args.self.now in
    let waiting = map joining_of c.args.waiting.now in
    let none = rw c.in_default.is at c.split_last.ensures.cases in
    c.requires.values ∙ values-none o c.args.round c.requires.round
    g.EF.Operations.laws.ring waiting (length-map c.args.waiting.now joining_of ∙ none)
    c.requires.waiting
