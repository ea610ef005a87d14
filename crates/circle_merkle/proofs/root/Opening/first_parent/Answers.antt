use Rattle.std.proofs.Common.{◌∷◌, ◌∙◌, ◌≤◌, ℕ, suc, ap, sym, subst, drop, length, arith}
use Rattle.circle_merkle.specs.Walk.{siblings_of}
use Rattle.circle_merkle.specs.Climb.{climbed, positions_of}
use Rattle.circle_merkle.specs.Opening.{parent_in}
use Rattle.circle_merkle.proofs.FirstParent.{BeginsApart, climbed-joined, climbed-apart}
use Rattle.circle_merkle.proofs.FirstParent.{siblings-joined, siblings-apart, apart-cons, apart-nil}
use Rattle.circle_merkle.proofs.root.Opening.first_parent.Goals as goal
use Rattle.circle_merkle.proofs.root.Opening.first_parent.Goals.{in_default-via-in-Some+else-next-sibling}
use Rattle.circle_merkle.proofs.root.Opening.first_parent.Goals.{in_default-via-in_default}

less_one : {n m : ℕ} → suc n ≤ suc m → n ≤ m
less_one le = omega arith

pub returns-in-Some-clause-parents : goal.returns-in-Some-clause-parents
returns-in-Some-clause-parents g c =
    let up = parent_in g.T.ElementBytes.bytes c.args.self.now c.args.level in
    let node = c.args.node.now in
    let next = c.in-Some.next.now in
    let after = c.in-Some.after.now in
    let given = c.args.given.now in
    ap (λ os. climbed up (node ∷ os) given) c.in-Some.ensures.cases.0
    ∙ climbed-joined up node next (c.if-next-sibling.true ∙ c.sibling.ensures) after given
    ∙ ap (λ n. n ∷ climbed up after given) (sym c.joined.ensures)

pub returns-in-Some-split_first-clause-parents : goal.returns-in-Some-split_first-clause-parents
returns-in-Some-split_first-clause-parents g c =
    let up = parent_in g.T.ElementBytes.bytes c.args.self.now c.args.level in
    let node = c.args.node.now in
    let others = c.args.others.now in
    let digest = c.in-Some-split_first.digest.now in
    let left = c.in-Some-split_first.left.now in
    let apart : BeginsApart node.position others = elim c.in_default.branch [
      | in_default-via-in-Some+else-next-sibling w ↦ apart-cons node.position others
          w.in-Some.after.now w.in-Some.next.now w.in-Some.ensures.cases.0
          (λ e. w.if-next-sibling.false (e ∙ sym w.sibling.ensures))
      | in_default-via-in_default w ↦ apart-nil node.position others w.in_default.ensures.cases
    ] in
    ap (climbed up (node ∷ others)) c.in-Some-split_first.ensures.cases.0
    ∙ climbed-apart up node others digest left apart
    ∙ ap (λ n. n ∷ climbed up others left) (sym c.lone.ensures)

pub returns-in-Some-clause-enough : goal.returns-in-Some-clause-enough
returns-in-Some-clause-enough g c =
    let up = parent_in g.T.ElementBytes.bytes c.args.self.now c.args.level in
    let node = c.args.node.now in
    let same = ap (λ os. siblings_of (positions_of (node ∷ os))) c.in-Some.ensures.cases.0
    ∙ siblings-joined up node c.in-Some.next.now (c.if-next-sibling.true ∙ c.sibling.ensures)
    c.in-Some.after.now in
    subst (λ is. length is ≤ length c.args.given.now) same c.requires.enough

pub returns-in-Some-clause-left : goal.returns-in-Some-clause-left
returns-in-Some-clause-left g c =
    let up = parent_in g.T.ElementBytes.bytes c.args.self.now c.args.level in
    let node = c.args.node.now in
    let same = ap (λ os. siblings_of (positions_of (node ∷ os))) c.in-Some.ensures.cases.0
    ∙ siblings-joined up node c.in-Some.next.now (c.if-next-sibling.true ∙ c.sibling.ensures)
    c.in-Some.after.now in
    ap (λ is. drop (length is) c.args.given.now) same

pub returns-in-Some-split_first-clause-enough : goal.returns-in-Some-split_first-clause-enough
returns-in-Some-split_first-clause-enough g c =
    let up = parent_in g.T.ElementBytes.bytes c.args.self.now c.args.level in
    let node = c.args.node.now in
    let others = c.args.others.now in
    let apart : BeginsApart node.position others = elim c.in_default.branch [
      | in_default-via-in-Some+else-next-sibling w ↦ apart-cons node.position others
          w.in-Some.after.now w.in-Some.next.now w.in-Some.ensures.cases.0
          (λ e. w.if-next-sibling.false (e ∙ sym w.sibling.ensures))
      | in_default-via-in_default w ↦ apart-nil node.position others w.in_default.ensures.cases
    ] in
    let digest = c.in-Some-split_first.digest.now in
    let left = c.in-Some-split_first.left.now in
    let all : suc (length (siblings_of (positions_of others))) ≤ length c.args.given.now =
    subst (λ is. length is ≤ length c.args.given.now) (siblings-apart up node others apart)
    c.requires.enough in
    less_one
    (subst (λ ds. suc (length (siblings_of (positions_of others))) ≤ length ds)
    c.in-Some-split_first.ensures.cases.0 all)

pub returns-in-Some-split_first-clause-left : goal.returns-in-Some-split_first-clause-left
returns-in-Some-split_first-clause-left g c =
    let up = parent_in g.T.ElementBytes.bytes c.args.self.now c.args.level in
    let node = c.args.node.now in
    let others = c.args.others.now in
    let apart : BeginsApart node.position others = elim c.in_default.branch [
      | in_default-via-in-Some+else-next-sibling w ↦ apart-cons node.position others
          w.in-Some.after.now w.in-Some.next.now w.in-Some.ensures.cases.0
          (λ e. w.if-next-sibling.false (e ∙ sym w.sibling.ensures))
      | in_default-via-in_default w ↦ apart-nil node.position others w.in_default.ensures.cases
    ] in
    ap (λ is. drop (length is) c.args.given.now) (siblings-apart up node others apart)
    ∙ ap (drop (suc (length (siblings_of (positions_of others)))))
    c.in-Some-split_first.ensures.cases.0
