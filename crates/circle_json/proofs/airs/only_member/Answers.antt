use Rattle.std.proofs.Common.{◌≡◌, ◌≤◌, ◌∙◌, List, ℕ, ap, arith, length, sym}
use Rattle.serde_json.specs.Data.{member, no_members, object}
use Rattle.serde_json.specs.View.{view}
use Rattle.circle_json.proofs.Choices.{more_members, one_member}
use Rattle.circle_json.proofs.airs.only_member.Goals as goal

pub returns-then-len-gt1 : goal.returns-then-len-gt1
returns-then-len-gt1 c =
    let count : c.len.result ≡ length c.in_ok-members.members.now.entries = c.len.ensures.len in
    more_members (view c.args.value.now) c.in_ok-members.members.now.entries
    c.in_ok-members.ensures (omega arith)

pub returns-in-Some : goal.returns-in-Some
returns-in-Some c =
    let count : c.len.result ≡ length c.in_ok-members.members.now.entries = c.len.ensures.len in
    let few : length c.in_ok-members.members.now.entries ≤ 1 = omega arith in
    one_member (view c.args.value.now) c.in_ok-members.members.now.entries c.in-Some.key.now
    c.in-Some.member.now c.in_ok-members.ensures few c.in-Some.ensures.first
    ∙ ap (λ (t : List ℕ). object (member t (view c.in-Some.member.now) no_members))
    (sym c.as_str.ensures.value)
