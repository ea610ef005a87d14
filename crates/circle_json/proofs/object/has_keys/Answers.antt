use Rattle.std.proofs.Common.{◌≡◌, ◌<◌, ◌≤◌, ℕ, length, subst, sym, ◌∙◌}
use Rattle.serde_json.specs.Events.{members_len}
use Rattle.serde_json.specs.View.{view, members_view}
use Rattle.circle_json.proofs.Objects.{texts, has_each, lacks_one, missing_key, unknown_key}
use Rattle.circle_json.proofs.Objects.{has_keys, length-texts, members_len-view, is_not_true}
use Rattle.circle_json.proofs.object.has_keys.Goals as goal

pub returns-then-not-has_each-clause-refuses : goal.returns-then-not-has_each-clause-refuses
returns-then-not-has_each-clause-refuses c =
    missing_key (view c.args.value.now) _ (texts c.args.keys.now) c.in_ok-members.ensures
    (lacks_one (view c.args.value.now) c.args.keys.now
    (λ all. is_not_true c.has_each.result c.if-not-has_each.true (c.has_each.ensures.1 all)))

pub returns-then-len-keys-clause-refuses : goal.returns-then-len-keys-clause-refuses
returns-then-len-keys-clause-refuses c =
    let count : c.len.result ≡ members_len (members_view c.in_ok-members.members.now.entries) =
    c.len.ensures.len ∙ sym (members_len-view c.in_ok-members.members.now.entries) in
    unknown_key (view c.args.value.now) _ (texts c.args.keys.now) c.in_ok-members.ensures
    (has_each (view c.args.value.now) c.args.keys.now
    (c.has_each.ensures.0 c.if-not-has_each.false))
    (subst (λ (n : ℕ). n < members_len (members_view c.in_ok-members.members.now.entries))
    (sym (length-texts c.args.keys.now))
    (subst (λ (n : ℕ). length c.args.keys.now < n) count c.if-len-keys.true))

pub returns-clause-keys : goal.returns-clause-keys
returns-clause-keys c =
    let count : c.len.result ≡ members_len (members_view c.in_ok-members.members.now.entries) =
    c.len.ensures.len ∙ sym (members_len-view c.in_ok-members.members.now.entries) in
    has_keys (view c.args.value.now) _ (texts c.args.keys.now) c.in_ok-members.ensures
    (has_each (view c.args.value.now) c.args.keys.now
    (c.has_each.ensures.0 c.if-not-has_each.false))
    (subst (λ (n : ℕ). members_len (members_view c.in_ok-members.members.now.entries) ≤ n)
    (sym (length-texts c.args.keys.now))
    (subst (λ (n : ℕ). n ≤ length c.args.keys.now) count c.if-len-keys.false))
