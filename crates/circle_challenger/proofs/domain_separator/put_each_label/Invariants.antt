use Rattle.std.proofs.Common.{◌≡◌, ◌++◌, map, take, flat_map, All, length, ◌<◌, ◌^◌}
use Rattle.circle_challenger.specs.Step.{counted}
use Rattle.circle_challenger.proofs.domain_separator.put_each_label.Given as goal

-- the labels so far are written
abbrev pub invariant-loop-label : goal.invariant-loop-label
invariant-loop-label l = record {
  written : l.text.items ≡ l.initial.text.items
      ++ flat_map counted (map (λ x. x.items) (take l.label-index l.labels));
  writable : All (λ x. length x < 2 ^ 64) (map (λ x. x.items) (take l.label-index l.labels));
}
