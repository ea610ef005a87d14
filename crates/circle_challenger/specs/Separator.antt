-- What a transcript's seed is made of, and its text.
use Rattle.std.specs.Prelude.{◌≡◌, ℕ, ◌<◌, ◌^◌, List, ◌∷◌, ◌++◌, length, flat_map, All}
use Rattle.circle_challenger.specs.Step.{Step, step_text, be64, counted, IsWritableStep}

-- a protocol's version and name, the steps of a run, and the labels of the instance
pub record Separator : Type 0 where
  pub version : ℕ
  pub name : List ℕ
  pub steps : List Step
  pub labels : List (List ℕ)

-- a separator from its parts
abbrev pub separator : ℕ → List ℕ → List Step → List (List ℕ) → Separator
separator version name steps labels = record {
  version = version;
  name = name;
  steps = steps;
  labels = labels;
}

-- the part of the seed text that the protocol and the steps fix
unfoldable pub steps_text : ℕ → List ℕ → List Step → List ℕ
steps_text version name steps =
    (version ∷ counted name) ++ (be64 (length steps) ++ flat_map step_text steps)

-- the labels after their number, each after its length
unfoldable pub labels_text : List (List ℕ) → List ℕ
labels_text labels = be64 (length labels) ++ flat_map counted labels

-- the seed text
abbrev pub seed_text : Separator → List ℕ
seed_text s = steps_text s.version s.name s.steps ++ labels_text s.labels

-- the numbers of a separator have eight bytes
pub record IsWritable (s : Separator) : Type 0 where
  pub name : length s.name < 2 ^ 64
  pub step_count : length s.steps < 2 ^ 64
  pub each_step : All IsWritableStep s.steps
  pub label_count : length s.labels < 2 ^ 64
  pub each_label : All (λ l. length l < 2 ^ 64) s.labels

-- the bytes spell the separator, and its labels begin at this place
pub record IsSpelled (s : Separator) (place : ℕ) (bytes : List ℕ) : Type 0 where
  pub labels_at : place ≡ length (steps_text s.version s.name s.steps)
  pub text : bytes ≡ seed_text s
  pub writable : IsWritable s
