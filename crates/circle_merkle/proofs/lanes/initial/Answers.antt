use Rattle.std.proofs.Common.{ℕ}
use Rattle.std.proofs.lemmas.List.{get_or-replicate}
use Rattle.circle_merkle.proofs.Sixteen.{eight_same}
use Rattle.circle_merkle.proofs.lanes.initial.Goals as goal

pub returns : goal.returns
returns c i lt =
    let at = λ (x : ℕ). get_or-replicate 16 i x 0 lt in
    eight_same _ _ _ _ _ _ _ _ _ _ _ _ _ _ _ _ (at 0x6A09E667) (at 0xBB67AE85) (at 0x3C6EF372)
    (at 0xA54FF53A) (at 0x510E527F) (at 0x9B05688C) (at 0x1F83D9AB) (at 0x5BE0CD19)
