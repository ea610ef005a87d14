-- The definitions at worked examples.
use Rattle.std.specs.Prelude.{◌≡◌, refl}
use Rattle.circle_codewords.specs.Requests.{log_of}

-- the logarithms of the least powers of two, and of the greatest below 2^64
log_of-one : log_of 1 ≡ 0
log_of-one = refl

log_of-two : log_of 2 ≡ 1
log_of-two = refl

log_of-eight : log_of 8 ≡ 3
log_of-eight = refl

log_of-greatest : log_of 9223372036854775808 ≡ 63
log_of-greatest = refl
