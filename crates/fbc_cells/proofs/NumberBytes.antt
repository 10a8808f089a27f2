-- The bytes of three numbers, which stand at one place in the head of a page and in a cell.
use Rattle.std.proofs.Common.{◌≡◌, ◌<◌, ◌≤◌, ◌^◌, ℕ, List, length, get_or, ap, arith}
use Rattle.std.specs.Prelude.{slice_range}
use Rattle.fbc_kinds.specs.Head.{little_bytes, number_at, number_in}
use Rattle.fbc_kinds.specs.Limits.{number_limit}
use Rattle.fbc_kinds.proofs.Numbers.{little_2-number_at, little_4-number_at}

-- What stands there are the bytes of the numbers that are read there.
pub record AreNumbers (bytes : List ℕ) : Type 0 where
  pub low : slice_range bytes 2 4 ≡ little_bytes 2 (number_at 2 4 bytes)
  pub middle : slice_range bytes 4 8 ≡ little_bytes 4 (number_at 4 8 bytes)
  pub high : slice_range bytes 8 12 ≡ little_bytes 4 (number_at 8 12 bytes)

pub numbers_of_bytes : (bytes : List ℕ) → ((i : ℕ) → get_or bytes i 0 < 256) → 12 ≤ length bytes → AreNumbers bytes
numbers_of_bytes bytes small long = record {
  low = little_2-number_at 2 bytes small (omega arith);
  middle = little_4-number_at 4 bytes small (omega arith);
  high = little_4-number_at 8 bytes small (omega arith);
}

fits_2 : (n : ℕ) → n ≡ number_in 256 (little_bytes 2 n) → n < 2 ^ 16
fits_2 n is = omega arith

fits_4 : (n : ℕ) → n ≡ number_in 256 (little_bytes 4 n) → n < number_limit
fits_4 n is = omega arith

module _ (bytes : List ℕ) (are : AreNumbers bytes) where
  pub low_fits : number_at 2 4 bytes < 2 ^ 16
  low_fits = fits_2 (number_at 2 4 bytes) (ap (number_in 256) are.low)

  pub middle_fits : number_at 4 8 bytes < number_limit
  middle_fits = fits_4 (number_at 4 8 bytes) (ap (number_in 256) are.middle)

  pub high_fits : number_at 8 12 bytes < number_limit
  high_fits = fits_4 (number_at 8 12 bytes) (ap (number_in 256) are.high)
