-- A destination compared with an address.
--   same_bytes         the comparison of two arrays of bytes is the test `same`
--   same_shorter       fewer bytes are not the same
--   destination_head   the destination is the first six bytes
-- Assumes nothing.
use mathlib.Core.Path.{◌≡◌, refl}
use mathlib.Core.Bool.{false}
use mathlib.Core.List.{List, [], ◌∷◌}
use Prim.Native.Nat.{ℕ, ◌<◌}
use native.Mathlib.Omega.{arith}
use lib.Dec.{eqb}
use lib.ListN.{length, take}
use lib.Seq.{take-take}
use Rattle.std.specs.Str.{bytes_eq}
use Rattle.std.proofs.Math.Bool.{and-false}
use Rattle.paper.specs.Words.{same}
use Rattle.paper.specs.Filter.{destination}

-- The comparison of two arrays of bytes is the test `same`.
pub same_bytes : (s t : List ℕ) → bytes_eq s t ≡ same s t
unfolding same
same_bytes [] [] = refl
same_bytes [] (b ∷ t) = refl
same_bytes (a ∷ s) [] = refl
same_bytes (a ∷ s) (b ∷ t) = rw (same_bytes s t)

-- Fewer bytes are not the same.
pub same_shorter : (s t : List ℕ) → length s < length t → same s t ≡ false
unfolding same
same_shorter s [] h = absurd (omega (arith, h))
same_shorter [] (b ∷ t) h = refl
same_shorter (a ∷ s) (b ∷ t) h = rw (same_shorter s t (omega (arith, h))) (and-false (eqb a b))

-- The destination is the first six bytes.
pub destination_head : (s : List ℕ) → destination (take 14 s) ≡ take 6 s
destination_head s = take-take 6 14 s (omega arith)
