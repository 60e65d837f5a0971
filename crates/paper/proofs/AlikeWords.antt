-- The data words of frames that are alike: word i is equal where it is of frames with equal bytes.
--   word_alike            this
-- Assumes nothing.
use Rattle.std.specs.Prelude.{if◌then◌else◌}
use mathlib.Core.Path.{◌≡◌, refl, ap}
use mathlib.Core.List.{List, [], ◌∷◌, map}
use Prim.Native.Nat.{ℕ, ◌-◌}
use native.Mathlib.Omega.{arith}
use lib.Dec.{ltb}
use lib.ListN.{length, get_or}
use Rattle.paper.specs.Arrivals.{data_words}
use Rattle.paper.specs.Ledger.{Frame, all_words}
use Rattle.paper.specs.Twins.{frame_at}
use Rattle.paper.proofs.Counts.{data_words-length}
use Rattle.paper.proofs.Alike.{bare_frame}
use Rattle.std.proofs.lemmas.Bool.Decides.{nat_tests}
use Rattle.std.proofs.lemmas.Grind.{elements}
use lib.ListN.{length-replicate}

-- Word i of frames is of the first, or of the others.
word_of : (f : Frame) (fs : List Frame) (i n : ℕ) → length (data_words f.bytes) ≡ n
    → get_or (all_words (f ∷ fs)) i 0 ≡ (if ltb i n then get_or (data_words f.bytes) i 0 else get_or (all_words fs) (i - n) 0)
unfolding all_words
word_of f fs i n e = grind (arith, nat_tests, elements)

-- Frames that are alike have as many bytes.
bytes_alike : (f g : Frame) → bare_frame f ≡ bare_frame g → length f.bytes ≡ length g.bytes
bytes_alike f g e = simp length-replicate at (ap (λ (x : Frame). length x.bytes) e)

-- Of frames that are alike, word i is equal where it is of frames with equal bytes.
pub word_alike : (fs gs : List Frame) (i : ℕ) → map bare_frame fs ≡ map bare_frame gs → frame_at i fs ≡ frame_at i gs
    → get_or (all_words fs) i 0 ≡ get_or (all_words gs) i 0
unfolding frame_at
word_alike [] [] i e h = refl
word_alike [] (g ∷ gs) i e h = cc
word_alike (f ∷ fs) [] i e h = cc
word_alike (f ∷ fs) (g ∷ gs) i e h =
    let first : bare_frame f ≡ bare_frame g = cc in
    let n : ℕ = length (data_words g.bytes) in
    let same : length (data_words f.bytes) ≡ n = simp (data_words-length, bytes_alike f g first) in
    grind (arith, same, word_of f fs i n same, word_of g gs i n refl, word_alike fs gs (i - n) (cc))
