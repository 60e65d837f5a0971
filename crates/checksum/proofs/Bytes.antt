-- The register after some bytes of a list.
--   run-append     after two lists
--   run_more       one byte more
--   run_turn       eight bytes, as the code adds them: two words, of which only the first waits for the register
--   run_turns      eight bytes a turn, then the rest
--   word_of_last   the word of four bytes
-- Assumes nothing.
use mathlib.Core.Path.{◌≡◌, refl}
use mathlib.Core.List.{List, [], ◌∷◌, ◌++◌}
use Prim.Native.Nat.{ℕ, zero, suc, ◌+◌, ◌*◌, ◌%◌, ◌^◌, ◌<◌}
use native.Mathlib.Nat.{mod-eq_of_lt, add-zero}
use native.Mathlib.Omega.{arith}
use lib.Bits.{bit_xor, xor_comm}
use lib.ListN.{length, get_or, take, drop, take-append-drop}
use Rattle.std.proofs.lemmas.List.{take_more, get_or-drop}
use Rattle.std.specs.Int.{w32, from_le_bytes}
use Rattle.std.specs.List.{fold}
use Rattle.std.specs.Simd.{first_chunks}
use lib.Seq.{drop-drop}
use Rattle.paper.specs.Words.{word_at}
use Rattle.checksum.specs.Register.{steps, run}
use Rattle.checksum.proofs.Steps.{steps_xor, steps_add, join}

-- After two lists: from where the first ends.
pub run-append : (p r : ℕ) (a b : List ℕ) → run p r (a ++ b) ≡ run p (run p r a) b
unfolding run
run-append p r [] b = refl
run-append p r (x ∷ a) b = run-append p (steps p 8 (bit_xor r (x % 256))) a b

-- One byte more.
pub run_more : (p r i : ℕ) (s : List ℕ) → i < length s → get_or s i 0 < 256
    → steps p 8 (bit_xor (run p r (take i s)) (get_or s i 0)) ≡ run p r (take (i + 1) s)
unfolding run
run_more p r i s h small = rw (take_more s i 0 h, run-append, mod-eq_of_lt small)

-- Four bytes are added at once.
four : (p r a b c d : ℕ) → a < 256 → b < 256 → c < 256 → d < 256
    → run p r (a ∷ b ∷ c ∷ d ∷ []) ≡ steps p 32 (bit_xor r (a + b * 2 ^ 8 + c * 2 ^ 16 + d * 2 ^ 24))
unfolding run
four p r a b c d ha hb hc hd =
    cc (
      mod-eq_of_lt ha,
      mod-eq_of_lt hb,
      mod-eq_of_lt hc,
      mod-eq_of_lt hd,
      join p 8 8 r a b ha,
      join p 16 8 r (a + b * 2 ^ 8) c (omega arith),
      join p 24 8 r (a + b * 2 ^ 8 + c * 2 ^ 16) d (omega arith),
    )

-- Eight bytes: two words, of which only the first waits for the register.
pub run_turn : (p r : ℕ) (s : List ℕ) → length s ≡ 8 → ((k : ℕ) → get_or s k 0 < 256)
    → bit_xor (steps p 64 (bit_xor (word_at s 0) r)) (steps p 32 (word_at s 4)) ≡ run p r s
run_turn p r (a ∷ b ∷ c ∷ d ∷ e ∷ f ∷ g ∷ h ∷ []) l byte =
    let first : ℕ = a + b * 2 ^ 8 + c * 2 ^ 16 + d * 2 ^ 24 in
    let last : ℕ = e + f * 2 ^ 8 + g * 2 ^ 16 + h * 2 ^ 24 in
    let half : ℕ = run p r (a ∷ b ∷ c ∷ d ∷ []) in
    cc (
      run-append p r (a ∷ b ∷ c ∷ d ∷ []) (e ∷ f ∷ g ∷ h ∷ []),
      four p r a b c d (byte 0) (byte 1) (byte 2) (byte 3),
      four p half e f g h (byte 4) (byte 5) (byte 6) (byte 7),
      steps_xor p 32 half last,
      steps_add p 32 32 (bit_xor r first),
      xor_comm r first,
    )
run_turn p r s l byte = absurd (omega arith)

-- Eight bytes a turn, then the rest.
pub run_turns : (p r k : ℕ) (s : List ℕ) → run p (fold (run p) r (first_chunks 8 k s)) (drop (k * 8) s) ≡ run p r s
run_turns p r zero s = refl
run_turns p r (suc k) s =
    let turn : suc k * 8 ≡ 8 + k * 8 = omega arith in
    cc (
      turn,
      drop-drop (k * 8) 8 s,
      run_turns p (run p r (take 8 s)) k (drop 8 s),
      run-append p r (take 8 s) (drop 8 s),
      take-append-drop 8 s,
    )

-- The word of the bytes from n on, where they are four.
pub word_of_last : (s : List ℕ) (n : ℕ) → from_le_bytes w32 (drop n s) ≡ word_at s n
word_of_last s n = simp (get_or-drop, add-zero)
