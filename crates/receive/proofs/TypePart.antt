-- V by the frame's part from offset 12 on.
--   type_part             V is the number in the first two bytes of that part
-- Assumes nothing.
use Rattle.std.proofs.Common.{◌≡◌, ℕ, ◌+◌, ◌-◌, ◌*◌, ◌^◌, List, length, get_or, take, drop, arith, length-drop, get_or-drop, take_all, get_or-take}
use Rattle.paper.specs.Status.{length_or_type}

-- The first two bytes from offset 12 on are V.
pub type_part : (frame : List ℕ)
    → get_or (take (length frame - 12) (drop 12 frame)) 0 0 * 2 ^ 8 + get_or (take (length frame - 12) (drop 12 frame)) 1 0 ≡ length_or_type (take 14 frame)
type_part frame =
    rw (
      take_all (length frame - 12) (drop 12 frame) (omega (arith, length-drop 12 frame)),
      get_or-drop 12 frame 0 0,
      get_or-drop 12 frame 1 0,
      get_or-take 14 frame 12 0 (omega arith),
      get_or-take 14 frame 13 0 (omega arith),
    )
