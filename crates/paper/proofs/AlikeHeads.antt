-- The packet to be sent next: it is the head packet, and sending it is answered by its first B.
--   due l                 the first B of the packet to be sent next
--   due_bare              it does not depend on content
--   head_kept             where a whole packet waits, the head packet is found with this B
--   sends_alike           two head packets with one first B are answered equally
-- Assumes nothing.
use native.Mathlib.Omega.{arith}
use mathlib.Core.Path.{◌≡◌, refl, sym, ap, ◌∙◌}
use mathlib.Core.List.{List, [], ◌∷◌, map}
use Prim.Native.Nat.{ℕ, ◌-◌}
use lib.ListN.{length, length-drop}
use Rattle.paper.specs.declared.Control.{Control}
use Rattle.paper.specs.Sending.{Buffer, Found, head_of, sent_bytes}
use Rattle.paper.specs.Acts.{sends}
use Rattle.paper.specs.Machine.{World, waits}
use Rattle.paper.specs.Ledger.{Whole, Ledger, next_b}
use Rattle.paper.proofs.Counts.{frame_length, head_fits}
use Rattle.paper.proofs.Kept.{Kept}
use Rattle.paper.proofs.Packets.{buffer_of}
use Rattle.paper.proofs.Unsent.{unsent, head_never_none}
use Rattle.paper.proofs.Alike.{bare}
use Rattle.paper.proofs.AlikeNotes.{next_bare}

-- the first B of the packet to be sent next
abbrev pub due : Ledger → ℕ
due l = next_b (unsent l)

-- It does not depend on content.
pub due_bare : (l : Ledger) → due (bare l) ≡ due l
unfolding bare
due_bare l = next_bare l.wrote.sent l.wrote.packets

-- Where a whole packet waits, it is the head packet.
pub head_kept : {l : Ledger} {w : World} → Kept l w → (length l.wrote.packets - l.wrote.sent ≡ 0 → ⊥)
    → (xs : List Buffer) × (head_of (waits w).txdata ≡ Found (due l) xs)
head_kept {l} {w} h some = first (unsent l) refl
  where
    first : (ps : List Whole) → unsent l ≡ ps → (xs : List Buffer) × (head_of (waits w).txdata ≡ Found (next_b ps) xs)
    first [] e = absurd (some (sym (length-drop l.wrote.sent l.wrote.packets) ∙ ap length e))
    first (p ∷ ps) e = (map buffer_of p.buffers, head_never_none h p ps e)

-- Where both runs find a head packet with one first B, they answer the same to sending.
pub sends_alike : (q q' : List ℕ) (b : ℕ) (xs xs' : List Buffer) → head_of q ≡ Found b xs → head_of q' ≡ Found b xs'
    → (outcome out statuses whole : ℕ) (k : Control)
    → (sends (head_of q) outcome out statuses whole k).answer ≡ (sends (head_of q') outcome out statuses whole k).answer
unfolding sends
sends_alike q q' b xs xs' e e' outcome out statuses whole k =
    let h = head_fits q b xs e in
    let h' = head_fits q' b xs' e' in
    rw (e, e', frame_length b (sent_bytes xs) h.bytes, frame_length b (sent_bytes xs') h'.bytes)
    (grind arith)
