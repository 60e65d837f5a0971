-- Whole calls on 4,096 words that transmit, computed. Expected numbers come from paper 01 and from zlib's
-- crc32, not from the definitions.
--   packet_sent, sent_by_the_bits_of_b, outcome_bits, tx_dumped
-- Assumes nothing.
use mathlib.Core.List.{List, [], ◌∷◌, ◌++◌, map}
use Prim.Native.Nat.{ℕ, ◌^◌}
use lib.ListN.{replicate, length, take}
use mathlib.Core.Path.{◌≡◌, refl}
use Rattle.paper.specs.Registers.{TXEN}
use Rattle.paper.specs.Sending.{frame_of, tx_status}
use Rattle.paper.specs.Calls.{Call, MacWrite, TxFifoInf, DumpTxData, DumpTxStatus, TxWord, Send, TxStatusPop, TxStatusPeek}
use Rattle.paper.specs.Machine.{world_after, fresh, step}
use Rattle.paper.proofs.Compute.{everything}
use Rattle.paper.proofs.Compute.{everything}
use Rattle.paper.proofs.Samples.{refusal, frame64, filled, lent_out, asked}

-- Seven bytes in two buffers: o 2, s 3, then o 5, s 4, align 16. The first of the last buffer's four payload words and its last are thrown away; its B
-- has other bits 13 and 12, which mean nothing there.
abbrev pub packet : List Call
packet =
    map TxWord
    (0x0002_2003 ∷ 0xBEEF_0007 ∷ 0x0201_EEEE ∷ 0xEEEE_EE03 ∷ 0x0105_1004 ∷ 0xBEEF_3007 ∷ 0xEEEE_EEEE ∷ 0x0605_04EE ∷ 0xEEEE_EE07 ∷ [])

-- The later B takes no room; the packet is whole with its last word, though that is thrown away; it is sent padded to 60 bytes with an FCS behind, the rest
-- of the out buffer stays, its words are free again, and one status waits.
pub packet_sent :
    (asked (fresh filled)
    (MacWrite 1 (2 ^ TXEN) ∷ packet ++ (TxFifoInf ∷ Send 0x200 lent_out ∷ TxWord 0 ∷ TxFifoInf ∷ Send 0x200 lent_out ∷ Send 0x200 lent_out ∷ TxFifoInf ∷ TxStatusPeek ∷ TxStatusPop ∷ TxStatusPop ∷ []))
    ≡ replicate 10 0 ++ (0x0000_11E4 ∷ refusal 11 ∷ 0 ∷ 0x0000_11E4 ∷ 64 ∷ refusal 11 ∷ 0x0001_1200 ∷ 0xBEEF_8200 ∷ 0xBEEF_8200 ∷ refusal 11 ∷ []))
    × ((step (Send 0x200 lent_out) (world_after (MacWrite 1 (2 ^ TXEN) ∷ packet ++ (TxWord 0 ∷ [])) (fresh filled))).out
    ≡ (1 ∷ 2 ∷ 3 ∷ 4 ∷ 5 ∷ 6 ∷ 7 ∷ replicate 53 0) ++ (0xA9 ∷ 0xFF ∷ 0x0B ∷ 0x02 ∷ replicate 1454 0xEE))
    × ((world_after (MacWrite 1 (2 ^ TXEN) ∷ packet ++ (TxWord 0 ∷ Send 0x200 lent_out ∷ [])) (fresh filled)).memory
    ≡ (0x0002_2003 ∷ 0xBEEF_0007 ∷ 0x0201_EEEE ∷ 0xEEEE_EE03 ∷ 0x0105_1004 ∷ 0x0605_04EE ∷ 0xEEEE_EE07 ∷ replicate 1145 0xFFFF_FFFF)
    ++ (0xBEEF_8200 ∷ replicate 2943 0xFFFF_FFFF))
unfolding everything
packet_sent = (refl, refl, refl)

abbrev pub seven : List ℕ
seven = 1 ∷ 2 ∷ 3 ∷ 4 ∷ 5 ∷ 6 ∷ 7 ∷ []

-- Padding brings the FCS whatever bit 13 says; without padding the FCS goes by bit 13. Lengths for p 7 and p 60, bits 13 and 12 in all four ways.
pub sent_by_the_bits_of_b :
    (frame_of 0x2007 seven ≡ seven ++ replicate 53 0 ++ (0xA9 ∷ 0xFF ∷ 0x0B ∷ 0x02 ∷ []))
    × (frame_of 0x1007 seven ≡ seven ++ (136 ∷ 104 ∷ 228 ∷ 112 ∷ []))
    × (map (λ b. length (frame_of b seven)) (0x0007 ∷ 0x1007 ∷ 0x2007 ∷ 0x3007 ∷ []) ≡ 64 ∷ 11 ∷ 64 ∷ 7 ∷ [])
    × (map (λ b. length (frame_of b (take 60 frame64))) (0x003C ∷ 0x103C ∷ 0x203C ∷ 0x303C ∷ []) ≡ 64 ∷ 64 ∷ 60 ∷ 60 ∷ [])
unfolding everything
sent_by_the_bits_of_b = (refl, refl, refl, refl)

-- Each bit of an outcome: 11, 10, 9, 8 and 2 set bit 15 too.
pub outcome_bits :
    map (tx_status 0x0001_0000) (2 ^ 11 ∷ 2 ^ 10 ∷ 2 ^ 9 ∷ 2 ^ 8 ∷ 0x78 ∷ 2 ^ 2 ∷ 2 ^ 0 ∷ [])
    ≡ 0x0001_8800 ∷ 0x0001_8400 ∷ 0x0001_8200 ∷ 0x0001_8100 ∷ 0x0001_0078 ∷ 0x0001_8004 ∷ 0x0001_0001 ∷ []
unfolding everything
outcome_bits = refl

-- A dump of TX data forgets a whole packet and an open one and clears the error; statuses stay. A dump of TX status leaves TX data.
pub tx_dumped :
    asked (fresh filled)
    (map TxWord (0x3001 ∷ 1 ∷ 0 ∷ 0x3001 ∷ 1 ∷ 0 ∷ 0x2001 ∷ 2 ∷ 0 ∷ 0x2001 ∷ [])
    ++ (MacWrite 1 (2 ^ TXEN) ∷ Send 0 lent_out ∷ MacWrite 1 0 ∷ TxFifoInf ∷ DumpTxData ∷ TxFifoInf ∷ MacWrite 1 (2 ^ TXEN) ∷ Send 0 lent_out ∷ TxWord 0x3001 ∷ DumpTxStatus
    ∷ TxFifoInf ∷ TxStatusPop ∷ []))
    ≡ replicate 9 0 ++ (refusal 7 ∷ 0 ∷ 64 ∷ 0 ∷ 0x0001_11E8 ∷ 0 ∷ 0x0001_1200 ∷ 0 ∷ refusal 11 ∷ 0 ∷ 0 ∷ 0x0000_11FC ∷ refusal 11 ∷ [])
unfolding everything
tx_dumped = refl
