-- Whole calls on 4,096 words that receive, computed: they pin what the twelve rows leave open. Expected numbers come from paper 01 and from zlib's
-- crc32, not from the definitions.
--   stored_and_read_back, stored_in_memory, stored_round_the_end, dropped_for_lack_of_room, drops_wrap, rx_dumped
--   lines_in_order, filter_cases, status_bits
-- Assumes nothing.
use mathlib.Core.Bool.{true, Bool, false}
use mathlib.Core.List.{List, [], ◌∷◌, ◌++◌, map}
use Prim.Native.Nat.{ℕ, ◌+◌, ◌^◌}
use lib.ListN.{replicate}
use Rattle.paper.specs.declared.Registers.{Registers}
use Rattle.paper.specs.Status.{Look}
use mathlib.Core.Path.{◌≡◌, refl}
use Rattle.paper.specs.Registers.{RXALL, MCPAS, PRMS, INVFILT, PASSBAD, HO, HPFILT, BCAST, RXEN, one_more}
use Rattle.paper.specs.Filter.{passes}
use Rattle.paper.specs.Arrivals.{arrival, arrival_answer}
use Rattle.paper.specs.Calls.{Call, MacWrite, Split, RxFifoInf, RxDrop, DumpRx, Arrive, RxDataRead, RxStatusPop, RxStatusPeek}
use Rattle.paper.specs.Machine.{world_after, fresh}
use Rattle.paper.proofs.Compute.{everything}
use Rattle.paper.proofs.Compute.{everything}
use Rattle.paper.proofs.Samples.{station, packed, refusal, us, another, everybody, seen, frame64, frame65, filled, held, receives, asked, posted}

abbrev pub words65 : List ℕ
words65 =
    0x3322_1102 ∷ 0x0B0A_5544 ∷ 0x0F0E_0D0C ∷ 0x300B_0008 ∷ 0xC49F_7A55 ∷ 0x5833_0EE9 ∷ 0xECC7_A27D ∷ 0x805B_3611 ∷ 0x14EF_CAA5 ∷ 0xA883_5E39
    ∷ 0x3C17_F2CD ∷ 0xD0AB_8661 ∷ 0x643F_1AF5 ∷ 0xF8D3_AE89 ∷ 0x8C67_421D ∷ 0x1BE4_CBB1 ∷ 0x0000_0070 ∷ []

abbrev pub opening : List Call
opening = MacWrite 3 0x3322_1102 ∷ MacWrite 2 0x5544 ∷ MacWrite 1 (2 ^ RXEN) ∷ Arrive frame65 0 ∷ []

-- A frame of 65 bytes is stored; its status can be peeked and popped, its words are read back with zeros behind the last byte, and then nothing is there.
pub stored_and_read_back :
    asked (fresh filled) (opening ++ (RxFifoInf ∷ RxStatusPeek ∷ RxStatusPop ∷ replicate 17 RxDataRead) ++ (RxDataRead ∷ RxStatusPop ∷ RxStatusPeek ∷ RxFifoInf ∷ RxDrop ∷ []))
    ≡ 0 ∷ 0 ∷ 0 ∷ 7 ∷ 0x0001_0044 ∷ 0x0041_0020 ∷ 0x0041_0020 ∷ words65 ++ (refusal 11 ∷ refusal 11 ∷ refusal 11 ∷ 0 ∷ 0 ∷ [])
unfolding everything
stored_and_read_back = refl

-- It lies from word 1,280 on, its status at word 3,920, and no other word is written.
pub stored_in_memory :
    (world_after opening (fresh filled)).memory
    ≡ replicate 1280 0xFFFF_FFFF ++ words65 ++ replicate 2623 0xFFFF_FFFF ++ (0x0041_0020 ∷ replicate 175 0xFFFF_FFFF)
unfolding everything
stored_in_memory = refl

-- n = 14, 16 of 480 words free, the oldest word at place 10: the frame goes on from the FIFO's last place to its first.
pub stored_round_the_end :
    (world_after (Arrive frame64 0 ∷ []) (receives 14 (held 10 464) (held 31 1))).memory
    ≡ replicate 3584 0xFFFF_FFFF
    ++ (0xECC7_A27D ∷ 0x805B_3611 ∷ 0x14EF_CAA5 ∷ 0xA883_5E39 ∷ 0x3C17_F2CD ∷ 0xD0AB_8661 ∷ 0x643F_1AF5 ∷ 0xF8D3_AE89 ∷ 0x8C67_421D ∷ 0x7E7A_3492 ∷ [])
    ++ replicate 464 0xFFFF_FFFF
    ++ (0x3322_1102 ∷ 0x0B0A_5544 ∷ 0x0F0E_0D0C ∷ 0x300B_0008 ∷ 0xC49F_7A55 ∷ 0x5833_0EE9 ∷ [])
    ++ (0x0040_0020 ∷ replicate 31 0xFFFF_FFFF)
unfolding everything
stored_round_the_end = refl

-- With just enough room a frame is stored and the next is dropped, which RX_DROP counts and then clears; one word too few, or no status, and it is dropped.
pub dropped_for_lack_of_room :
    asked (receives 14 (held 10 464) (held 31 1)) (Arrive frame64 0 ∷ Arrive frame64 0 ∷ RxFifoInf ∷ RxDrop ∷ RxDrop ∷ [])
    ++ asked (receives 14 (held 10 465) (held 31 1)) (Arrive frame64 0 ∷ RxFifoInf ∷ [])
    ++ asked (receives 14 (held 0 0) (held 0 32)) (Arrive frame64 0 ∷ RxFifoInf ∷ [])
    ++ asked (receives 14 (held 0 0) (held 0 31)) (Arrive frame64 0 ∷ RxFifoInf ∷ [])
    ≡ 7 ∷ 6 ∷ 0x0002_0780 ∷ 1 ∷ 0 ∷ 6 ∷ 0x0001_0744 ∷ 6 ∷ 0x0020_0000 ∷ 7 ∷ 0x0020_0040 ∷ []
unfolding everything
dropped_for_lack_of_room = refl

-- RX_DROP after FFFFFFFFh is 0.
pub drops_wrap : map one_more (0 ∷ 0xFFFF_FFFE ∷ 0xFFFF_FFFF ∷ []) ≡ 1 ∷ 0xFFFF_FFFF ∷ 0 ∷ []
drops_wrap = refl

abbrev pub flagged : (flags : ℕ) → Look → Look
flagged flags l = record { len = l.len; head = l.head; flags = flags; fits = l.fits }

abbrev pub damaged : Look → Look
damaged l = record { len = l.len; head = l.head; flags = l.flags; fits = false }

-- the answer to a look, with so many data words and statuses free
abbrev pub arrived : (maccr words statuses : ℕ) → Look → ℕ
arrived maccr words statuses l = packed (arrival_answer (arrival (station maccr) words statuses l))

-- The first line that applies answers: each look below is answered by a line though later lines apply too.
pub lines_in_order :
    -- line 1: lengths, before the flags
    arrived 4 512 1 (flagged 1 (seen 0 us 0)) ∷ arrived 4 512 1 (flagged 1 (seen 2049 us 0)) ∷ arrived 4 512 1 (seen 2048 us 0)
    -- line 2: flags, before RXEN
    ∷ arrived 0 512 1 (flagged 1 (seen 10 us 0)) ∷ arrived 0 512 1 (flagged 0x80 (seen 64 us 0)) ∷ arrived 0 512 1 (flagged 0x4C (seen 64 us 0))
    -- line 3: RXEN clear, before the length
    ∷ arrived 0 512 1 (seen 10 another 0)
    -- line 4: short or collided, before the filter
    ∷ arrived 4 512 1 (seen 63 another 0) ∷ arrived (4 + 2 ^ PASSBAD) 512 1 (seen 13 another 0) ∷ arrived (4 + 2 ^ PASSBAD) 512 1 (seen 14 us 0)
    ∷ arrived 4 512 1 (flagged 0x40 (seen 64 us 0)) ∷ arrived (4 + 2 ^ PASSBAD) 512 1 (flagged 0x40 (seen 64 us 0))
    -- line 5: the filter, before room
    ∷ arrived 4 0 0 (seen 64 another 0) ∷ arrived (4 + 2 ^ RXALL) 0 0 (seen 64 another 0)
    -- lines 6 and 7: room
    ∷ arrived 4 15 1 (seen 64 us 0) ∷ arrived 4 16 0 (seen 64 us 0) ∷ arrived 4 16 1 (seen 64 us 0) ∷ arrived 4 16 1 (seen 65 us 0) ∷ []
    ≡ refusal 1 ∷ refusal 1 ∷ 7 ∷ refusal 2 ∷ refusal 2 ∷ 3 ∷ 3 ∷ 4 ∷ 4 ∷ 7 ∷ 4 ∷ 7 ∷ 5 ∷ 6 ∷ 6 ∷ 6 ∷ 7 ∷ 6 ∷ []
unfolding everything
lines_in_order = refl

abbrev pub hashing : (maccr hashh hashl : ℕ) → Registers
hashing maccr hashh hashl = record { n = 5; maccr = maccr; addrh = 0x5544; addrl = 0x3322_1102; hashh = hashh; hashl = hashl; drops = 0 }

-- group addresses with hashes 31 and 62; that of us is 49
abbrev pub group31 : List ℕ
group31 = 0x01 ∷ 0x00 ∷ 0x5E ∷ 0x00 ∷ 0x00 ∷ 0x01 ∷ []

abbrev pub group62 : List ℕ
group62 = 0x33 ∷ 0x33 ∷ 0x00 ∷ 0x00 ∷ 0x00 ∷ 0x01 ∷ []

abbrev pub each : Registers → List Bool
each r = map (passes r) (us ∷ another ∷ group31 ∷ group62 ∷ everybody ∷ [])

-- What passes: us, another station, two groups, broadcast; one line for each of 01's settings, then broadcast shut and the hash registers exchanged.
pub filter_cases :
    map each
    (station 0
    ∷ hashing (2 ^ HPFILT) 0 (2 ^ 31)
    ∷ hashing (2 ^ HO + 2 ^ HPFILT) (2 ^ 17 + 2 ^ 30) 0
    ∷ station (2 ^ INVFILT)
    ∷ station (2 ^ PRMS)
    ∷ station (2 ^ MCPAS)
    ∷ hashing (2 ^ MCPAS + 2 ^ HO + 2 ^ HPFILT) 0 0
    ∷ station (2 ^ BCAST)
    ∷ station (2 ^ BCAST + 2 ^ INVFILT)
    ∷ station (2 ^ BCAST + 2 ^ PRMS)
    ∷ hashing (2 ^ HPFILT) (2 ^ 31) (2 ^ 30)
    ∷ [])
    ≡ (true ∷ false ∷ false ∷ false ∷ true ∷ [])
    ∷ (true ∷ false ∷ true ∷ false ∷ true ∷ [])
    ∷ (true ∷ false ∷ false ∷ true ∷ true ∷ [])
    ∷ (false ∷ true ∷ true ∷ true ∷ true ∷ [])
    ∷ (true ∷ true ∷ true ∷ true ∷ true ∷ [])
    ∷ (true ∷ false ∷ true ∷ true ∷ true ∷ [])
    ∷ (false ∷ false ∷ true ∷ true ∷ true ∷ [])
    ∷ (true ∷ false ∷ false ∷ false ∷ false ∷ [])
    ∷ (false ∷ true ∷ true ∷ true ∷ false ∷ [])
    ∷ (true ∷ true ∷ true ∷ true ∷ false ∷ [])
    ∷ (true ∷ false ∷ false ∷ false ∷ true ∷ [])
    ∷ []
unfolding everything
filter_cases = refl

-- Bits 10, 6, 3, 2 and 1 of the status, bit 12 at its edges, and V at 1,500 and 1,501.
pub status_bits :
    posted (2 ^ RXEN + 2 ^ MCPAS) (seen 64 group31 0x0800)
    ++ posted (2 ^ RXEN + 2 ^ PASSBAD) (flagged 0x4C (seen 64 us 0x0800))
    ++ posted (2 ^ RXEN) (flagged 0x0C (seen 64 us 0x0800))
    ++ posted (2 ^ RXEN) (damaged (seen 64 us 0x0800))
    ++ posted (2 ^ RXEN) (seen 1518 us 1500)
    ++ posted (2 ^ RXEN) (seen 1518 us 1501)
    ++ posted (2 ^ RXEN) (seen 1517 us 1500)
    ++ posted (2 ^ RXEN) (seen 1518 us 1499)
    ++ posted (2 ^ RXEN) (seen 64 us 10)
    ≡ 7 ∷ 0x0040_0420 ∷ 7 ∷ 0x0040_806C ∷ 7 ∷ 0x0040_002C ∷ 7 ∷ 0x0040_8022
    ∷ 7 ∷ 0x05EE_0000 ∷ 7 ∷ 0x05EE_0020 ∷ 7 ∷ 0x05ED_1000 ∷ 7 ∷ 0x05EE_1000 ∷ 7 ∷ 0x0040_0000 ∷ []
unfolding everything
status_bits = refl

-- A dump of RX empties both receive FIFOs, wherever their words lay, and writes no memory; RX_DROP and the registers stay.
pub rx_dumped :
    (asked (receives 14 (held 10 464) (held 31 1)) (Arrive frame64 0 ∷ Arrive frame64 0 ∷ MacWrite 1 0 ∷ DumpRx ∷ RxFifoInf ∷ RxStatusPop ∷ RxDataRead ∷ RxDrop ∷ Split ∷ [])
    ≡ 7 ∷ 6 ∷ 0 ∷ 0 ∷ 0 ∷ refusal 11 ∷ refusal 11 ∷ 1 ∷ 14 ∷ [])
    × ((world_after (MacWrite 1 0 ∷ DumpRx ∷ []) (receives 14 (held 10 464) (held 31 1))).memory ≡ filled)
unfolding everything
rx_dumped = (refl, refl)
