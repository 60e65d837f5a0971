-- Whole calls on 4,096 words that are refused, or only just not, computed. Expected numbers come from paper 01 and from zlib's
-- crc32, not from the definitions.
--   register_refusals, word_refusals, full_and_still_taken, sending_refusals, entry_refusals, more_ranges, registers_kept
-- Assumes nothing.
use mathlib.Core.List.{List, [], ◌∷◌, ◌++◌, map}
use Prim.Native.Nat.{ℕ, ◌+◌, ◌^◌}
use lib.ListN.{replicate}
use Rattle.paper.specs.Fresh.{fresh_port, empty}
use mathlib.Core.Path.{◌≡◌, refl}
use Rattle.paper.specs.declared.Ring.{Ring}
use Rattle.paper.specs.declared.Expect.TheVariants.{CommandA, CommandB, Payload}
use Rattle.paper.specs.declared.Packet.TheVariants.{Closed, Opened, Known}
use Rattle.paper.specs.declared.State.{State}
use Rattle.paper.specs.Registers.{PASSBAD, HO, TXEN, RXEN}
use Rattle.paper.specs.Calls.{Reset, MacWrite, MacRead, SetSplit, Split, DumpTxData, DumpTxStatus, DumpRx, Arrive, TxWord, Send, TxStatusPop}
use Rattle.paper.specs.Machine.{World, world_after, fresh}
use Rattle.paper.proofs.Compute.{everything}
use Rattle.paper.proofs.Compute.{everything}
use Rattle.paper.proofs.Samples.{refusal, filled, lent_out, held, receives, sends_on, asked}

-- 3, 4 and 5: no such register; bad values, 3 before 4; n or a dump not allowed now, 4 before 5.
pub register_refusals :
    asked (fresh filled)
    (MacRead 0 ∷ MacRead 6 ∷ MacWrite 6 2 ∷ MacWrite 1 2 ∷ MacWrite 1 (2 ^ HO) ∷ MacWrite 1 (2 ^ 32) ∷ MacWrite 2 0x1_0000 ∷ MacWrite 2 0xFFFF ∷ MacRead 2
    ∷ MacWrite 1 (2 ^ RXEN) ∷ SetSplit 15 ∷ SetSplit 1 ∷ SetSplit 5 ∷ DumpRx ∷ DumpTxData ∷ MacWrite 1 (2 ^ TXEN) ∷ SetSplit 5 ∷ DumpTxData ∷ DumpRx
    ∷ DumpTxStatus ∷ MacWrite 1 0 ∷ SetSplit 14 ∷ Split ∷ TxWord 0x3001 ∷ SetSplit 14 ∷ DumpTxData ∷ SetSplit 14 ∷ TxWord 0 ∷ SetSplit 14 ∷ Reset ∷ Split ∷ [])
    ≡ refusal 3 ∷ refusal 3 ∷ refusal 3 ∷ refusal 4 ∷ refusal 4 ∷ refusal 4 ∷ refusal 4 ∷ 0 ∷ 0xFFFF
    ∷ 0 ∷ refusal 4 ∷ refusal 4 ∷ refusal 5 ∷ refusal 5 ∷ 0 ∷ 0 ∷ refusal 5 ∷ refusal 5 ∷ 0
    ∷ 0 ∷ 0 ∷ 0 ∷ 14 ∷ 0 ∷ refusal 5 ∷ 0 ∷ 0 ∷ refusal 7 ∷ refusal 5 ∷ 0 ∷ 5 ∷ []
unfolding everything
register_refusals = refl

-- the words on a fresh port, each list by itself, the last answer of each
abbrev pub last_of : List ℕ → ℕ
last_of [] = 0
last_of (x ∷ []) = x
last_of (x ∷ (y ∷ ys)) = last_of (y ∷ ys)

abbrev pub wrote : List ℕ → ℕ
wrote words = last_of (asked (fresh filled) (map TxWord words))

-- 6, 7 and 8: an error stands; bad A and p of a first B; later tag or p, and sizes.
pub word_refusals :
    map wrote
    -- A: alignment 3, size 0, no First with none open, First with one open
    ((0x0300_2001 ∷ []) ∷ (0x2000 ∷ []) ∷ (0x1001 ∷ []) ∷ (0x2001 ∷ 2 ∷ 0 ∷ 0x2001 ∷ []) ∷ (0x2001 ∷ 2 ∷ 0 ∷ 0x1001 ∷ [])
    -- p of a first B: 0, 1,514, 1,515, 1,518 with bit 13, 1,519 with bit 13
    ∷ (0x2001 ∷ 0 ∷ []) ∷ (0x2001 ∷ 1514 ∷ []) ∷ (0x2001 ∷ 1515 ∷ []) ∷ (0x2001 ∷ (0x2000 + 1518) ∷ []) ∷ (0x2001 ∷ (0x2000 + 1519) ∷ [])
    -- sizes: past p, short of p at Last, just p
    ∷ (0x2008 ∷ 7 ∷ []) ∷ (0x3006 ∷ 7 ∷ []) ∷ (0x3007 ∷ 7 ∷ [])
    -- a later B: other tag, other p, other bits only, sizes past p
    ∷ (0x2001 ∷ 0x1_0002 ∷ 0 ∷ 0x1001 ∷ 0x2_0002 ∷ []) ∷ (0x2001 ∷ 0x1_0002 ∷ 0 ∷ 0x1001 ∷ 0x1_0003 ∷ [])
    ∷ (0x2001 ∷ 0x1_0002 ∷ 0 ∷ 0x1001 ∷ 0x1_F802 ∷ []) ∷ (0x2001 ∷ 0x1_0002 ∷ 0 ∷ 0x1002 ∷ 0x1_0002 ∷ [])
    -- an error stands
    ∷ (0 ∷ 0x3001 ∷ [])
    ∷ [])
    ≡ refusal 7 ∷ refusal 7 ∷ refusal 7 ∷ refusal 7 ∷ 0
    ∷ refusal 7 ∷ 0 ∷ refusal 7 ∷ 0 ∷ refusal 7
    ∷ refusal 8 ∷ refusal 8 ∷ 0
    ∷ refusal 8 ∷ refusal 8 ∷ 0 ∷ refusal 8
    ∷ refusal 6
    ∷ []
unfolding everything
word_refusals = refl

-- TX data full, n = 2: an A and a first B find no room, after the other checks; a later B and payload words to be thrown away need none.
abbrev pub full : Ring
full = record { at = 7; count = 384 }

pub full_and_still_taken :
    asked (sends_on 0 (CommandA Closed) 0 full empty) (TxWord 0x3001 ∷ TxWord 0x3001 ∷ [])
    ++ asked (sends_on 0 (CommandA Closed) 0 full empty) (TxWord 0x1001 ∷ [])
    ++ asked (sends_on 0 (CommandB 0x3001 Opened) 0 full empty) (TxWord 1 ∷ [])
    ++ asked (sends_on 0 (CommandB 0x3001 Opened) 0 full empty) (TxWord 0 ∷ [])
    ++ asked (sends_on 0 (CommandB 0x3001 Opened) 0 full empty) (TxWord 2 ∷ [])
    ++ asked (sends_on 0 (CommandB 0x1001 (Known 2 1)) 0 full empty) (TxWord 2 ∷ TxWord 0 ∷ [])
    -- o 31, s 2, align 32: seven words thrown away, two stored, seven thrown away
    ++ asked (sends_on 0 (Payload 0x021F_3002 16 (Known 2 2)) 0 full empty) (replicate 8 (TxWord 0))
    ++ asked (sends_on 0 (Payload 0x021F_3002 7 (Known 2 2)) 0 full empty) (replicate 7 (TxWord 0) ++ (TxWord 0x3001 ∷ []))
    ≡ refusal 9 ∷ refusal 6 ∷ refusal 7 ∷ refusal 9 ∷ refusal 7 ∷ refusal 8 ∷ 0 ∷ refusal 9
    ∷ replicate 7 0 ++ (refusal 9 ∷ replicate 7 0 ++ (refusal 9 ∷ []))
unfolding everything
full_and_still_taken = refl

-- Sending: 10, 2, 11, 15 (head), 12, 13, in this order; the head packet here is FFFFFFFFh words, which no port stores.
pub sending_refusals :
    asked (sends_on 0 (CommandA Closed) 0 empty (held 0 128)) (Send 2 [] ∷ [])
    ++ asked (sends_on 8 (CommandA Closed) 0 empty (held 0 128)) (Send 2 [] ∷ Send 0 [] ∷ [])
    ++ asked (sends_on 8 (CommandA Closed) 1 (held 0 3) (held 0 128)) (Send 0 [] ∷ [])
    ++ asked (world_after (map TxWord (0x3001 ∷ 1 ∷ 0 ∷ [])) (sends_on 8 (CommandA Closed) 0 empty (held 0 128))) (Send 0 [] ∷ TxStatusPop ∷ Send 0 (replicate 1517 0) ∷ Send 0 lent_out ∷ [])
    ≡ refusal 10 ∷ refusal 2 ∷ refusal 11 ∷ refusal 15 ∷ refusal 12 ∷ 0xFFFF_FFFF ∷ refusal 13 ∷ 64 ∷ []
unfolding everything
sending_refusals = refl

-- 14 comes first, then 15; reset needs 14 only.
abbrev pub bad_split : State
bad_split = (receives 15 empty empty).state

abbrev pub over : List ℕ → World
over m = record { state = bad_split; memory = m }

pub entry_refusals :
    asked (over (replicate 4095 0)) (MacRead 0 ∷ Reset ∷ [])
    ++ asked (over (replicate 4097 0)) (Arrive [] 1 ∷ [])
    ++ asked (over []) (Send 2 [] ∷ [])
    ++ asked (over filled) (MacRead 0 ∷ Arrive [] 1 ∷ Send 2 [] ∷ TxWord 0 ∷ Reset ∷ Split ∷ [])
    -- places, counts, held words, payload words left and whole packets, one past their ranges
    ++ asked (receives 14 (held 480 0) empty) (Split ∷ [])
    ++ asked (receives 14 (held 479 480) empty) (Split ∷ [])
    ++ asked (receives 14 (held 0 481) empty) (Split ∷ [])
    ++ asked (sends_on 2 (CommandA Closed) 0 empty empty) (Split ∷ [])
    ++ asked (sends_on 0 (CommandA Opened) 0 empty empty) (Split ∷ [])
    ++ asked (sends_on 0 (CommandA (Known 7 8)) 0 empty empty) (Split ∷ [])
    ++ asked (sends_on 0 (CommandA (Known 7 7)) 0 empty empty) (Split ∷ [])
    ++ asked (sends_on 0 (CommandB 0x3001 Closed) 0 empty empty) (Split ∷ [])
    ++ asked (sends_on 0 (CommandB 0x1001 Opened) 0 empty empty) (Split ∷ [])
    ++ asked (sends_on 0 (CommandB 0x3001 (Known 7 1)) 0 empty empty) (Split ∷ [])
    ++ asked (sends_on 0 (Payload 0x3001 0 (Known 1 1)) 0 empty empty) (Split ∷ [])
    ++ asked (sends_on 0 (Payload 0x3001 1 (Known 1 1)) 0 empty empty) (Split ∷ [])
    ++ asked (sends_on 0 (Payload 0x3001 2 (Known 1 1)) 0 empty empty) (Split ∷ [])
    ++ asked (sends_on 0 (Payload 0x3001 1 Opened) 0 empty empty) (Split ∷ [])
    ++ asked (sends_on 0 (CommandA Closed) 1 (held 0 2) empty) (Split ∷ [])
    ++ asked (sends_on 0 (CommandA Closed) 1 (held 0 3) empty) (Split ∷ [])
    ≡ refusal 14 ∷ refusal 14 ∷ refusal 14 ∷ refusal 14 ∷ refusal 15 ∷ refusal 15 ∷ refusal 15 ∷ refusal 15 ∷ 0 ∷ 5
    ∷ refusal 15 ∷ 14 ∷ refusal 15 ∷ refusal 15 ∷ refusal 15 ∷ refusal 15 ∷ 2 ∷ refusal 15 ∷ refusal 15 ∷ refusal 15
    ∷ refusal 15 ∷ 2 ∷ refusal 15 ∷ refusal 15 ∷ refusal 15 ∷ 2 ∷ []
unfolding everything
entry_refusals = refl

-- The five MAC registers keep what is written; setting n and the dumps leave them, reset does not.
pub registers_kept :
    asked (fresh filled)
    (MacWrite 1 (2 ^ PASSBAD) ∷ MacWrite 2 0x1234 ∷ MacWrite 3 0x5678_9ABC ∷ MacWrite 4 0x1111_1111 ∷ MacWrite 5 0x2222_2222 ∷ SetSplit 9 ∷ DumpRx ∷ DumpTxData ∷ DumpTxStatus
    ∷ map MacRead (1 ∷ 2 ∷ 3 ∷ 4 ∷ 5 ∷ []) ++ (Reset ∷ map MacRead (1 ∷ 2 ∷ 3 ∷ 4 ∷ 5 ∷ []) ++ (Split ∷ [])))
    ≡ replicate 9 0 ++ (2 ^ PASSBAD ∷ 0x1234 ∷ 0x5678_9ABC ∷ 0x1111_1111 ∷ 0x2222_2222 ∷ 0 ∷ 0 ∷ 0xFFFF ∷ 0xFFFF_FFFF ∷ 0 ∷ 0 ∷ 5 ∷ [])
unfolding everything
registers_kept = refl

-- More numbers one past their ranges, and at their last good value: the other rings, n, ADDRH, and a held first B.
abbrev pub placed : (n addrh : ℕ) → (txdata txstatus rxstatus : Ring) → World
placed n addrh txdata txstatus rxstatus =
    record {
      state =
          record {
            control = record { registers = record { n = n; maccr = 0; addrh = addrh; addrl = 0; hashh = 0; hashl = 0; drops = 0 }; port = fresh_port };
            txdata = txdata;
            txstatus = txstatus;
            rxdata = empty;
            rxstatus = rxstatus;
          };
      memory = filled;
    }

pub more_ranges :
    map (λ w. last_of (asked w (Split ∷ [])))
    (placed 1 0 empty empty empty ∷ placed 2 0xFFFF (held 383 384) (held 127 128) (held 223 224) ∷ placed 2 0x1_0000 empty empty empty
    ∷ placed 2 0 (held 384 0) empty empty ∷ placed 2 0 (held 0 385) empty empty ∷ placed 2 0 empty (held 128 0) empty ∷ placed 2 0 empty (held 0 129) empty
    ∷ placed 2 0 empty empty (held 224 0) ∷ placed 2 0 empty empty (held 0 225)
    ∷ sends_on 0 (CommandA (Known 0 0)) 0 empty empty ∷ sends_on 0 (CommandA (Known 1515 0)) 0 empty empty ∷ sends_on 0 (CommandA (Known 0x25EE 0)) 0 empty empty
    ∷ sends_on 0 (CommandB 0x0300_1001 (Known 7 1)) 0 empty empty ∷ [])
    ≡ refusal 15 ∷ 2 ∷ refusal 15 ∷ refusal 15 ∷ refusal 15 ∷ refusal 15 ∷ refusal 15 ∷ refusal 15 ∷ refusal 15 ∷ refusal 15 ∷ refusal 15 ∷ 2 ∷ refusal 15 ∷ []
unfolding everything
more_ranges = refl
