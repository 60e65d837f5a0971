-- Demand 3 is not empty: two runs, n = 14, that differ in a payload word, in the content of a frame stored and of one dropped, and in a filtered arrival; a
-- frame of 1,900 bytes is stored and one of 64 bytes dropped for lack of room. Computed. Assumes nothing.
use mathlib.Core.Path.{◌≡◌, refl}
use mathlib.Core.List.{List, [], ◌∷◌, ◌++◌}
use Prim.Native.Nat.{ℕ, ◌+◌, ◌^◌}
use lib.ListN.{replicate, length-replicate}
use Rattle.paper.specs.declared.Packet.TheVariants.{Known}
use Rattle.paper.specs.Memory.{words_lent}
use Rattle.paper.specs.Registers.{RXEN, TXEN, PASSBAD}
use Rattle.paper.specs.Calls.{Call, MacWrite, SetSplit, RxFifoInf, Arrive, RxDataRead, RxStatusPop, TxWord, Send, TxStatusPop}
use Rattle.paper.specs.Machine.{fresh}
use Rattle.paper.specs.Ledger.{begun}
use Rattle.paper.specs.Twins.{Agrees, Twins, stop, both, left, same, payload, counted, content, filtered}
use Rattle.paper.proofs.Compute.{everything}
use Rattle.paper.proofs.Demand3.{demand_3}
use Rattle.paper.proofs.Samples.{asked, us, another, source, lent_out}

abbrev headed : List ℕ → List ℕ → List ℕ
headed destination bytes = destination ++ source ++ (0x08 ∷ 0x00 ∷ bytes)

-- 20 bytes, 5 words, with their content; 1,900 bytes, 475 words; 64 bytes with their content, and 64 for another station
abbrev short : ℕ → List ℕ
short byte = headed us (byte ∷ replicate 5 0)

abbrev large : List ℕ
large = headed us (replicate 1886 0)

abbrev take64 : ℕ → List ℕ
take64 byte = headed us (byte ∷ replicate 49 0)

abbrev elsewhere : List ℕ
elsewhere = headed another (replicate 50 0x55)

abbrev opening : List Call
opening = SetSplit 14 ∷ MacWrite 3 0x3322_1102 ∷ MacWrite 2 0x5544 ∷ MacWrite 1 (2 ^ RXEN + 2 ^ TXEN + 2 ^ PASSBAD) ∷ TxWord 0x3004 ∷ TxWord 4 ∷ []

-- the packet is sent, and the short frame read back as far as its content
abbrev reading : List Call
reading = RxStatusPop ∷ RxDataRead ∷ RxDataRead ∷ RxDataRead ∷ RxDataRead ∷ []

abbrev one : List Call
one =
    opening ++ (TxWord 0x1111_1111 ∷ Send 0 lent_out ∷ TxStatusPop ∷ Arrive (short 1) 0 ∷ reading)
    ++ (Arrive elsewhere 0 ∷ Arrive large 0 ∷ Arrive (take64 1) 0 ∷ RxFifoInf ∷ [])

abbrev other : List Call
other =
    opening ++ (TxWord 0x2222_2222 ∷ Send 0 lent_out ∷ TxStatusPop ∷ Arrive (short 2) 0 ∷ reading)
    ++ (Arrive large 0 ∷ Arrive (take64 2) 0 ∷ RxFifoInf ∷ [])

abbrev memory : ℕ → List ℕ
memory w = replicate words_lent w

-- The two runs are such as demand 3 speaks of, over different memories.
pub two_runs : Twins (fresh (memory 0)) (fresh (memory 1)) one other
unfolding everything
two_runs =
    both same (both same (both same (both same (both same (both same
    (both (payload (counted 0x3004 1 (Known 4 4) refl))
    (both same (both same
    (both (content {f = short 1} {g = short 2} {flags = 0} refl refl refl)
    (both same (both same (both same (both same (both same
    (left {f = elsewhere} {flags = 0} filtered
    (both same
    (both (content {f = take64 1} {g = take64 2} {flags = 0} refl refl refl)
    (both same stop))))))))))))))))))

-- Their answers: the data word that holds the differing byte differs, the further arrival is answered 5, and nothing else differs.
pub two_runs_answers :
    (asked (fresh (memory 0)) one
    ≡ replicate 7 0 ++ (64 ∷ 0 ∷ 7 ∷ 0x0014_8822 ∷ 0x3322_1102 ∷ 0x0B0A_5544 ∷ 0x0F0E_0D0C ∷ 0x0001_0008 ∷ 5 ∷ 7 ∷ 6 ∷ 0x0001_0770 ∷ []))
    × (asked (fresh (memory 1)) other
    ≡ replicate 7 0 ++ (64 ∷ 0 ∷ 7 ∷ 0x0014_8822 ∷ 0x3322_1102 ∷ 0x0B0A_5544 ∷ 0x0F0E_0D0C ∷ 0x0002_0008 ∷ 7 ∷ 6 ∷ 0x0001_0770 ∷ []))
unfolding everything
two_runs_answers = (refl, refl)

-- So demand 3 holds of them.
pub two_runs_agree : Agrees begun begun two_runs
two_runs_agree = demand_3 (memory 0) (memory 1) (length-replicate {A = ℕ} words_lent 0) (length-replicate {A = ℕ} words_lent 1) one other two_runs
