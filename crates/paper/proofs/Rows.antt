-- The twelve rows of paper 01, proved together: what the definitions give is what 01 prints. With them the table of settings.
--   rows                  the twelve rows, each with what is given and what 01 prints
--   twelve_rows           the two columns are equal
-- Rows 7 to 11 go by the rule for arrivals: the answer's number, then the status put, if one is.
-- Assumes nothing.
use Rattle.std.specs.Prelude.{if◌then◌else◌, None}
use mathlib.Core.Path.{◌≡◌, refl}
use mathlib.Core.Bool.{Bool, true, false, ◌&&◌, ◌||◌}
use mathlib.Core.List.{List, [], ◌∷◌, ◌++◌, map}
use Prim.Native.Nat.{ℕ, ◌+◌, ◌/◌, ◌%◌, ◌^◌}
use lib.Dec.{eqb}
use lib.ListN.{length, replicate}
use Rattle.paper.specs.declared.Rule.TheVariants.{Equal, NotEqual, Hash, Pass}
use Rattle.paper.specs.Words.{series}
use Rattle.paper.specs.declared.Fifo.TheVariants.{TxData, TxStatus, RxData, RxStatus}
use Rattle.paper.specs.Memory.{size}
use Rattle.paper.specs.Registers.{RXALL, PASSBAD, Setting, defined, settings, is_defined}
use Rattle.paper.specs.Filter.{ours}
use Rattle.paper.specs.Transmission.{host_words, stored_words, front_words, behind_words}
use Rattle.paper.specs.Sending.{tx_status}
use Rattle.paper.specs.Calls.{MacWrite, RxFifoInf, TxFifoInf, Arrive, TxWord}
use Rattle.paper.specs.Machine.{answers, fresh}
use Rattle.paper.proofs.Compute.{everything}
use Rattle.paper.proofs.Samples.{posted, receiving, station, told, us, another, everybody, seen, frame65, filled}

pub record Row : Type 0 where
  pub row : ℕ
  pub given : List ℕ
  pub printed : List ℕ

-- the four FIFOs' words
abbrev pub sizes : ℕ → List ℕ
sizes n = map (λ f. size f n) (TxData ∷ TxStatus ∷ RxData ∷ RxStatus ∷ [])

-- payload words that the host writes, that are stored, and that are thrown away in front and behind
abbrev pub counts : ℕ → List ℕ
counts a = host_words a ∷ stored_words a ∷ front_words a ∷ behind_words a ∷ []

-- o 5, s 61, align 16, first; and o 31, s 2, align 32
abbrev pub row3 : ℕ
row3 = 0x0105_203D

abbrev pub row4 : ℕ
row4 = 0x021F_0002

-- the answers as 01 numbers its lines
abbrev pub discarded : ℕ
discarded = 4

abbrev pub stored : ℕ
stored = 7

unfoldable pub rows : List Row
rows =
    record { row = 1; given = sizes 5; printed = 1152 ∷ 128 ∷ 2640 ∷ 176 ∷ [] }
    ∷ record { row = 2; given = sizes 2 ++ sizes 14; printed = 384 ∷ 128 ∷ 3360 ∷ 224 ∷ 3456 ∷ 128 ∷ 480 ∷ 32 ∷ [] }
    ∷ record { row = 3; given = counts row3; printed = 20 ∷ 16 ∷ 1 ∷ 3 ∷ [] }
    ∷ record { row = 4; given = counts row4; printed = 16 ∷ 2 ∷ 7 ∷ 7 ∷ [] }
    ∷ record {
      row = 5;
      given = told (answers (TxFifoInf ∷ TxWord row3 ∷ TxWord 100 ∷ series TxWord 1 20 ++ (TxFifoInf ∷ [])) (fresh filled));
      printed = 0x0000_1200 ∷ replicate 22 0 ++ (0x0000_11B8 ∷ []);
    }
    ∷ record {
      row = 6;
      given = map (tx_status 0xBEEF_0040) (0 ∷ 2 ^ 9 ∷ 2 ^ 0 ∷ []);
      printed = 0xBEEF_0000 ∷ 0xBEEF_8200 ∷ 0xBEEF_0001 ∷ [];
    }
    ∷ record { row = 7; given = posted receiving (seen 64 everybody 0x0800); printed = stored ∷ 0x0040_2020 ∷ [] }
    ∷ record {
      row = 8;
      given = posted (receiving + 2 ^ PASSBAD) (seen 63 us 0x0800) ++ posted receiving (seen 63 us 0x0800);
      printed = stored ∷ 0x003F_8820 ∷ discarded ∷ [];
    }
    ∷ record {
      row = 9;
      given = posted receiving (seen 1518 us 0x0800) ++ posted receiving (seen 1519 us 0x0800);
      printed = stored ∷ 0x05EE_0020 ∷ stored ∷ 0x05EF_80A0 ∷ [];
    }
    ∷ record { row = 10; given = posted (receiving + 2 ^ RXALL) (seen 64 another 0x0800); printed = stored ∷ 0x4040_0020 ∷ [] }
    ∷ record {
      row = 11;
      given = posted receiving (seen 64 us 46) ++ posted receiving (seen 64 us 47) ++ posted receiving (seen 65 us 46);
      printed = stored ∷ 0x0040_0000 ∷ stored ∷ 0x0040_1000 ∷ stored ∷ 0x0041_1000 ∷ [];
    }
    ∷ record {
      row = 12;
      given =
          ours (station 0) ++ told (answers (MacWrite 3 0x3322_1102 ∷ MacWrite 2 0x0000_5544 ∷ MacWrite 1 receiving ∷ Arrive frame65 0 ∷ RxFifoInf ∷ []) (fresh filled));
      printed = 0x02 ∷ 0x11 ∷ 0x22 ∷ 0x33 ∷ 0x44 ∷ 0x55 ∷ 0 ∷ 0 ∷ 0 ∷ stored ∷ 0x0001_0044 ∷ [];
    }
    ∷ []

-- Do the definitions give what 01's twelve rows print?
-- Yes, every number of every row.
pub twelve_rows : map (λ (r : Row). r.given) rows ≡ map (λ (r : Row). r.printed) rows
unfolding everything rows
twelve_rows = refl

-- 01's table of the filter as it is printed: (MCPAS, PRMS, INVFILT, HO, HPFILT), 2 for any, and the rules for group and individual addresses.
pub record Line : Type 0 where
  pub marks : List ℕ
  pub rules : Setting

pub printed_lines : List Line
printed_lines =
    record { marks = 0 ∷ 0 ∷ 0 ∷ 0 ∷ 0 ∷ []; rules = defined Equal Equal }
    ∷ record { marks = 0 ∷ 0 ∷ 0 ∷ 0 ∷ 1 ∷ []; rules = defined Hash Equal }
    ∷ record { marks = 0 ∷ 0 ∷ 0 ∷ 1 ∷ 1 ∷ []; rules = defined Hash Hash }
    ∷ record { marks = 0 ∷ 0 ∷ 1 ∷ 0 ∷ 0 ∷ []; rules = defined NotEqual NotEqual }
    ∷ record { marks = 2 ∷ 1 ∷ 0 ∷ 2 ∷ 2 ∷ []; rules = defined Pass Pass }
    ∷ record { marks = 1 ∷ 0 ∷ 0 ∷ 0 ∷ 2 ∷ []; rules = defined Pass Equal }
    ∷ record { marks = 1 ∷ 0 ∷ 0 ∷ 1 ∷ 1 ∷ []; rules = defined Pass Hash }
    ∷ []

-- the five digits of a setting's number
abbrev pub digits : ℕ → List ℕ
digits k = k / 16 % 2 ∷ k / 8 % 2 ∷ k / 4 % 2 ∷ k / 2 % 2 ∷ k % 2 ∷ []

pub meets : List ℕ → List ℕ → Bool
meets [] [] = true
meets [] (d ∷ ds) = false
meets (m ∷ ms) [] = false
meets (m ∷ ms) (d ∷ ds) = (eqb m 2 || eqb m d) && meets ms ds

pub by_lines : List Line → ℕ → Setting
by_lines [] k = None
by_lines (l ∷ ls) k = if meets l.marks (digits k) then l.rules else by_lines ls k

-- Is the table of 32 settings 01's table of seven lines?
-- Yes, entry by entry.
pub settings_as_printed : settings ≡ series (by_lines printed_lines) 0 32
unfolding everything by_lines meets printed_lines
settings_as_printed = refl

pub defined_of : List Setting → ℕ
defined_of [] = 0
defined_of (x ∷ xs) = (if is_defined x then 1 else 0) + defined_of xs

-- 01: "Of the table of the 32 settings 15 are defined"
pub fifteen_defined : (length settings ≡ 32) × (defined_of settings ≡ 15)
unfolding everything defined_of
fifteen_defined = (refl, refl)
