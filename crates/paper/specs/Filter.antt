-- The receive filter. Paper 01, An arriving frame, "Filter".
-- A frame's address is given by its first bytes, head; the destination is the first six.
--   destination head      the six destination bytes
--   is_broadcast, is_group    what kind of address it is; a broadcast is a group address too
--   ours r                our address in wire order
--   in_hash r d           the hash of d finds a 1 in HASHH or HASHL
--   passes_rule rule r d  an address d under one rule of the table
--   passes r head         whether the filter says yes; no for a setting that is undefined, which no register holds
-- Differs from 000: broadcast is judged first, in every mode (ours).
-- Assumes nothing.
use Rattle.std.specs.Prelude.{if◌then◌else◌, Bool, true, false, not, List, [], ◌∷◌, ℕ, ◌%◌, take, get_or, replicate, None, Some}
use Rattle.paper.specs.declared.Registers.{Registers}
use Rattle.paper.specs.declared.Rule.{Rule}
use Rattle.paper.specs.declared.Rule.TheVariants.{Equal, NotEqual, Hash, Pass}
use Rattle.paper.specs.Words.{bit, bits, same}
use Rattle.paper.specs.Registers.{BCAST, Setting, setting_of}
use Rattle.paper.specs.Checksum.{hash}

abbrev pub destination : List ℕ → List ℕ
destination head = take 6 head

-- 01: "Destination FFFFFFFFFFFFh"
abbrev pub is_broadcast : List ℕ → Bool
is_broadcast head = same (destination head) (replicate 6 0xFF)

-- 01: "A group address has bit 0 of its first byte set."
abbrev pub is_group : List ℕ → Bool
is_group head = bit 0 (get_or head 0 0)

-- 01: "Our address, in wire order, is ADDRL bits 7-0, 15-8, 23-16, 31-24, ADDRH bits 7-0, 15-8."
abbrev pub ours : Registers → List ℕ
ours r = bits 7 0 r.addrl ∷ bits 15 8 r.addrl ∷ bits 23 16 r.addrl ∷ bits 31 24 r.addrl ∷ bits 7 0 r.addrh ∷ bits 15 8 r.addrh ∷ []

-- 01: "the highest chooses HASHH (1) or HASHL (0), the other five, x^30 the highest, number the bit, 0 to 31; pass if it is 1"
-- "over the six destination bytes"
abbrev pub in_hash : Registers → List ℕ → Bool
in_hash r d = bit (hash d % 32) (if bit 5 (hash d) then r.hashh else r.hashl)

unfoldable pub passes_rule : Rule → Registers → List ℕ → Bool
passes_rule Equal r d = same d (ours r)
passes_rule NotEqual r d = not (same d (ours r))
passes_rule Hash r d = in_hash r d
passes_rule Pass r d = true

unfoldable pub passes_setting : Setting → Registers → List ℕ → Bool
passes_setting None r head = false
passes_setting (Some rules) r head = passes_rule (if is_group head then rules.group else rules.individual) r (destination head)

-- 01: "Destination FFFFFFFFFFFFh passes exactly when BCAST is clear, in every mode (ours). Otherwise, by (MCPAS, PRMS, INVFILT, HO, HPFILT)"
unfoldable pub passes : Registers → List ℕ → Bool
passes r head = if is_broadcast head then not (bit BCAST r.maccr) else passes_setting (setting_of r.maccr) r head
