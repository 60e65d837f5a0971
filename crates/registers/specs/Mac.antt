-- The MAC registers by number, and what a read or a write of one gives.
--   number_of x            the number of a MAC register
--   Numbered k r           r is the MAC register of number k, or refusal 3 where there is none
--   checked k v            nothing, or refusal 4 where v may not be written to register k
--   read_of k r            register k of r, or refusal 3
--   written_of k v r       r after a write of v to register k, or refusal 3 or 4
-- Assumes nothing.
use Rattle.std.specs.Prelude.{if◌then◌else◌, not, ℕ, Result, MatchResult, Ok, Err, false, ◌≡◌}
use Rattle.paper.specs.declared.Registers.{Registers}
use Rattle.paper.specs.declared.Refusal.{Refusal}
use Rattle.paper.specs.declared.Refusal.TheVariants.{NoRegister, BadValue}
use Rattle.paper.specs.Registers.{is_register, good_value, read_register, write_register}
use Rattle.registers.specs.declared.mac.MacRegister.{MacRegister}
use Rattle.registers.specs.declared.mac.MacRegister.TheVariants.{MacCr, Addrh, Addrl, Hashh, Hashl}

-- 01: "MAC registers by number: 1 MAC_CR, 2 ADDRH, 3 ADDRL, 4 HASHH, 5 HASHL."
abbrev pub number_of : MacRegister → ℕ
number_of MacCr = 1
number_of Addrh = 2
number_of Addrl = 3
number_of Hashh = 4
number_of Hashl = 5

-- 01, refusal 3: "no such register"
abbrev pub Numbered : ℕ → Result MacRegister Refusal → Type 0
Numbered k r = MatchResult r (λ x. number_of x ≡ k) (λ e. (e ≡ NoRegister) × (is_register k ≡ false))

-- 01, refusal 4: "bad value"
abbrev pub checked : (k v : ℕ) → Result (Unit {0}) Refusal
checked k v = if not (good_value k v) then Err BadValue else Ok tt

-- 01: "Reads return the stored value."
abbrev pub read_of : (k : ℕ) → Registers → Result ℕ Refusal
read_of k r = if not (is_register k) then Err NoRegister else Ok (read_register k r)

-- 01: "registers 3, 4, 5"
abbrev pub written_of : (k v : ℕ) → Registers → Result Registers Refusal
written_of k v r =
    if not (is_register k) then Err NoRegister else
    if not (good_value k v) then Err BadValue else
    Ok (write_register k v r)
